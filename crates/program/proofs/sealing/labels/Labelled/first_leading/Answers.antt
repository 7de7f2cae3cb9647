use Rattle.std.proofs.Common.{◌≡◌, suc, length, sym, ap, ◌∙◌, below_more}
use Rattle.line.specs.Words.{same_label}
use Rattle.numbering.specs.Numbers.{number_in}
use Rattle.wellformed.proofs.Lined.{at_in}
use Rattle.program.specs.Asked.{nexts}
use Rattle.program.specs.Refusals.{labels_of, same_line_number, one_leads, Leads}
use Rattle.program.proofs.Leading.{same_line, none_more, line_leads, line_passes}
use Rattle.program.proofs.Scanning.{none_left}
use Rattle.program.proofs.sealing.labels.Labelled.first_leading.Goals as goal
use Rattle.program.proofs.sealing.labels.Labelled.first_leading.Goals.{After-eq}

-- what the comparison tells of a label
compared : (c : goal.After-eq) → c.eq.result ≡ same_line_number (number_in same_label c.label-item.result (labels_of c.args.self.now.lines.now)) c.args.to
compared c = same_line c.find.result c.args.to c.eq.result c.eq.ensures
    ∙ ap (λ o. same_line_number o c.args.to) (c.find.ensures.value ∙ ap (number_in same_label c.label-item.result) c.args.self.now.named)

pub loop-label-preserved : goal.loop-label-preserved
loop-label-preserved c =
    none_more c.args.self.now.lines.now c.args.to c.labels-label-items.result.now c.loop-label.label-index c.label-item.result c.loop-label-test.true c.label-item.is
    c.loop-label.invariant (sym (compared (goal.at.loop-label-preserved c).After-eq) ∙ c.if-eq.false)

pub loop-number-preserved : goal.loop-number-preserved
loop-number-preserved c =
    let ls = c.args.self.now.lines.now in
    below_more (λ k. Leads ls c.args.to (suc k) → ⊥) c.loop-number.number c.loop-number.invariant
    (line_passes ls c.args.to c.loop-number.number c.line-item.result c.loop-number-test.true c.line-item.is
    c.labels-label-items.result.now (c.labels-label-items.ensures ∙ c.of.ensures) c.loop-label.label-index c.loop-label-test.false c.loop-label.invariant)

pub returns-then-eq : goal.returns-then-eq
returns-then-eq c = (
  line_leads c.args.self.now.lines.now c.args.to c.loop-number.number c.line-item.result c.loop-number-test.true c.line-item.is
      c.labels-label-items.result.now (c.labels-label-items.ensures ∙ c.of.ensures) c.loop-label.label-index c.label-item.result c.loop-label-test.true c.label-item.is
      (sym (compared (goal.at.returns-then-eq c).After-eq) ∙ c.if-eq.true),
  c.loop-number.invariant,
)

pub returns-after-loop-number : goal.returns-after-loop-number
returns-after-loop-number c =
    let ls = c.args.self.now.lines.now in
    none_left (Leads ls c.args.to) c.loop-number.number (length ls) c.loop-number-test.false
    (λ k t. at_in (λ x. one_leads ls c.args.to (nexts x)) ls k t) c.loop-number.invariant
