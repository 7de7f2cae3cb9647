use Rattle.std.proofs.Common.{◌≡◌, ℕ, suc, length, sym, ap, ◌∙◌, inl, inr, arith, below_more}
use Rattle.std.proofs.lemmas.List.{take_all}
use Rattle.std.proofs.lemmas.Bool.{false≢true}
use Rattle.wellformed.specs.Faults.{Crowded, Fits}
use Rattle.wellformed.proofs.Judged.{named_in}
use Rattle.numbering.specs.Numbers.{Numbered}
use Rattle.program.specs.Asked.{asks}
use Rattle.program.specs.Written.{expressions_in}
use Rattle.program.proofs.Crowding.{quiet, crowds}
use Rattle.program.proofs.Scanning.{none_left}
use Rattle.program.proofs.sealing.expressions.first_crowding.Goals as goal
use Rattle.program.proofs.sealing.expressions.first_crowding.Goals.{in-Some+else-is_err, in_default}

pub returns-then-is_err : goal.returns-then-is_err
returns-then-is_err c =
    elim (crowds c.args.lines.now c.loop-number.number c.index-lines-number.result c.loop-number-test.true c.index-lines-number.is c.loop-number.table c.loop-number.invariant.0
    c.in-Some.expression c.number.result c.number.new.self.items c.loop-number.invariant.1 (sym c.in-Some.ensures.value) c.number.ensures.value c.number.ensures.appearance) [
      | inl h ↦ absurd (false≢true (sym h.0 ∙ sym c.if-is_err.ensures.value))
      | inr h ↦ record { lowest = (h.1, c.loop-number.invariant.2); table = λ e. absurd (let z : ◌≡◌ {A = ℕ} 0 1 = cc in omega arith) }
    ]

pub loop-number-preserved : goal.loop-number-preserved
loop-number-preserved c =
    let ls = c.args.lines.now in
    let k = c.loop-number.number in
    elim c.match-of.branch [
      | in-Some+else-is_err w ↦
          elim (crowds ls k c.index-lines-number.result c.loop-number-test.true c.index-lines-number.is c.loop-number.table c.loop-number.invariant.0
          w.in-Some.expression w.number.result w.number.new.self.items c.loop-number.invariant.1 (sym w.in-Some.ensures.value) w.number.ensures.value w.number.ensures.appearance) [
            | inl h ↦ (
              ap (λ (t : Numbered _). t.items) w.table-is ∙ h.1,
              ap (λ (t : Numbered _). t.room) w.table-is ∙ w.number.ensures.room ∙ c.loop-number.invariant.1,
              below_more (λ j. Fits asks ls Crowded (suc j) → ⊥) k c.loop-number.invariant.2 h.2,
            )
            | inr h ↦ absurd (false≢true (w.if-is_err.ensures.value ∙ h.0))
          ]
      | in_default w ↦
          let h = quiet ls k c.index-lines-number.result c.loop-number-test.true c.index-lines-number.is c.loop-number.table c.loop-number.invariant.0 (sym w.in_default.ensures.value) in
          (ap (λ (t : Numbered _). t.items) w.table-is ∙ h.0, ap (λ (t : Numbered _). t.room) w.table-is ∙ c.loop-number.invariant.1, below_more (λ j. Fits asks ls Crowded (suc j) → ⊥) k c.loop-number.invariant.2 h.1)
    ]

pub returns : goal.returns
returns c =
    let ls = c.args.lines.now in
    record {
      lowest = none_left (Fits asks ls Crowded) c.loop-number.number (length ls) c.loop-number-test.false (λ k t. let i = named_in asks ls Crowded (suc k) t in omega arith) c.loop-number.invariant.2;
      table = λ e. c.loop-number.invariant.0 ∙ ap expressions_in (take_all c.loop-number.number ls c.loop-number-test.false);
    }
