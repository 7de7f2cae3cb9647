use Rattle.std.proofs.Common.{◌≡◌, ℕ, suc, take, Some, None, Option, Result, MatchResult, sym, refl, ◌∙◌, subst, below_more}
use Rattle.std.specs.Option.{ok_or}
use Rattle.fault.specs.declared.Fault.{Fault}
use Rattle.wellformed.specs.Faults.{Halts, Fits, Clean}
use Rattle.program.specs.Asked.{asks}
use Rattle.program.specs.Refusals.{Refused}
use Rattle.program.specs.Written.{exit_line}
use Rattle.program.proofs.Halting.{was_found, none_found, runs_on, first_halts, second_halts, refuse_second, refuse_none, one_halts}
use Rattle.program.proofs.sealing.halt.only_halt.Goals as goal
use Rattle.program.proofs.sealing.halt.only_halt.Goals.{then-halts+else-is_some, else-halts}

pub returns-then-is_some : goal.returns-then-is_some
returns-then-is_some c =
    let ls = c.args.lines.now in
    let k = c.loop-number.number in
    let before = was_found (take k ls) c.loop-number.halt c.loop-number.invariant.0 c.if-is_some.ensures in
    refuse_second ls c.requires k
    (second_halts ls k c.index-lines-number.result c.loop-number-test.true c.index-lines-number.is (sym c.if-halts.ensures) before)
    before c.loop-number.invariant.1 c.on.result c.on.ensures

pub loop-number-preserved : goal.loop-number-preserved
loop-number-preserved c =
    let ls = c.args.lines.now in
    let k = c.loop-number.number in
    elim c.if-halts.branch [
      | then-halts+else-is_some w ↦
          let h = first_halts ls k c.index-lines-number.result c.loop-number-test.true c.index-lines-number.is (sym w.if-halts.ensures)
          (none_found (take k ls) c.loop-number.halt c.loop-number.invariant.0 w.if-is_some.ensures) in
          (w.halt-is ∙ h.0, below_more (λ j. Fits asks ls Halts (suc j) → ⊥) k c.loop-number.invariant.1 h.1)
      | else-halts w ↦
          let h = runs_on ls k c.index-lines-number.result c.loop-number-test.true c.index-lines-number.is c.loop-number.halt (sym w.if-halts.ensures) c.loop-number.invariant.0 in
          (w.halt-is ∙ h.0, below_more (λ j. Fits asks ls Halts (suc j) → ⊥) k c.loop-number.invariant.1 h.1)
    ]

-- whether a line was found that halts
told : (c : goal.After-ok_or) (o : Option ℕ) → c.loop-number.halt ≡ o
    → MatchResult (ok_or o c.on-2.result) (λ n. (n ≡ exit_line c.args.lines.now) × Clean asks c.args.lines.now 11) (Refused c.args.lines.now)
told c (Some n) e = one_halts c.args.lines.now c.requires c.loop-number.number c.loop-number-test.false c.loop-number.invariant.1 n (sym e ∙ c.loop-number.invariant.0)
told c None e = refuse_none c.args.lines.now c.requires c.loop-number.number c.loop-number-test.false c.loop-number.invariant.1 (sym e ∙ c.loop-number.invariant.0) c.on-2.result c.on-2.ensures

pub returns : goal.returns
returns c =
    subst (λ (r : Result ℕ Fault). MatchResult r (λ n. (n ≡ exit_line c.args.lines.now) × Clean asks c.args.lines.now 11) (Refused c.args.lines.now)) (sym c.ok_or.ensures.value)
    (told c c.loop-number.halt refl)
