use Rattle.std.proofs.Common.{◌≡◌, ℕ, suc, ◌+◌, Bool, true, false, not, nat_eq, ◌⊎◌, length, take, Ok, Err, Result, sym, refl, ap, ◌∙◌, inl, inr, arith, below_more}
use Rattle.std.specs.Result.{result_eq}
use Rattle.std.proofs.lemmas.Bool.{false≢true, eqb-true, eq-eqb}
use Rattle.numbering.specs.declared.list.NoRoom.{NoRoom}
use Rattle.std.proofs.lemmas.List.{take_all}
use Rattle.wellformed.specs.Faults.{Repeated, Fits}
use Rattle.wellformed.proofs.Judged.{named_in}
use Rattle.program.specs.Asked.{asks}
use Rattle.program.specs.Refusals.{labels_of}
use Rattle.program.proofs.Repeating.{repeats}
use Rattle.program.proofs.Scanning.{none_left}
use Rattle.program.proofs.sealing.labels.first_repeated.Goals as goal
use Rattle.program.proofs.sealing.labels.first_repeated.Goals.{After-number}

-- the answer to the label of a line, by whether the line repeats it
numbered : (c : goal.After-number) → ((c.number.result ≡ Ok c.loop-number.number) × (c.number.new.self.items ≡ labels_of (take (c.loop-number.number + 1) c.args.lines.now)) × (Fits asks c.args.lines.now Repeated (suc c.loop-number.number) → ⊥))
    ⊎ ((c.number.result ≡ Ok c.loop-number.number → ⊥) × Fits asks c.args.lines.now Repeated (suc c.loop-number.number))
numbered c =
    let room = c.loop-number.invariant.1 in
    repeats c.args.lines.now c.loop-number.number c.index-lines-number.result c.loop-number-test.true c.index-lines-number.is
    c.loop-number.labels.items c.loop-number.invariant.0 c.loop-number.labels.room c.number.result c.number.new.self.items
    (omega (arith, c.requires.room)) c.number.ensures.value

-- what the comparison with a number tells of the answer

module _ (E : NoRoom → NoRoom → Bool) (k : ℕ) where
  same_number : (r : Result ℕ NoRoom) → not (result_eq nat_eq E r (Ok k)) ≡ false → r ≡ Ok k
  same_number (Ok m) e = ap Ok (eqb-true m k (not_false (nat_eq m k) e))
    where
      not_false : (b : Bool) → not b ≡ false → b ≡ true
      not_false true e = refl
      not_false false e = absurd (false≢true (sym e))
  same_number (Err x) e = absurd (false≢true (sym e))

  other_number : (r : Result ℕ NoRoom) → not (result_eq nat_eq E r (Ok k)) ≡ true → r ≡ Ok k → ⊥
  other_number r e o = false≢true (sym (ap not (eq-eqb k k refl)) ∙ sym (ap (λ s. not (result_eq nat_eq E s (Ok k))) o) ∙ e)

pub returns-then-ne : goal.returns-then-ne
returns-then-ne c = elim (numbered (goal.at.returns-then-ne c).After-number) [
  | inl h ↦ absurd (other_number _ c.loop-number.number c.number.result (sym c.ne.ensures ∙ c.if-ne.true) h.0)
  | inr h ↦ record { lowest = (h.1, c.loop-number.invariant.2); labels = λ e. absurd (let z : ◌≡◌ {A = ℕ} 0 1 = cc in omega arith) }
]

pub loop-number-preserved : goal.loop-number-preserved
loop-number-preserved c = elim (numbered (goal.at.loop-number-preserved c).After-number) [
  | inl h ↦ (h.1, c.number.ensures.room ∙ c.loop-number.invariant.1, below_more (λ k. Fits asks c.args.lines.now Repeated (suc k) → ⊥) c.loop-number.number c.loop-number.invariant.2 h.2)
  | inr h ↦ absurd (h.0 (same_number _ c.loop-number.number c.number.result (sym c.ne.ensures ∙ c.if-ne.false)))
]

pub returns : goal.returns
returns c =
    let ls = c.args.lines.now in
    record {
      lowest = none_left (Fits asks ls Repeated) c.loop-number.number (length ls) c.loop-number-test.false (λ k t. let i = named_in asks ls Repeated (suc k) t in omega arith) c.loop-number.invariant.2;
      labels = λ e. c.loop-number.invariant.0 ∙ ap labels_of (take_all c.loop-number.number ls c.loop-number-test.false);
    }
