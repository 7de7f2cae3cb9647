-- What is answered to a text is what the grammar says. Assumes nothing.
use Rattle.std.proofs.Common.{◌≡◌, ℕ, ◌+◌, ◌≤◌, ltb, List, [], length, ℤ, Some, None, Ok, Err, Option, Result, sym, refl, ap, ◌∙◌, subst, arith}
use Rattle.std.proofs.lemmas.Bool.{cond_both, cond-false, ltb-true, ltb-false, le-ltb}
use Rattle.fault.specs.declared.Flaw.{Flaw}
use Rattle.fault.specs.declared.Kind.TheVariants.{TooLong, ForeignByte}
use Rattle.line.specs.declared.parse.Stop.{Stop}
use Rattle.line.specs.declared.syntax.Line.{Line}
use Rattle.line.specs.Classes.{foreign_at}
use Rattle.line.specs.Grammar.{spell, printed, Wide, Proper}
use Rattle.line.specs.Pieces.{pieces}
use Rattle.line.specs.Ranges.{beyond_at}
use Rattle.fault.specs.Table.{flaw_at}
use Rattle.line.specs.Readings.{ranged, spelt, clean, reading, tokens, Clean, Spells, too_long, foreign, not_a_line, out_of_range, Answers, Reads}
use Rattle.line.specs.States.{start, done, run, placed, parsed}
use Rattle.line.specs.Words.{Text}
use Rattle.line.proofs.Bounds.{Within, within_none, none_within, proper_within, within_proper, proper_wide}
use Rattle.line.proofs.Made.{run_made}
use Rattle.line.proofs.Pressed.{printed_tokens, printed_native}
use Rattle.line.proofs.Viable.{stopped}
use Rattle.line.proofs.Walks.{walk, run_walk, spell_walk}

placed_ok : (end : ℕ) (r : Result (Line ℤ) Stop) (x : Line ℤ) → placed end r ≡ Ok x → r ≡ Ok x
placed_ok end (Ok y) x e = cc
placed_ok end (Err s) x e = cc

-- a line that was parsed: its tokens, and that its numbers have at most ten digits
pub parsed_line : (bs : Text) (x : Line ℤ) → parsed bs ≡ Ok x → Wide x × (tokens bs ≡ spell x)
parsed_line bs x e = run_made start (pieces 1 bs) x [] refl (placed_ok (1 + length bs) (run start (pieces 1 bs)) x e)

-- if no number is out of range, it is a line of the grammar
pub parsed_proper : (bs : Text) (x : Line ℤ) → parsed bs ≡ Ok x → beyond_at (pieces 1 bs) ≡ None → Proper x
parsed_proper bs x e n = let h = parsed_line bs x e in within_proper x h.0 (subst Within h.1 (none_within (pieces 1 bs) n))

answers_ranged : (bs : Text) (x : Line ℤ) (o : Option ℕ) → Clean bs → parsed bs ≡ Ok x → beyond_at (pieces 1 bs) ≡ o → Answers bs (ranged x o)
answers_ranged bs x None k e q = (k, parsed_proper bs x e q, (parsed_line bs x e).1)
answers_ranged bs x (Some c) k e q = let h = parsed_line bs x e in out_of_range c refl k (record { whole = x; wide = h.0; spelt_by = h.1 }) q

answers_spelt : (bs : Text) (r : Result (Line ℤ) ℕ) → Clean bs → parsed bs ≡ r → Answers bs (spelt bs r)
answers_spelt bs (Err c) k e = not_a_line c refl k (stopped bs c e)
answers_spelt bs (Ok x) k e = answers_ranged bs x (beyond_at (pieces 1 bs)) k e refl

answers_clean : (bs : Text) (o : Option ℕ) → length bs ≤ 80 → foreign_at 1 bs ≡ o → Answers bs (clean bs o)
answers_clean bs (Some c) h q = foreign c refl h q
answers_clean bs None h q = answers_spelt bs (parsed bs) (h, q) refl

answers : (bs : Text) → Answers bs (reading bs)
answers bs =
    cond_both (ltb 80 (length bs)) (Err (flaw_at TooLong 81)) (clean bs (foreign_at 1 bs)) (Answers bs)
    (λ e. too_long refl (ltb-true 80 (length bs) e))
    (λ e. answers_clean bs (foreign_at 1 bs) (omega (arith, ltb-false 80 (length bs) e)) refl)

complete : (bs : Text) (x : Line ℤ) → Spells bs x → reading bs ≡ Ok x
complete bs x s =
    cond-false (ltb 80 (length bs)) (Err (flaw_at TooLong 81)) (clean bs (foreign_at 1 bs)) (le-ltb 80 (length bs) s.0.0)
    ∙ ap (clean bs) s.0.1
    ∙ ap (λ r. spelt bs (placed (1 + length bs) r)) (run_walk start (pieces 1 bs) x (subst (λ (ts : List Text). walk start ts ≡ Some (done x)) (sym s.2) (spell_walk x (proper_wide x s.1))))
    ∙ ap (ranged x) (within_none (pieces 1 bs) (subst Within (sym s.2) (proper_within x s.1)))

pub reads_exactly : (bs : Text) → Reads bs (reading bs)
reads_exactly bs = record { answers = answers bs; complete = complete bs }

-- a printed line reads back as that line
pub reads_back : (x : Line ℤ) → Proper x → length (printed x) ≤ 51 → reading (printed x) ≡ Ok x
reads_back x p h =
    let w = proper_wide x p in
    complete (printed x) x ((omega arith, printed_native x w), p, printed_tokens x w)

-- an answer that is the reading's is the grammar's
pub answered : (bs : Text) (r : Result (Line ℤ) Flaw) → r ≡ reading bs → Reads bs r
answered bs r e = subst (Reads bs) (sym e) (reads_exactly bs)

-- each way through the reader
pub foreign_text : (bs : Text) (c : ℕ) → length bs ≤ 80 → Some c ≡ foreign_at 1 bs → Err (flaw_at ForeignByte c) ≡ reading bs
foreign_text bs c h e = sym (cond-false (ltb 80 (length bs)) (Err (flaw_at TooLong 81)) (clean bs (foreign_at 1 bs)) (le-ltb 80 (length bs) h) ∙ ap (clean bs) (sym e))

pub clean_text : (bs : Text) (r : Result (Line ℤ) ℕ) → length bs ≤ 80 → None ≡ foreign_at 1 bs → r ≡ parsed bs → spelt bs r ≡ reading bs
clean_text bs r h e q =
    sym (cond-false (ltb 80 (length bs)) (Err (flaw_at TooLong 81)) (clean bs (foreign_at 1 bs)) (le-ltb 80 (length bs) h) ∙ ap (clean bs) (sym e) ∙ ap (spelt bs) (sym q))
