-- Expressions that are numbered one after another. Assumes nothing.
use Rattle.std.proofs.Common.{◌≡◌, ℕ, suc, ◌+◌, ◌<◌, Bool, true, false, ◌⊎◌, List, [], ◌∷◌, ◌++◌, length, get_or, take, ℤ, is_err, Some, None, Result, sym, ap, ◌∙◌, subst, inl, inr, append-nil, add-one, arith, length-append}
use Rattle.line.specs.declared.syntax.Line.{Line}
use Rattle.numbering.specs.declared.list.NoRoom.{NoRoom}
use Rattle.numbering.specs.Lists.{Answered, ByAppearance}
use Rattle.numbering.specs.Numbers.{Numbered, append_unless, known, entered, firsts}
use Rattle.numbering.proofs.Appearance.{firsts_more}
use Rattle.numbering.proofs.Entering.{way, known_way, new_way, full_way}
use Rattle.wellformed.specs.Faults.{Crowded, Fits}
use Rattle.wellformed.specs.Lines.{onto, computed}
use Rattle.wellformed.proofs.Lined.{computed_push}
use Rattle.program.specs.declared.expression.Expression.{Expression}
use Rattle.program.specs.Asked.{asks, computes}
use Rattle.program.specs.Sames.{same_expression}
use Rattle.program.specs.Written.{Lines, expressions_in}
use Rattle.program.specs.SamesLemmas.{expression_laws}
use Rattle.program.proofs.Scanning.{take_step}

-- line k is numbered after those before it
module _ (ls : Lines) (k : ℕ) (x : Line ℤ) (i : k < length ls) (r : x ≡ get_or ls k x) where
  computed_step : computed asks (take (k + 1) ls) ≡ computed asks (take k ls) ++ onto (computes x) []
  computed_step = ap (computed asks) (take_step ls k x i r) ∙ computed_push asks (take k ls) x

  -- it computes nothing
  same_expressions : computes x ≡ None → expressions_in (take (k + 1) ls) ≡ expressions_in (take k ls)
  same_expressions n = ap (firsts same_expression) (computed_step ∙ ap (λ o. computed asks (take k ls) ++ onto o []) n ∙ append-nil (computed asks (take k ls)))

  -- it computes e
  more_expressions : (e : Expression) → computes x ≡ Some e → expressions_in (take (k + 1) ls) ≡ append_unless (known same_expression e (expressions_in (take k ls))) e (expressions_in (take k ls))
  more_expressions e s = ap (firsts same_expression) (computed_step ∙ ap (λ o. computed asks (take k ls) ++ onto o []) s) ∙ firsts_more expression_laws e (computed asks (take k ls))

  -- not one expression more
  not_crowded : expressions_in (take (k + 1) ls) ≡ expressions_in (take k ls) → Fits asks ls Crowded (suc k) → ⊥
  not_crowded e t =
      let a = ap length e in
      let b = ap (λ (j : ℕ). length (expressions_in (take j ls))) (add-one k) in
      let p = t.0 in
      let q = t.1 in
      omega arith

  module _ (t : Numbered Expression) (held : t.items ≡ expressions_in (take k ls)) where
    pub quiet : computes x ≡ None → (t.items ≡ expressions_in (take (k + 1) ls)) × (Fits asks ls Crowded (suc k) → ⊥)
    quiet n = (held ∙ sym (same_expressions n), not_crowded (same_expressions n))

    grown : (e : Expression) → computes x ≡ Some e → (b : Bool) → known same_expression e t.items ≡ b → expressions_in (take (k + 1) ls) ≡ append_unless b e t.items
    grown e s b p = more_expressions e s ∙ ap (λ (l : List Expression). append_unless (known same_expression e l) e l) (sym held) ∙ ap (λ c. append_unless c e t.items) p

    -- the answer to e: it has its number, or there is no room for it
    pub crowds : (e : Expression) (o : Result ℕ NoRoom) (after : List Expression) → t.room ≡ 64 → computes x ≡ Some e → Answered (entered same_expression t.room e t.items) o after → ByAppearance same_expression t.room e t.items o after
        → ((is_err o ≡ false) × (after ≡ expressions_in (take (k + 1) ls)) × (Fits asks ls Crowded (suc k) → ⊥)) ⊎ ((is_err o ≡ true) × Fits asks ls Crowded (suc k))
    crowds e o after room s answered appears =
        let size = ap length held in
        elim (way same_expression t.room e t.items o after answered) [
          | known_way p q r ↦ inl (ap is_err q, r ∙ sym (grown e s true p), not_crowded (grown e s true p ∙ held))
          | new_way p l q r ↦ inl (ap is_err q, r ∙ sym (grown e s false p), λ f. let z = f.0 in omega arith)
          | full_way p l q r ↦
              let full : length t.items ≡ t.room = (subst (λ (o' : Result ℕ NoRoom). ByAppearance same_expression t.room e t.items o' after) q appears).1 in
              let more = ap length (grown e s false p) in
              let one = length-append t.items (e ∷ []) in
              let next = ap (λ (j : ℕ). length (expressions_in (take j ls))) (add-one k) in
              inr (ap is_err q, (omega arith, omega arith))
        ]
