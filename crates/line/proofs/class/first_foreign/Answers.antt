use Rattle.std.proofs.Common.{◌≡◌, ℕ, ◌+◌, Bool, true, false, cond, List, [], ◌∷◌, Some, refl, sym, ap, ◌∙◌, rules, tests}
use Rattle.std.specs.List.{position_from}
use Rattle.std.specs.Option.{option_map}
use Rattle.std.proofs.lemmas.Iterator.{YieldsList-from_slice}
use Rattle.std.proofs.lemmas.Iterator.Adapters.{position_from-zero}
use Rattle.std.proofs.lemmas.Iterator.Search.{position_from_yields_List}
use Rattle.line.specs.Classes.{class_by_rule, is_foreign}
use Rattle.line.proofs.class.first_foreign.Goals as goal

-- a place counted from one more
shifted : (test : ℕ → Bool) (i : ℕ) (xs : List ℕ) → option_map (λ k. k + 1) (position_from test i xs) ≡ position_from test (i + 1) xs
shifted test i [] = refl
shifted test i (x ∷ xs) =
    elim (test x) as (λ b. option_map (λ k. k + 1) (cond b (Some i) (position_from test (i + 1) xs)) ≡ cond b (Some (i + 1)) (position_from test (i + 1 + 1) xs))
    [ true ↦ refl | false ↦ shifted test (i + 1) xs ]

pub returns : goal.returns
returns c =
    let test : ℕ → Bool = λ b. is_foreign (class_by_rule b) in
    let t = c.args.text.now in
    let found = position_from_yields_List test _ _ _ c.position.ensures.ran (YieldsList-from_slice t cc) (λ x b q k. search (rules, tests)) in
    ap (option_map (λ k. k + 1)) (sym c.in_ok-place.was ∙ found ∙ position_from-zero test t) ∙ shifted test 0 t

pub returns-in_err-place : goal.returns-in_err-place
returns-in_err-place c =
    let test : ℕ → Bool = λ b. is_foreign (class_by_rule b) in
    let t = c.args.text.now in
    let found = position_from_yields_List test _ _ _ c.position.ensures.ran (YieldsList-from_slice t cc) (λ x b q k. search (rules, tests)) in
    c.from_residual.ensures ∙ ap (option_map (λ k. k + 1)) (sym c.in_err-place.was ∙ found ∙ position_from-zero test t) ∙ shifted test 0 t
