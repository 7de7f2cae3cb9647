-- A depth is missing exactly where the entry cannot reach. Assumes nothing.
use Rattle.std.proofs.Common.{◌≡◌, ℕ, suc, ◌<◌, Bool, true, false, not, ◌||◌, T, List, [], ◌∷◌, Some, None, is_none, sym, refl, ap, ◌∙◌, subst, inl, inr, arith}
use Rattle.std.proofs.lemmas.Bool.{cases_eq}
use Rattle.std.proofs.lemmas.Bool.Decides.{nat_tests}
use Rattle.facts.specs.Depths.{Depth, shallower}
use Rattle.facts.specs.Levels.{level_ext}
use Rattle.flow.specs.Distances.{at_entry, further}
use Rattle.flow.specs.Equations.{inflow, Safe, Solution}
use Rattle.graph.specs.Paths.{member, Reaches}
use Rattle.graph.specs.Shapes.{Shape, SameEdges, AllBelow}
use Rattle.numbering.proofs.Bools.{not_i, not_e}
use Rattle.std.specs.List.{list_any}
use Rattle.reach.specs.Near.{near}
use Rattle.reach.proofs.Near.{some_at, some_of, near_entry, near_step, near_reaches, reaches_near}
use Rattle.reach.proofs.Paths.{path_keeps}

abbrev known : Depth → Bool
known d = not (is_none d)

-- what comes in over the edges from the nodes of a list
abbrev comes : (ℕ → Depth) → List ℕ → Depth
comes = inflow None shallower (λ _ d. further d)

known_either : (a b : Depth) → known (shallower (further a) b) ≡ (known a || known b)
known_either (Some a) (Some b) = refl
known_either (Some a) None = refl
known_either None b = refl

-- a depth comes in exactly if one of the nodes has one
known_comes : (f : ℕ → Depth) (l : List ℕ) → known (comes f l) ≡ list_any (λ n. known (f n)) l
known_comes f [] = refl
known_comes f (k ∷ l) = known_either (f k) (comes f l) ∙ ap (λ b. known (f k) || b) (known_comes f l)

-- 0 or missing
abbrev zero_if : Bool → Depth
zero_if true = at_entry
zero_if false = None

zero_known : (b : Bool) → T (known (zero_if b)) → T b
zero_known true t = t
zero_known false t = t

-- it lies below a depth exactly if it is 0 where that is not missing

zero_below : (b : Bool) (d : Depth) → (T (known d) → T b) → shallower (zero_if b) d ≡ zero_if b
zero_below true (Some l) h = ap Some (level_ext _ _ (grind (arith, nat_tests)))
zero_below true None h = refl
zero_below false (Some l) h = absurd (h tt)
zero_below false None h = refl

below_zero : (b : Bool) (d : Depth) → shallower (zero_if b) d ≡ zero_if b → T (known d) → T b
below_zero true d e t = tt
below_zero false d e t = subst (λ (a : Depth). T (known a)) e t

module _ (s : Shape) (edges : SameEdges s) (closed : (n : ℕ) → AllBelow s.count (s.preds n)) where
  -- 0 at what is near and missing elsewhere
  abbrev table : ℕ → Depth
  table n = zero_if (near s s.count n)

  table_safe : Safe s None shallower at_entry (λ _ d. further d) table
  table_safe = record {
    entry_holds = zero_below (near s s.count s.entry) at_entry (λ _. near_entry s s.count);
    elsewhere = λ n i _. zero_below (near s s.count n) (comes table (s.preds n)) (λ t.
        let m = some_at (λ k. known (table k)) (s.preds n) (subst T (known_comes table (s.preds n)) t) in
        let c = s.count in
        reaches_near s edges closed n i (near_reaches s edges (suc c) n (near_step s c m.0 n m.1 (zero_known (near s c m.0) m.2))));
  }

  module _ (f : ℕ → Depth) (d : Solution s None shallower at_entry (λ _ d. further d) f) where
    known_at : (n : ℕ) (a : Depth) → f n ≡ a → T (known a) → T (known (f n))
    known_at n a e = subst (λ (b : Depth). T (known b)) (sym e)

    known_on : (m n : ℕ) → n < s.count → T (member m (s.preds n)) → T (known (f m)) → T (known (f n))
    known_on m n i q t = elim (cases_eq n s.entry) [
      | inl e ↦ known_at n at_entry (ap f e ∙ d.entry_holds) tt
      | inr e ↦ known_at n _ (d.elsewhere n i e) (subst T (sym (known_comes f (s.preds n))) (some_of (λ k. known (f k)) (s.preds n) m q t))
    ]

    -- a node has a depth exactly if the entry reaches it
    pub depth_tells : (n : ℕ) → n < s.count
        → ((¬ T (is_none (f n))) → Reaches s s.entry n) × (Reaches s s.entry n → ¬ T (is_none (f n)))
    depth_tells n i = (
      (λ h. near_reaches s edges s.count n (below_zero (near s s.count n) (f n) (d.greatest table table_safe n i) (not_i (is_none (f n)) h))),
      (λ r. not_e (is_none (f n)) (path_keeps s edges closed (λ m. T (known (f m))) known_on s.entry r.0 n r.1 i (known_at s.entry at_entry d.entry_holds tt))),
    )
