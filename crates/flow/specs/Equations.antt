-- The equations of a data-flow problem, and their greatest solution. Assumes nothing.
use Rattle.std.specs.Prelude.{◌≡◌, ℕ, ◌<◌, ◌≤◌, List, [], ◌∷◌, ◌≢◌}
use Rattle.facts.specs.Order.{Below}
use Rattle.graph.specs.Shapes.{Shape}

-- what comes in over the edges from ms: the meet of each tail's step on the tail's fact
abbrev pub inflow : {F : Type 0} → F → (F → F → F) → (ℕ → F → F) → (ℕ → F) → List ℕ → F
inflow top meet step f [] = top
inflow top meet step f (m ∷ ms) = meet (step m (f m)) (inflow top meet step f ms)

-- f lies below its own equations; every solution does
pub record Safe {F : Type 0} (s : Shape) (top : F) (meet : F → F → F) (given : F) (step : ℕ → F → F) (f : ℕ → F) : Type 0 where
  pub entry_holds : Below meet (f s.entry) given
  pub elsewhere : (n : ℕ) → n < s.count → (n ≢ s.entry) → Below meet (f n) (inflow top meet step f (s.preds n))

-- f is the greatest solution: it meets the equations, and whatever lies below its own equations lies below f
pub record Solution {F : Type 0} (s : Shape) (top : F) (meet : F → F → F) (given : F) (step : ℕ → F → F) (f : ℕ → F) : Type 0 where
  pub entry_holds : f s.entry ≡ given
  pub elsewhere : (n : ℕ) → n < s.count → (n ≢ s.entry) → f n ≡ inflow top meet step f (s.preds n)
  pub greatest : (h : ℕ → F) → Safe s top meet given step h → (n : ℕ) → n < s.count → Below meet (h n) (f n)
  -- past the last node
  pub beyond : (n : ℕ) → s.count ≤ n → f n ≡ top
