-- Paths through a graph. Assumes nothing.
use Rattle.std.specs.Prelude.{◌≡◌, ℕ, Bool, false, ◌||◌, T, List, [], ◌∷◌, ◌==◌}
use Rattle.graph.specs.Shapes.{Shape}

-- n stands in the list
abbrev pub member : ℕ → List ℕ → Bool
member n [] = false
member n (m ∷ ms) = n == m || member n ms

-- from n, the nodes t one after another lead over edges to m
abbrev pub Path : Shape → ℕ → List ℕ → ℕ → Type 0
Path s n [] m = n ≡ m
Path s n (k ∷ t) m = T (member k (s.succs n)) × Path s k t m

-- n can reach m: some path leads there
abbrev pub Reaches : Shape → ℕ → ℕ → Type 0
Reaches s n m = (t : List ℕ) × Path s n t m
