-- The lists of neighbours that stand in two arrays. Assumes nothing.
use Rattle.std.specs.Prelude.{ℕ, ◌+◌, ◌-◌, cond, List, [], take, drop, nat_lt, slice_index}
use Rattle.graph.specs.declared.adjacency.Adjacency.{Adjacency}

-- the neighbours of node n
abbrev pub row : Adjacency → ℕ → List ℕ
row a n = take (slice_index a.starts (n + 1) - slice_index a.starts n) (drop (slice_index a.starts n) a.ends)

-- the same where n is below c, and else none
abbrev pub row_values_below : ℕ → Adjacency → ℕ → List ℕ
row_values_below c a n = cond (nat_lt n c) (row a n) []
