-- Reach as a computed test. Assumes nothing.
use Rattle.std.specs.Prelude.{ℕ, zero, suc, Bool, ◌||◌, ◌==◌}
use Rattle.std.specs.List.{list_any}
use Rattle.graph.specs.Shapes.{Shape}

-- the entry reaches n over at most k edges
abbrev pub near : Shape → ℕ → ℕ → Bool
near s zero n = n == s.entry
near s (suc k) n = near s k n || list_any (near s k) (s.preds n)
