-- What a flow graph is: nodes below a count, one of them the entry and one the exit, and the two lists of each node. Assumes nothing.
use Rattle.std.specs.Prelude.{◌≡◌, ℕ, ◌+◌, ◌<◌, ◌≤◌, cond, List, [], ◌∷◌, length, ◌==◌}

-- succs and preds have one element for each edge
pub record Shape : Type 0 where
  pub count : ℕ
  pub entry : ℕ
  pub exit : ℕ
  pub succs : ℕ → List ℕ
  pub preds : ℕ → List ℕ

-- how often n stands in the list
abbrev pub times : ℕ → List ℕ → ℕ
times n [] = 0
times n (m ∷ ms) = cond (m == n) 1 0 + times n ms

-- every number of the list is below n
abbrev pub AllBelow : ℕ → List ℕ → Type 0
AllBelow n [] = Unit {0}
AllBelow n (m ∷ ms) = (m < n) × AllBelow n ms

-- 1 to 288 nodes; entry, exit and all that stands in the lists are nodes; no list is longer than 288; what is no node has none
pub record Sized (s : Shape) : Type 0 where
  pub some : 1 ≤ s.count
  pub most : s.count ≤ 288
  pub entry_in : s.entry < s.count
  pub exit_in : s.exit < s.count
  pub succs_in : (n : ℕ) → AllBelow s.count (s.succs n)
  pub preds_in : (n : ℕ) → AllBelow s.count (s.preds n)
  pub succs_short : (n : ℕ) → length (s.succs n) ≤ 288
  pub preds_short : (n : ℕ) → length (s.preds n) ≤ 288
  pub succs_none : (n : ℕ) → s.count ≤ n → s.succs n ≡ []
  pub preds_none : (n : ℕ) → s.count ≤ n → s.preds n ≡ []

-- the two lists tell of the same edges: n is among m's successors as often as m among n's predecessors
abbrev pub SameEdges : Shape → Type 0
SameEdges s = (m n : ℕ) → times n (s.succs m) ≡ times m (s.preds n)

-- the graph turned round
abbrev pub turned : Shape → Shape
turned s = record { count = s.count; entry = s.exit; exit = s.entry; succs = s.preds; preds = s.succs }
