-- What lines are, once no fault fits them. Assumes nothing.
use Rattle.std.specs.Prelude.{◌≡◌, ℕ, ◌<◌, ◌≤◌, Bool, T, List, [], length, Some}
use Rattle.std.specs.List.{slice_get}
use Rattle.graph.specs.Paths.{Reaches}
use Rattle.numbering.specs.Numbers.{known, number, firsts, before}
use Rattle.wellformed.specs.Lines.{Questions, at, nexts_at, exit_of, graph_of, computed, expressions_of}

-- p holds of line n and of no other
abbrev pub Only : {X : Type 0} → (X → Bool) → List X → ℕ → Type 0
Only p d n = T (at p d n) × ((m : ℕ) → T (at p d m) → m ≡ n)

pub record Sound {X L E : Type 0} (q : Questions X L E) (d : List X) : Type 0 where
  -- a line has as many successors as successor labels, and each is the one line with that label
  pub many : (k : ℕ) → length ((graph_of q d).succs k) ≡ length (nexts_at q d k)
  pub succs : (k i : ℕ) (a : L) → slice_get (nexts_at q d k) i ≡ Some a → (n : ℕ) × (slice_get ((graph_of q d).succs k) i ≡ Some n) × Only (λ x. q.same_label a (q.label x)) d n
  -- the exit is the one line that halts
  pub exit : Only q.halts d (exit_of q d)
  -- no edge leads to the entry, and none from the exit
  pub entered : (graph_of q d).preds 0 ≡ []
  pub left : (graph_of q d).succs (exit_of q d) ≡ []
  -- every line lies on a path from the entry to the exit
  pub reached : (k : ℕ) → k < length d → Reaches (graph_of q d) 0 k
  pub ends : (k : ℕ) → k < length d → Reaches (graph_of q d) k (exit_of q d)
  -- there are at most 64 expressions, and the number of one is how many different ones are computed before it first is
  pub few : length (expressions_of q d) ≤ 64
  pub numbers : (e : E) → T (known q.same_expression e (computed q d)) → number q.same_expression e (expressions_of q d) ≡ length (firsts q.same_expression (before q.same_expression e (computed q d)))
