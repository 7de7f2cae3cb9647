use Rattle.std.proofs.Common.{◌≡◌, ℕ, ◌+◌, ◌<◌, ◌≤◌, length, get_or, take}
use Rattle.graph.proofs.Flat.{flat}
use Rattle.graph.proofs.adjacency.Adjacency.new.Given as goal

-- a struct that is being written is a tuple: lists.0 is its starts, and lists.1.0 its ends
abbrev pub invariant-loop-n : goal.invariant-loop-n
invariant-loop-n l = record {
  in_order : take (length (flat l.n l.edges)) l.lists.1.0 ≡ flat l.n l.edges;
  before : (i : ℕ) → i < l.n + 1 → get_or l.lists.0 i 0 ≡ length (flat i l.edges);
  behind : (i : ℕ) → l.n < i → i ≤ 288 → get_or l.lists.0 i 0 ≡ length l.edges;
  long : length l.lists.0 ≡ 289;
}
