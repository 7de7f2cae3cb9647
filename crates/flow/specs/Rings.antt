-- What waits in a queue: some places of a ring of 288. Assumes nothing.
use Rattle.std.specs.Prelude.{◌≡◌, ℕ, zero, suc, ◌%◌, ◌<◌, ◌≤◌, Bool, false, cond, List, [], ◌∷◌, ◌++◌, length, ◌==◌, slice_index, slice_index_or}
use Rattle.graph.specs.Shapes.{times, AllBelow}

-- the n places from h on
abbrev pub places : List ℕ → ℕ → ℕ → List ℕ
places ring h zero = []
places ring h (suc n) = slice_index ring (h % 288) ∷ places ring (suc h) n

-- the taken places of a ring hold nodes, each once, and the marks are at these nodes
pub record Ring (ring : List ℕ) (marks : List Bool) (head len : ℕ) : Type 0 where
  pub ring_long : length ring ≡ 288
  pub marks_long : length marks ≡ 288
  pub head_in : head < 288
  pub len_in : len ≤ 288
  pub nodes : AllBelow 288 (places ring head len)
  pub marked : (n : ℕ) → n < 288 → times n (places ring head len) ≡ cond (slice_index_or marks n false) 1 0

-- who waits once n has come: last, unless it waits already
abbrev pub joined : ℕ → List ℕ → List ℕ
joined n ws = cond (times n ws == 0) (ws ++ (n ∷ [])) ws

-- who waits once all of ns have come, one after another
abbrev pub joined_all : List ℕ → List ℕ → List ℕ
joined_all [] ws = ws
joined_all (n ∷ ns) ws = joined_all ns (joined n ws)
