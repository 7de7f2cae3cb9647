-- Two facts that hold of the same numbers fail first at the same one. Assumes nothing.
use Rattle.std.proofs.Common.{ℕ, ◌<◌, Some, None, Option, arith}
use Rattle.reach.specs.Lowest.{Lowest}

pub lowest_map : (P Q : ℕ → Type 0) (c : ℕ) → ((n : ℕ) → n < c → P n → Q n) → ((n : ℕ) → n < c → Q n → P n)
    → (r : Option ℕ) → Lowest P c r → Lowest Q c r
lowest_map P Q c f g None h = λ n i. f n i (h n i)
lowest_map P Q c f g (Some k) h = (h.0, (λ q. h.1 (g k h.0 q)), λ n i. f n (let z = h.0 in omega arith) (h.2 n i))
