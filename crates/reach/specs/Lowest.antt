-- The lowest number for which something fails. Assumes nothing.
use Rattle.std.specs.Prelude.{ℕ, ◌<◌, Some, None, Option}

-- the lowest number below c for which P fails, if there is one
abbrev pub Lowest : (ℕ → Type 0) → ℕ → Option ℕ → Type 0
Lowest P c None = (n : ℕ) → n < c → P n
Lowest P c (Some k) = (k < c) × (P k → ⊥) × ((n : ℕ) → n < k → P n)
