-- Sets of numbers below 64, as their bits. Assumes nothing.
use Rattle.std.specs.Prelude.{◌≡◌, ℕ, ◌/◌, ◌%◌, ◌^◌, ◌<◌, ◌≤◌, Bool, Some, None, Option, ◌==◌, bit_and, bit_or}
use Rattle.std.proofs.Common.{lt_of_le_of_lt, lit<}
use Rattle.std.proofs.lemmas.Nat.{and_le_l, or_lt}
use Rattle.facts.specs.declared.set.Set64.{Set64}

-- k is a member
abbrev pub has : Set64 → ℕ → Bool
has s k = (s.bits / 2 ^ k) % 2 == 1

-- all numbers below 64
abbrev pub everything : Set64
everything = record { bits = 18446744073709551615; ok = lit< tt }

-- the members of both, and those of either
abbrev pub common : Set64 → Set64 → Set64
common a b = record { bits = bit_and a.bits b.bits; ok = lt_of_le_of_lt (and_le_l a.bits b.bits) a.ok }

abbrev pub either : Set64 → Set64 → Set64
either a b = record { bits = bit_or a.bits b.bits; ok = or_lt 64 a.bits b.bits a.ok b.ok }

-- the set of k alone, if k is below 64
abbrev pub Singled : ℕ → Option Set64 → Type 0
Singled k (Some s) = (k < 64) × ((j : ℕ) → has s j ≡ (j == k))
Singled k None = 64 ≤ k
