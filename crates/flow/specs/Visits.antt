-- What a visit to a node finds. Assumes nothing.
use Rattle.std.specs.Prelude.{◌≡◌, Some, None, Option}
use Rattle.facts.specs.Order.{Below}

-- v comes in at a node whose fact is old: it is news unless old lies below it
abbrev pub Revised : {F : Type 0} → (F → F → F) → F → F → Option F → Type 0
Revised meet old v (Some x) = (x ≡ v) × (Below meet old v → ⊥)
Revised meet old v None = Below meet old v
