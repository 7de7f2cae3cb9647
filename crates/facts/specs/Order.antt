-- The order of facts, and how they fall. Assumes nothing.
use Rattle.std.specs.Prelude.{◌≡◌, List, [], ◌∷◌, ◌≢◌}

module _ {F : Type 0} (meet : F → F → F) where
  -- a lies below b
  abbrev pub Below : F → F → Type 0
  Below a b = meet a b ≡ a

  -- the facts that a fell from, the newest first: each is strictly below the next
  abbrev pub Fell : F → List F → Type 0
  Fell a [] = Unit {0}
  Fell a (b ∷ bs) = Below a b × (a ≢ b) × Fell b bs
