-- What a numbering list answers. Assumes nothing.
use Rattle.std.specs.Prelude.{◌≡◌, ℕ, Bool, false, List, [], ◌∷◌, ◌++◌, length, Ok, Err, Result}
use Rattle.numbering.specs.declared.list.NoRoom.{NoRoom}
use Rattle.numbering.specs.Numbers.{Entered, known, firsts, before}

abbrev pub Answered : {A : Type 0} → Entered A → Result ℕ NoRoom → List A → Type 0
Answered e r after = (r ≡ e.answer) × (after ≡ e.items)

-- where the list holds the different elements of xs, it then holds those of xs and a, and the number of a is how many
-- different elements appear before a first does; there is no room only if a is new and the list is full
abbrev pub ByAppearance : {A : Type 0} → (A → A → Bool) → ℕ → A → List A → Result ℕ NoRoom → List A → Type 0
ByAppearance {A} same room a l (Ok n) after =
    (xs : List A) → l ≡ firsts same xs → (after ≡ firsts same (xs ++ (a ∷ []))) × (n ≡ length (firsts same (before same a xs)))
ByAppearance same room a l (Err e) after = (known same a l ≡ false) × (length l ≡ room) × (after ≡ l)
