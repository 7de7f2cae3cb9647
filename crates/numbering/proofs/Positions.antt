-- The place of the first element that is the same. Assumes nothing.
use Rattle.std.proofs.Common.{◌≡◌, ℕ, suc, ◌+◌, Bool, true, false, cond, not, ◌||◌, List, [], ◌∷◌, length, Some, None, refl, ap₂, ◌∙◌, arith, nat_lt}
use Rattle.std.proofs.lemmas.Bool.Decides.{nat_tests}
use Rattle.std.specs.List.{position, position_or_len}
use Rattle.numbering.specs.Numbers.{unless, known, number, number_in}

lower : (k n : ℕ) → nat_lt (1 + k) (suc n) ≡ nat_lt k n
lower k n = grind (arith, nat_tests)

module _ {A : Type 0} (same : A → A → Bool) (a : A) where
  number_is : (l : List A) → position_or_len (same a) l ≡ number same a l
  number_is [] = refl
  number_is (b ∷ l) = by (same a b) (number_is l)
    where
      by : (s : Bool) → position_or_len (same a) l ≡ number same a l → cond (not s) (1 + position_or_len (same a) l) 0 ≡ unless s (number same a l)
      by true e = refl
      by false e = omega arith

  known_is : (l : List A) → nat_lt (position_or_len (same a) l) (length l) ≡ known same a l
  known_is [] = refl
  known_is (b ∷ l) = by (same a b) (known_is l)
    where
      by : (s : Bool) → nat_lt (position_or_len (same a) l) (length l) ≡ known same a l → nat_lt (cond (not s) (1 + position_or_len (same a) l) 0) (suc (length l)) ≡ (s || known same a l)
      by true e = grind (arith, nat_tests)
      by false e = lower (position_or_len (same a) l) (length l) ∙ e

  pub position_is : (l : List A) → position (same a) l ≡ number_in same a l
  position_is l = ap₂ (λ b n. cond b (Some n) None) (known_is l) (number_is l)
