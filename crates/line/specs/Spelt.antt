-- A text that is not a spelling falls through to the next case. Assumes nothing.
use Rattle.std.specs.Prelude.{◌≡◌, ℕ, Bool, true, false, cond, ◌&&◌, List, [], ◌∷◌, None, Ok, Err, Result, IsUtf8, IsAscii, ◌≢◌, nat_lt}
use Rattle.std.proofs.Common.{sym, subst, ⊎_elim}
use Rattle.std.specs.Result.{MatchResult, result_ok}
use Rattle.std.specs.Str.{bytes_eq}
use Rattle.std.proofs.lemmas.Str.Ascii.{IsAscii-nil, IsAscii-cons}
use Rattle.std.proofs.lemmas.Slice.Eq.{bytes_eq-Decides}
use Rattle.std.proofs.lemmas.Bool.{cases_Bool, ltb-true, and_parts}
use Rattle.std.proofs.lemmas.Str.{IsUtf8-from_ascii}

pub differs : (t w : List ℕ) → (t ≢ w) → bytes_eq t w ≡ false
differs t w h = ⊎_elim (λ e. absurd (h ((bytes_eq-Decides t w).0 e))) (λ e. e) (cases_Bool (bytes_eq t w))

-- a text that is not the spelling w falls through to the next case
pub past : {A : Type 0} (t w : List ℕ) (x y z : A) → (t ≢ w) → z ≡ y → z ≡ cond (bytes_eq t w) x y
past t w x y z h e = rw (differs t w h) e

abbrev pub low : List ℕ → Bool
low [] = true
low (b ∷ bs) = nat_lt b 128 && low bs

ascii_low : (w : List ℕ) → low w ≡ true → IsAscii w
ascii_low [] e = IsAscii-nil
ascii_low (b ∷ bs) e = let p = and_parts (nat_lt b 128) (low bs) e in IsAscii-cons b bs (ltb-true b 128 p.0) (ascii_low bs p.1)

-- and so does one that is no text
pub unread : {A : Type 0} (t w : List ℕ) (x y z : A) → (IsUtf8 t → ⊥) → low w ≡ true → z ≡ y → z ≡ cond (bytes_eq t w) x y
unread t w x y z h l e = past t w x y z (λ q. h (subst IsUtf8 (sym q) (IsUtf8-from_ascii w (ascii_low w l)))) e

-- what a call says where it gives an error, after `.ok()` gave none
pub no_value : {A E N : Type 0} (P : A → Type 0) (Q : E → Type 0) (r : Result A E) → MatchResult r P (λ e. N × Q e) → result_ok r ≡ None → N
no_value P Q (Ok a) h e = cc
no_value P Q (Err x) h e = h.0
