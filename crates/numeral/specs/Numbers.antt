-- Numbers as text. Assumes nothing.
use Rattle.std.specs.Prelude.{◌≡◌, ℕ, ◌^◌, ◌<◌, Bool, true, false, cond, ◌&&◌, List, [], ◌∷◌, length, ℤ, Some, None, Ok, Err, Option, Result, ◌==◌, ◌≢◌, nat_le, nat_lt, unsigned_abs}
use Rattle.std.specs.Int.Signed.{mag}
use Rattle.std.specs.Str.Parse.{signed_digits_value}
use Rattle.std.specs.Int.{is_in_range}
use Rattle.std.specs.Fmt.{signed_decimal}
use Rattle.std.specs.Str.{all_ascii_digits}
use Rattle.numeral.specs.declared.NumeralError.{NumeralError}
use Rattle.numeral.specs.declared.NumeralError.TheVariants.{NotANumber, OutOfRange}

-- a digit 1 to 9 and at most nine more digits
abbrev pub leads : List ℕ → Bool
leads [] = false
leads (d ∷ ds) = is_in_range 49 57 d && (nat_le (length ds) 9 && all_ascii_digits ds)

abbrev pub is_empty : List ℕ → Bool
is_empty [] = true
is_empty (d ∷ ds) = false

-- `0`, or an optional `-` and such a run
abbrev pub shaped : List ℕ → Bool
shaped [] = false
shaped (c ∷ cs) = cond (c == 45) (leads cs) (cond (c == 48) (is_empty cs) (leads (c ∷ cs)))

abbrev pub int_of : List ℕ → ℤ
int_of t = signed_digits_value 10 t

-- the number that a text of that shape is read as
abbrev pub wide_of : List ℕ → Option ℤ
wide_of t = cond (shaped t) (Some (int_of t)) None

-- a number of at most ten digits
abbrev pub Short : ℤ → Type 0
Short z = unsigned_abs z < 10 ^ 10

-- a number from -2^31 up to 2^31 - 1
abbrev pub fits : ℤ → Bool
fits z = nat_lt (mag z) (2 ^ 31)

-- the answer is the number whose usual decimal writing the text is, if it has at most ten digits
abbrev pub Spelt : List ℕ → Option ℤ → Type 0
Spelt t (Some z) = (t ≡ signed_decimal z) × Short z
Spelt t None = (z : ℤ) → Short z → t ≢ signed_decimal z

-- the same number, where it fits
abbrev pub narrow_of : ℤ → Option ℤ
narrow_of z = cond (fits z) (Some z) None

abbrev pub held : Option ℤ → Result ℤ NumeralError
held None = Err OutOfRange
held (Some z) = Ok z

abbrev pub narrowed : Option ℤ → Result ℤ NumeralError
narrowed None = Err NotANumber
narrowed (Some z) = held (narrow_of z)

abbrev pub numeral_spelt : List ℕ → Result ℤ NumeralError
numeral_spelt t = narrowed (wide_of t)
