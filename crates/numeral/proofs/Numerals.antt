-- How the tests on a number's spelling read. Assumes nothing.
use Rattle.std.proofs.Common.{◌≡◌, ℕ, zero, suc, ◌^◌, ◌<◌, ◌≤◌, true, false, cond, ◌&&◌, eqb, leb, List, [], ◌∷◌, length, get_or, ℤ, pos, negsuc, neg_ℤ, nat_abs, Some, None, IsUtf8, IsAscii, decimal, sym, refl, ap, ◌∙◌, subst, ⊎_elim, arith}
use lib.Signed.{mag}
use Rattle.std.specs.Fmt.{signed_decimal}
use Rattle.std.proofs.lemmas.Fmt.{decimal-digits_value, decimal_digit, decimal_is_IsNumeral, decimal_nonempty, first_decimal, digits_decimal, length-decimal-le, IsAscii-signed}
use Rattle.std.specs.Int.{is_in_range}
use Rattle.std.proofs.lemmas.Str.{IsUtf8-from_ascii}
use Rattle.std.specs.Str.{all_ascii_digits}
use Rattle.std.proofs.lemmas.Bool.{le-leb, and_from, and_parts, ne_eqb, leb-true, eqb-true, cases_lt, cases_Bool, cond_both, false≢true}
use Rattle.std.proofs.lemmas.Str.Parse.{IsNumeralModel, numerals_by_value, tells_all_ascii_digits, digits_value_short}
use Rattle.std.specs.Str.Parse.{digits_value, IsNumeral, without_leading_sign, signed_digits_value}
use Rattle.numeral.specs.Numbers.{leads, is_empty, shaped, int_of, wide_of, Short, Spelt}

-- the words of the shelf for runs of digits
pub own : IsNumeralModel (λ ds. all_ascii_digits ds ≡ true) (digits_value 10)
own = numerals_by_value _ tells_all_ascii_digits

-- what a leading run is
pub record Led (d : ℕ) (ds : List ℕ) : Type 0 where
  pub low : 49 ≤ d
  pub high : d ≤ 57
  pub short : length ds ≤ 9
  pub rest : all_ascii_digits ds ≡ true

pub led : (d : ℕ) (ds : List ℕ) → leads (d ∷ ds) ≡ true → Led d ds
led d ds e =
    let a = and_parts (is_in_range 49 57 d) (leb (length ds) 9 && all_ascii_digits ds) e in
    let b = and_parts (leb 49 d) (leb d 57) a.0 in
    let c = and_parts (leb (length ds) 9) (all_ascii_digits ds) a.1 in
    record { low = leb-true 49 d b.0; high = leb-true d 57 b.1; short = leb-true (length ds) 9 c.0; rest = c.1 }

pub leads_led : (d : ℕ) (ds : List ℕ) → Led d ds → leads (d ∷ ds) ≡ true
leads_led d ds l =
    and_from (is_in_range 49 57 d) (leb (length ds) 9 && all_ascii_digits ds) (and_from (leb 49 d) (leb d 57) (le-leb 49 d l.low) (le-leb d 57 l.high))
    (and_from (leb (length ds) 9) (all_ascii_digits ds) (le-leb (length ds) 9 l.short) l.rest)

pub led_digits : (d : ℕ) (ds : List ℕ) → Led d ds → all_ascii_digits (d ∷ ds) ≡ true
led_digits d ds l = and_from (is_in_range 48 57 d) (all_ascii_digits ds) (and_from (leb 48 d) (leb d 57) (le-leb 48 d (omega (arith, l.low))) (le-leb d 57 l.high)) l.rest

-- the cases of a spelling
pub data Spelling : List ℕ → Type 0 where
  nought : Spelling (48 ∷ [])
  plain : (d : ℕ) (ds : List ℕ) → Led d ds → Spelling (d ∷ ds)
  minus : (d : ℕ) (ds : List ℕ) → Led d ds → Spelling (45 ∷ d ∷ ds)

spelling_minus : (ds : List ℕ) → leads ds ≡ true → Spelling (45 ∷ ds)
spelling_minus [] e = absurd (false≢true e)
spelling_minus (d ∷ ds) e = minus d ds (led d ds e)

spelling_nought : (ds : List ℕ) → is_empty ds ≡ true → Spelling (48 ∷ ds)
spelling_nought [] e = nought
spelling_nought (d ∷ ds) e = absurd (false≢true e)

pub spelling : (t : List ℕ) → shaped t ≡ true → Spelling t
spelling [] e = absurd (false≢true e)
spelling (c ∷ cs) e =
    ⊎_elim
    (λ m. subst (λ (k : ℕ). Spelling (k ∷ cs)) (sym (eqb-true c 45 m)) (spelling_minus cs (rw m at e)))
    (λ m. ⊎_elim
    (λ z. subst (λ (k : ℕ). Spelling (k ∷ cs)) (sym (eqb-true c 48 z)) (spelling_nought cs (rw z at (rw m at e))))
    (λ z. plain c cs (led c cs (rw z at (rw m at e))))
    (cases_Bool (eqb c 48)))
    (cases_Bool (eqb c 45))

pub numeral : (t : List ℕ) → Spelling t → IsNumeral 10 (without_leading_sign t)
numeral t nought = (omega arith, (omega arith, tt))
numeral t (plain d ds l) =
    rw (ne_eqb d 45 (λ e. omega (arith, l.low))) (rw (ne_eqb d 43 (λ e. omega (arith, l.low))) (omega arith, own.to (d ∷ ds) (led_digits d ds l)))
numeral t (minus d ds l) = (omega arith, own.to (d ∷ ds) (led_digits d ds l))

pub shaped_spelling : (t : List ℕ) → Spelling t → shaped t ≡ true
shaped_spelling t nought = refl
shaped_spelling t (plain d ds l) = rw (ne_eqb d 45 (λ e. omega (arith, l.low))) (rw (ne_eqb d 48 (λ e. omega (arith, l.low))) (leads_led d ds l))
shaped_spelling t (minus d ds l) = leads_led d ds l

pub led_value : (d : ℕ) (ds : List ℕ) → Led d ds → digits_value 10 (d ∷ ds) < 10 ^ 10
led_value d ds l = digits_value_short own (d ∷ ds) 10 (led_digits d ds l) (omega (arith, l.short))

led_decimal : (d : ℕ) (ds : List ℕ) → Led d ds → decimal (digits_value 10 (d ∷ ds)) ≡ d ∷ ds
led_decimal d ds l =
    decimal-digits_value own (d ∷ ds) (led_digits d ds l) (omega arith) (λ e. absurd (omega (arith, l.low))) (omega (arith, led_value d ds l))

led_positive : (d : ℕ) (ds : List ℕ) → Led d ds → 0 < digits_value 10 (d ∷ ds)
led_positive d ds l =
    ⊎_elim (λ h. h)
    (λ h. let none : digits_value 10 (d ∷ ds) ≡ 0 = omega arith in
    let e : d ≡ 48 = ap (λ x. get_or x 0 0) (sym (led_decimal d ds l) ∙ ap decimal none ∙ decimal_digit 0 (omega arith)) in
    absurd (omega (arith, l.low)))
    (cases_lt 0 (digits_value 10 (d ∷ ds)))

signed_negative : (v : ℕ) → 0 < v → signed_decimal (neg_ℤ (pos v)) ≡ 45 ∷ decimal v
signed_negative zero h = absurd (omega arith)
signed_negative (suc k) h = refl

-- a text of a number's shape is what is written of the number that it reads as
pub spelling_signed : (t : List ℕ) → Spelling t → signed_decimal (signed_digits_value 10 t) ≡ t
spelling_signed t nought = decimal_digit 0 (omega arith)
spelling_signed t (plain d ds l) =
    rw (ne_eqb d 45 (λ e. omega (arith, l.low))) (rw (ne_eqb d 43 (λ e. omega (arith, l.low))) (led_decimal d ds l))
spelling_signed t (minus d ds l) = signed_negative (digits_value 10 (d ∷ ds)) (led_positive d ds l) ∙ ap (λ x. 45 ∷ x) (led_decimal d ds l)

written : (n : ℕ) (d : ℕ) (ds : List ℕ) → 0 < n → n < 10 ^ 10 → decimal n ≡ d ∷ ds → Led d ds
written n d ds h b e =
    let all = and_parts (is_in_range 48 57 d) (all_ascii_digits ds) (ap all_ascii_digits (sym e) ∙ digits_decimal own n (omega arith)) in
    record {
      low = omega (arith, first_decimal n h (omega arith), ap (λ x. get_or x 0 0) e);
      high = leb-true d 57 (and_parts (leb 48 d) (leb d 57) all.0).1;
      short = omega (arith, length-decimal-le 10 n (omega arith) b (omega arith), ap length e);
      rest = all.1;
    }

split : (l : List ℕ) → 0 < length l → (d : ℕ) × (ds : List ℕ) × (l ≡ d ∷ ds)
split [] h = absurd (omega arith)
split (d ∷ ds) h = (d, ds, refl)

-- what is written of a number of at most ten digits has its shape, and reads as it
pub record Reads (z : ℤ) : Type 0 where
  pub spelt : Spelling (signed_decimal z)
  pub back : signed_digits_value 10 (signed_decimal z) ≡ z

pub plain_value : (d : ℕ) (ds : List ℕ) → Led d ds → signed_digits_value 10 (d ∷ ds) ≡ pos (digits_value 10 (d ∷ ds))
plain_value d ds l = rw (ne_eqb d 45 (λ e. omega (arith, l.low))) (rw (ne_eqb d 43 (λ e. omega (arith, l.low))))

reads_plain : (n d : ℕ) (ds : List ℕ) → 0 < n → n < 10 ^ 10 → decimal n ≡ d ∷ ds → Reads (pos n)
reads_plain n d ds h b e =
    let l = written n d ds h b e in
    record {
      spelt = subst Spelling (sym e) (plain d ds l);
      back = ap (signed_digits_value 10) e ∙ plain_value d ds l ∙ ap pos (ap (digits_value 10) (sym e) ∙ (decimal_is_IsNumeral n (omega arith)).1);
    }

reads_minus : (n d : ℕ) (ds : List ℕ) → suc n < 10 ^ 10 → decimal (suc n) ≡ d ∷ ds → Reads (negsuc n)
reads_minus n d ds b e =
    let l = written (suc n) d ds (omega arith) b e in
    record {
      spelt = subst (λ (t : List ℕ). Spelling (45 ∷ t)) (sym e) (minus d ds l);
      back = ap (λ (v : ℕ). neg_ℤ (pos v)) (decimal_is_IsNumeral (suc n) (omega arith)).1;
    }

pub reads : (z : ℤ) → Short z → Reads z
reads (pos zero) b =
    let e = decimal_digit 0 (omega arith) in record { spelt = subst Spelling (sym e) nought; back = ap (signed_digits_value 10) e }
reads (pos (suc n)) b =
    let p = split (decimal (suc n)) (decimal_nonempty (suc n) (omega arith)) in reads_plain (suc n) p.0 p.1 (omega arith) b p.2
reads (negsuc n) b =
    let p = split (decimal (suc n)) (decimal_nonempty (suc n) (omega arith)) in reads_minus n p.0 p.1 b p.2

abs_neg : (v : ℕ) → nat_abs (neg_ℤ (pos v)) ≡ v
abs_neg zero = refl
abs_neg (suc k) = refl

pub spelling_short : (t : List ℕ) → Spelling t → Short (signed_digits_value 10 t)
spelling_short t nought = omega arith
spelling_short t (plain d ds l) = rw (plain_value d ds l) (led_value d ds l)
spelling_short t (minus d ds l) = rw (abs_neg (digits_value 10 (d ∷ ds))) (led_value d ds l)

mag_abs : (z : ℤ) → mag z ≤ nat_abs z
mag_abs (pos n) = omega arith
mag_abs (negsuc n) = omega arith

pub spelling_mag : (t : List ℕ) → Spelling t → mag (signed_digits_value 10 t) < 10 ^ 10
spelling_mag t s = omega (arith, mag_abs (signed_digits_value 10 t), spelling_short t s)

pub spelling_utf8 : (t : List ℕ) → Spelling t → IsUtf8 t
spelling_utf8 t s = IsUtf8-from_ascii t (subst IsAscii (spelling_signed t s) (IsAscii-signed (signed_digits_value 10 t) (omega (arith, spelling_mag t s))))

-- the number that a text of the shape is read as is the one that it spells
pub spelt_some : (t : List ℕ) → shaped t ≡ true → Spelt t (Some (int_of t))
spelt_some t e = (sym (spelling_signed t (spelling t e)), spelling_short t (spelling t e))

-- a text of another shape spells none
pub spelt_none : (t : List ℕ) → shaped t ≡ false → Spelt t None
spelt_none t e z h q = false≢true (sym e ∙ ap shaped q ∙ shaped_spelling (signed_decimal z) (reads z h).spelt)

pub wide_spelt : (t : List ℕ) → Spelt t (wide_of t)
wide_spelt t = cond_both (shaped t) (Some (int_of t)) None (Spelt t) (spelt_some t) (spelt_none t)

-- what is written of a number of at most ten digits reads as that number
pub wide_back : (z : ℤ) → Short z → wide_of (signed_decimal z) ≡ Some z
wide_back z h =
    let r = reads z h in
    ap (λ b. cond b (Some (int_of (signed_decimal z))) None) (shaped_spelling (signed_decimal z) r.spelt) ∙ ap (λ (n : ℤ). Some n) r.back
