-- Sets as bits: extensionality, the laws of `&`, and members. Assumes nothing.
use Rattle.std.specs.Prelude.{◌≡◌, ℕ, zero, suc, ◌+◌, ◌-◌, ◌*◌, ◌/◌, ◌%◌, ◌^◌, ◌<◌, ◌≤◌, min, max, false, ◌&&◌, ◌||◌, ◌==◌, nat_eq, nat_lt}
use Rattle.std.proofs.Common.{sym, ap, ◌∙◌, subst, inl, inr, mod-eq_of_lt, pow-suc, one-mul, lt_of_lt_of_le, arith, pow_mono}
use mathlib.Core.HLevel.{is_prop→PathP}
use Rattle.std.proofs.Math.Bridge.{le_prop}
use Rattle.std.proofs.Math.Nat.{div-eq_of_lt}
use Rattle.std.specs.Int.Bits.{bit_and, bit_or, or_step, and_step, and_self, and_zero_l}
use Rattle.std.proofs.lemmas.Nat.{pow_pos, pow-add, pow_below, shl-shr, shr-shr, or_shr, and_shr, and_comm, and_mask}
use Rattle.std.proofs.lemmas.Bool.{cases_order, eq-eqb, ne_eqb, lt-ltb, le-ltb}
use Rattle.std.proofs.lemmas.Bool.Decides.{nat_tests}
use Rattle.facts.specs.declared.set.Set64.{Set64}
use Rattle.facts.specs.Sets.{everything, common, either, has}

pub set_ext : (a b : Set64) → a.bits ≡ b.bits → a ≡ b
set_ext a b e = λ i. record {
  bits = e i;
  ok = is_prop→PathP (λ j. e j < 2 ^ 64) (λ j. le_prop) a.ok b.ok i;
}

and_half : (a b : ℕ) → bit_and a b / 2 ≡ bit_and (a / 2) (b / 2)
and_half a b = and_shr a b 1

and_low : (a b : ℕ) → bit_and a b % 2 ≡ min (a % 2) (b % 2)
and_low a b = let s = and_step a b in omega arith

or_low : (a b : ℕ) → bit_or a b % 2 ≡ max (a % 2) (b % 2)
or_low a b = let s = or_step a b in omega arith

by_digits : (a b : ℕ) → a / 2 ≡ b / 2 → a % 2 ≡ b % 2 → a ≡ b
by_digits a b hi lo = omega arith

half_lt : (w a : ℕ) → a < 2 ^ suc w → a / 2 < 2 ^ w
half_lt w a h = let p = pow-suc 2 w in omega arith

-- by the number of digits
and_assoc_in : (w a b c : ℕ) → a < 2 ^ w → bit_and (bit_and a b) c ≡ bit_and a (bit_and b c)
and_assoc_in zero a b c h =
    let e : a ≡ 0 = omega arith in
    subst (λ (x : ℕ). bit_and (bit_and x b) c ≡ bit_and x (bit_and b c)) (sym e)
    (ap (λ x. bit_and x c) (and_zero_l b) ∙ and_zero_l c ∙ sym (and_zero_l (bit_and b c)))
and_assoc_in (suc w) a b c h =
    by_digits _ _
    (and_half (bit_and a b) c ∙ ap (λ x. bit_and x (c / 2)) (and_half a b)
    ∙ and_assoc_in w (a / 2) (b / 2) (c / 2) (half_lt w a h)
    ∙ sym (and_half a (bit_and b c) ∙ ap (bit_and (a / 2)) (and_half b c)))
    (let p = and_low (bit_and a b) c in let q = and_low a b in let r = and_low a (bit_and b c) in let s = and_low b c in omega arith)

pub common_assoc : (a b c : Set64) → common (common a b) c ≡ common a (common b c)
common_assoc a b c = set_ext _ _ (and_assoc_in 64 a.bits b.bits c.bits a.ok)

pub common_comm : (a b : Set64) → common a b ≡ common b a
common_comm a b = set_ext _ _ (and_comm a.bits b.bits)

pub common_idem : (a : Set64) → common a a ≡ a
common_idem a = set_ext _ _ (and_self a.bits)

pub everything_neutral : (a : Set64) → common everything a ≡ a
everything_neutral a = set_ext _ _ (and_comm 18446744073709551615 a.bits ∙ and_mask a.bits 64 ∙ mod-eq_of_lt a.ok)

-- members

bit_of_and : (x y z : ℕ) → x ≡ min (y % 2) (z % 2) → (x == 1) ≡ (y % 2 == 1 && z % 2 == 1)
bit_of_and x y z e = grind (arith, nat_tests)

bit_of_or : (x y z : ℕ) → x ≡ max (y % 2) (z % 2) → (x == 1) ≡ (y % 2 == 1 || z % 2 == 1)
bit_of_or x y z e = grind (arith, nat_tests)

pub has_common : (a b : Set64) (k : ℕ) → has (common a b) k ≡ (has a k && has b k)
has_common a b k =
    bit_of_and _ (a.bits / 2 ^ k) (b.bits / 2 ^ k) (ap (λ x. x % 2) (and_shr a.bits b.bits k) ∙ and_low (a.bits / 2 ^ k) (b.bits / 2 ^ k))

pub has_either : (a b : Set64) (k : ℕ) → has (either a b) k ≡ (has a k || has b k)
has_either a b k =
    bit_of_or _ (a.bits / 2 ^ k) (b.bits / 2 ^ k) (ap (λ x. x % 2) (or_shr a.bits b.bits k) ∙ or_low (a.bits / 2 ^ k) (b.bits / 2 ^ k))

-- sets with the same members are equal

bits_ext : (w a b : ℕ) → a < 2 ^ w → b < 2 ^ w → ((k : ℕ) → a / 2 ^ k % 2 ≡ b / 2 ^ k % 2) → a ≡ b
bits_ext zero a b h l e = omega arith
bits_ext (suc w) a b h l e =
    by_digits a b
    (bits_ext w (a / 2) (b / 2) (half_lt w a h) (half_lt w b l)
    (λ k. ap (λ x. x % 2) (shr-shr a 1 k) ∙ e (1 + k) ∙ sym (ap (λ x. x % 2) (shr-shr b 1 k))))
    (let z = e 0 in omega arith)

bit_of : (x y : ℕ) → (x % 2 == 1) ≡ (y % 2 == 1) → x % 2 ≡ y % 2
bit_of x y e = grind (arith, nat_tests)

pub by_members : (a b : Set64) → ((k : ℕ) → has a k ≡ has b k) → a ≡ b
by_members a b e = set_ext a b (bits_ext 64 a.bits b.bits a.ok b.ok (λ k. bit_of (a.bits / 2 ^ k) (b.bits / 2 ^ k) (e k)))

-- single bits, no bits and all bits

beyond : (n k : ℕ) → n < 2 ^ k → (n / 2 ^ k % 2 == 1) ≡ false
beyond n k h = ap (λ x. nat_eq (x % 2) 1) (div-eq_of_lt h)

power_bit : (k j : ℕ) → (2 ^ k / 2 ^ j % 2 == 1) ≡ (j == k)
power_bit k j = elim (cases_order j k) [
  | inl e ↦
      ap (λ i. nat_eq (2 ^ k / 2 ^ i % 2) 1) e
      ∙ ap (λ x. nat_eq (x / 2 ^ k % 2) 1) (sym (one-mul (2 ^ k))) ∙ ap (λ x. nat_eq (x % 2) 1) (shl-shr 1 k)
      ∙ sym (eq-eqb j k e)
  | inr (inl l) ↦
      let d : ℕ = k - j - 1 in
      let e : k ≡ suc d + j = omega arith in
      let p : 2 ^ k ≡ 2 ^ suc d * 2 ^ j = ap (λ i. 2 ^ i) e ∙ pow-add 2 (suc d) j in
      let q : 2 ^ suc d % 2 ≡ 0 = let r = pow-suc 2 d in omega arith in
      ap (λ x. nat_eq (x / 2 ^ j % 2) 1) p ∙ ap (λ x. nat_eq (x % 2) 1) (shl-shr (2 ^ suc d) j) ∙ ap (λ x. nat_eq x 1) q
      ∙ sym (ne_eqb j k (λ z. omega arith))
  | inr (inr l) ↦ beyond (2 ^ k) j (pow_below k j l) ∙ sym (ne_eqb j k (λ z. omega arith))
]

pub single_bit : (n k : ℕ) → n ≡ 2 ^ k → (j : ℕ) → (n / 2 ^ j % 2 == 1) ≡ (j == k)
single_bit n k e j = ap (λ x. nat_eq (x / 2 ^ j % 2) 1) e ∙ power_bit k j

lower : (k w : ℕ) → nat_lt k w ≡ nat_lt (suc k) (suc w)
lower k w = grind (arith, nat_tests)

all_bits : (w k : ℕ) → ((2 ^ w - 1) / 2 ^ k % 2 == 1) ≡ nat_lt k w
all_bits zero k = beyond 0 k (pow_pos k) ∙ sym (le-ltb k 0 (omega arith))
all_bits (suc w) zero =
    let p = pow-suc 2 w in
    let q = pow_pos w in
    let odd : (2 ^ suc w - 1) / 1 % 2 ≡ 1 = omega arith in
    ap (λ x. nat_eq x 1) odd ∙ sym (lt-ltb 0 (suc w) (omega arith))
all_bits (suc w) (suc k) =
    let p = pow-suc 2 w in
    let q = pow_pos w in
    let half : (2 ^ suc w - 1) / 2 ≡ 2 ^ w - 1 = omega arith in
    let s : suc k ≡ 1 + k = omega arith in
    ap (λ i. nat_eq ((2 ^ suc w - 1) / 2 ^ i % 2) 1) s
    ∙ ap (λ x. nat_eq (x % 2) 1) (sym (shr-shr (2 ^ suc w - 1) 1 k))
    ∙ ap (λ x. nat_eq (x / 2 ^ k % 2) 1) half ∙ all_bits w k ∙ lower k w

pub has_everything : (k : ℕ) → has everything k ≡ nat_lt k 64
has_everything k = all_bits 64 k

pub has_none : (s : Set64) (k : ℕ) → 64 ≤ k → has s k ≡ false
has_none s k h = beyond s.bits k (lt_of_lt_of_le s.ok (pow_mono h))
