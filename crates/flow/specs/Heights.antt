-- How sets and depths fall, and what keeps their order. Assumes nothing.
use Rattle.std.specs.Prelude.{◌≡◌, ℕ, zero, suc, ◌/◌, ◌%◌, ◌^◌, ◌<◌, ◌≤◌, min, Bool, true, false, ◌&&◌, ◌||◌, ◌⊎◌, List, length, Some, None, ◌≢◌, bit_and, count_ones, refl}
use Rattle.std.proofs.Common.{sym, ap, subst, ◌∙◌, inl, inr, pow-suc, eq-or-lt_of_le, arith}
use Rattle.std.proofs.Math.Nat.{min-le_left}
use Rattle.std.specs.Int.Bits.{and_step, and_zero_l}
use Rattle.std.proofs.lemmas.Nat.{and_shr, and_comm, ones-le}
use Rattle.std.specs.Int.Count.{ones_step}
use Rattle.facts.specs.declared.set.Set64.{Set64}
use Rattle.facts.specs.Depths.{Depth, lesser, shallower}
use Rattle.facts.specs.Order.{Below, Fell}
use Rattle.facts.specs.Sets.{common, either, has}
use Rattle.facts.specs.Bitsets.{set_ext, has_common, has_either, by_members}
use Rattle.facts.specs.Levels.{level_ext, lesser_at}
use Rattle.flow.specs.Distances.{deeper, further}
use Rattle.flow.specs.Falls.{ranked}

-- sets fall by losing members

half_lt : (w a : ℕ) → a < 2 ^ suc w → a / 2 < 2 ^ w
half_lt w a h = let p = pow-suc 2 w in omega arith

-- `a & b` is a, or has fewer bits
fewer : (w a b : ℕ) → a < 2 ^ w → (count_ones (bit_and a b) ≤ count_ones a) × ((bit_and a b ≡ a) ⊎ (count_ones (bit_and a b) < count_ones a))
fewer zero a b h =
    let e : 0 ≡ a = omega arith in
    subst (λ (x : ℕ). (count_ones (bit_and x b) ≤ count_ones x) × ((bit_and x b ≡ x) ⊎ (count_ones (bit_and x b) < count_ones x))) e
    (let z = and_zero_l b in let q = ap count_ones z in (omega arith, inl z))
fewer (suc w) a b h =
    let s = ones_step (bit_and a b) in
    let t = ones_step a in
    let hi : bit_and a b / 2 ≡ bit_and (a / 2) (b / 2) = and_shr a b 1 in
    let e = ap count_ones hi in
    let lo : bit_and a b % 2 ≡ min (a % 2) (b % 2) = let u = and_step a b in omega arith in
    let ih = fewer w (a / 2) (b / 2) (half_lt w a h) in
    let less : count_ones (bit_and a b) ≤ count_ones a = omega (arith, ih.0) in (
      less,
      elim ih.1 [
        | inr q ↦ inr (omega arith)
        | inl q ↦ elim (eq-or-lt_of_le (min-le_left (a % 2) (b % 2))) [
          | inl k ↦ inl (let d : bit_and a b / 2 ≡ a / 2 = hi ∙ q in omega arith)
          | inr k ↦ inr (omega (arith, ih.0))
        ]
      ],
    )

set_less : (a b : Set64) → Below common a b → (a ≢ b) → count_ones a.bits < count_ones b.bits
set_less a b l ne =
    let e : bit_and b.bits a.bits ≡ a.bits = and_comm b.bits a.bits ∙ ap (λ (s : Set64). s.bits) l in
    elim (fewer 64 b.bits a.bits b.ok).1 [
      | inl q ↦ absurd (ne (set_ext a b (sym e ∙ q)))
      | inr q ↦ subst (λ (x : ℕ). count_ones x < count_ones b.bits) e q
    ]

pub sets_fall : (a : Set64) (from : List Set64) → Fell common a from → length from ≤ 64
sets_fall a from f = let i = ranked common (λ s. count_ones s.bits) 64 set_less (λ s. ones-le 64 s.bits s.ok) a from f in omega arith

-- what is kept, with what is added, keeps the order

kept_below : (a b k g : Bool) → (a && b) ≡ a → (((a && k) || g) && ((b && k) || g)) ≡ ((a && k) || g)
kept_below true true true g e = refl
kept_below true true false true e = refl
kept_below true true false false e = refl
kept_below true false k g e = absurd (let z : ◌≡◌ {A = ℕ} 0 1 = cc in omega arith)
kept_below false true true true e = refl
kept_below false true true false e = refl
kept_below false true false true e = refl
kept_below false true false false e = refl
kept_below false false k true e = refl
kept_below false false k false e = refl

pub sets_keep : (a b k g : Set64) → Below common a b → Below common (either (common a k) g) (either (common b k) g)
sets_keep a b k g l = by_members (common (either (common a k) g) (either (common b k) g)) (either (common a k) g) (λ i.
    let x : has (either (common a k) g) i ≡ ((has a i && has k i) || has g i) = has_either (common a k) g i ∙ ap (λ y. y || has g i) (has_common a k i) in
    let y : has (either (common b k) g) i ≡ ((has b i && has k i) || has g i) = has_either (common b k) g i ∙ ap (λ y. y || has g i) (has_common b k i) in
    has_common (either (common a k) g) (either (common b k) g) i
    ∙ ap (λ z. z && has (either (common b k) g) i) x ∙ ap (λ z. ((has a i && has k i) || has g i) && z) y
    ∙ kept_below (has a i) (has b i) (has k i) (has g i) (sym (has_common a b i) ∙ ap (λ (s : Set64). has s i) l)
    ∙ sym x)

-- depths fall by becoming smaller

abbrev rank : Depth → ℕ
rank (Some l) = l.at
rank None = 1001

depth_less : (a b : Depth) → Below shallower a b → (a ≢ b) → rank a < rank b
depth_less (Some a) (Some b) l ne =
    let e : (lesser a b).at ≡ a.at = ap rank l in
    let m = lesser_at a b in
    let le : a.at ≤ b.at = omega arith in
    elim (eq-or-lt_of_le le) [ inl q ↦ absurd (ne (ap Some (level_ext a b q))) | inr k ↦ k ]
depth_less (Some a) None l ne = omega (arith, a.ok)
depth_less None (Some b) l ne = let e : b.at ≡ 1001 = ap rank l in absurd (omega (arith, b.ok))
depth_less None None l ne = absurd (ne refl)

rank_most : (a : Depth) → rank a ≤ 1001
rank_most (Some a) = omega (arith, a.ok)
rank_most None = omega arith

pub depths_fall : (a : Depth) (from : List Depth) → Fell shallower a from → length from ≤ 1001
depths_fall a from f = let i = ranked shallower rank 1001 depth_less rank_most a from f in omega arith

pub depths_keep : (a b : Depth) → Below shallower a b → Below shallower (further a) (further b)
depths_keep (Some a) (Some b) e =
    let q : (lesser a b).at ≡ a.at = ap rank e in
    let l = lesser_at a b in
    let m = lesser_at (deeper a) (deeper b) in
    ap Some (level_ext (lesser (deeper a) (deeper b)) (deeper a) (omega arith))
depths_keep (Some a) None e = refl
depths_keep None (Some b) e = let q : b.at ≡ 1001 = ap rank e in absurd (omega (arith, b.ok))
depths_keep None None e = refl
