-- Depths: extensionality and the laws of the smaller. Assumes nothing.
use Rattle.std.specs.Prelude.{◌≡◌, ◌≤◌, min, Bool, true, false, cond, ◌==◌, nat_lt, T, Some, None, refl}
use Rattle.std.specs.Option.{option_eq}
use Rattle.std.specs.Ordering.{is_lt, nat_cmp, ord_min}
use Rattle.std.proofs.Common.{Less, Equal, Greater, ap, arith, eqb→eq}
use mathlib.Core.HLevel.{is_prop→PathP}
use Rattle.std.proofs.Math.Bridge.{le_prop}
use Rattle.std.proofs.lemmas.Bool.Decides.{nat_tests}
use Rattle.facts.specs.declared.depth.Level.{Level}
use Rattle.facts.specs.Depths.{Depth, lesser, shallower}

pub level_ext : (a b : Level) → a.at ≡ b.at → a ≡ b
level_ext a b e = λ i. record {
  at = e i;
  ok = is_prop→PathP (λ j. e j ≤ 1000) (λ j. le_prop) a.ok b.ok i;
}

pub lesser_at : (a b : Level) → (lesser a b).at ≡ min a.at b.at
lesser_at a b = grind (arith, nat_tests)

lesser_comm : (a b : Level) → lesser a b ≡ lesser b a
lesser_comm a b = level_ext _ _ (grind (arith, nat_tests))

pub shallower_comm : (a b : Depth) → shallower a b ≡ shallower b a
shallower_comm (Some a) (Some b) = ap Some (lesser_comm a b)
shallower_comm (Some a) None = refl
shallower_comm None (Some b) = refl
shallower_comm None None = refl

-- depths that are told to be the same are equal
pub same_depths : (a b : Depth) → T (option_eq (λ (x y : Level). x.at == y.at) a b) → a ≡ b
same_depths (Some a) (Some b) t = ap Some (level_ext a b (eqb→eq a.at b.at t))
same_depths (Some a) None t = absurd t
same_depths None (Some b) t = absurd t
same_depths None None t = refl

-- the smaller by the order of the numbers
pub ord_min_at : (a b : Level) → ord_min (λ (x y : Level). nat_cmp x.at y.at) a b ≡ lesser a b
ord_min_at a b = by (nat_lt b.at a.at) refl (b.at == a.at) refl
  where
    by : (x : Bool) → nat_lt b.at a.at ≡ x → (y : Bool) → (b.at == a.at) ≡ y → cond (is_lt (cond x Less (cond y Equal Greater))) b a ≡ lesser a b
    by true e y f = level_ext _ _ (grind (arith, nat_tests))
    by false e true f = level_ext _ _ (grind (arith, nat_tests))
    by false e false f = level_ext _ _ (grind (arith, nat_tests))
