-- Booleans as facts. Assumes nothing.
use Rattle.std.proofs.Common.{◌≡◌, Bool, true, false, not, ◌&&◌, ◌||◌, T, ◌⊎◌, refl, inl, inr}

pub tell : (b : Bool) → T b ⊎ (¬ T b)
tell true = inl tt
tell false = inr (λ t. t)

pub true_of : (b : Bool) → T b → b ≡ true
true_of true t = refl
true_of false t = absurd t

pub false_of : (b : Bool) → (¬ T b) → b ≡ false
false_of true f = absurd (f tt)
false_of false f = refl

pub iff : (a b : Bool) → (T a → T b) → (T b → T a) → a ≡ b
iff true true f g = refl
iff true false f g = absurd (f tt)
iff false true f g = absurd (g tt)
iff false false f g = refl

pub and_l : (a b : Bool) → T (a && b) → T a
and_l true b t = tt
and_l false b t = t

pub and_r : (a b : Bool) → T (a && b) → T b
and_r true b t = t
and_r false b t = absurd t

pub and_i : (a b : Bool) → T a → T b → T (a && b)
and_i true b s t = t
and_i false b s t = s

pub not_i : (b : Bool) → (¬ T b) → T (not b)
not_i true f = f tt
not_i false f = tt

pub not_e : (b : Bool) → T (not b) → ¬ T b
not_e true t u = t
not_e false t u = u

pub or_i : (a b : Bool) → T a ⊎ T b → T (a || b)
or_i true b t = tt
or_i false b (inl t) = absurd t
or_i false b (inr t) = t

pub or_e : (a b : Bool) → T (a || b) → T a ⊎ T b
or_e true b t = inl tt
or_e false b t = inr t
