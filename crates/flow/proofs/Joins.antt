-- Those who wait, once others have come. Assumes nothing.
use Rattle.std.proofs.Common.{◌≡◌, ℕ, ◌+◌, ◌<◌, Bool, true, false, cond, eqb, List, [], ◌∷◌, ◌++◌, refl, ap, subst, arith, eq-eqb, eqb-true}
use borrow.Author.Tests.{eqb-false}
use Rattle.graph.specs.Shapes.{times, AllBelow}
use Rattle.flow.specs.Rings.{joined, joined_all}
use Rattle.flow.proofs.Ringed.{times_snoc, below_snoc}

pub joined_keeps : (m n : ℕ) (ws : List ℕ) → 0 < times m ws → 0 < times m (joined n ws)
joined_keeps m n ws h = by (eqb (times n ws) 0)
  where
    by : (b : Bool) → 0 < times m (cond b (ws ++ (n ∷ [])) ws)
    by true = let e = times_snoc m ws n in omega arith
    by false = h

pub joined_in : (n : ℕ) (ws : List ℕ) → 0 < times n (joined n ws)
joined_in n ws = by (eqb (times n ws) 0) refl
  where
    by : (b : Bool) → eqb (times n ws) 0 ≡ b → 0 < times n (cond b (ws ++ (n ∷ [])) ws)
    by true e = let t = times_snoc n ws n in let r : cond {A = ℕ} (eqb n n) 1 0 ≡ 1 = ap (λ b. cond {A = ℕ} b 1 0) (eq-eqb n n refl) in omega arith
    by false e = let k = eqb-false (times n ws) 0 e in omega arith

pub joined_below : (c n : ℕ) (ws : List ℕ) → AllBelow c ws → n < c → AllBelow c (joined n ws)
joined_below c n ws h l = by (eqb (times n ws) 0)
  where
    by : (b : Bool) → AllBelow c (cond b (ws ++ (n ∷ [])) ws)
    by true = below_snoc c ws n h l
    by false = h

pub all_keeps : (m : ℕ) (ns ws : List ℕ) → 0 < times m ws → 0 < times m (joined_all ns ws)
all_keeps m [] ws h = h
all_keeps m (n ∷ ns) ws h = all_keeps m ns (joined n ws) (joined_keeps m n ws h)

pub all_in : (m : ℕ) (ns ws : List ℕ) → 0 < times m ns → 0 < times m (joined_all ns ws)
all_in m [] ws h = absurd (omega arith)
all_in m (n ∷ ns) ws h = by (eqb n m) refl h (λ k. all_in m ns (joined n ws) k)
  where
    by : (b : Bool) → eqb n m ≡ b → 0 < cond b 1 0 + times m ns → (0 < times m ns → 0 < times m (joined_all ns (joined n ws))) → 0 < times m (joined_all ns (joined n ws))
    by true e k ih = all_keeps m ns (joined n ws) (subst (λ (j : ℕ). 0 < times j (joined n ws)) (eqb-true n m e) (joined_in n ws))
    by false e k ih = ih (omega arith)

pub all_below_joined : (c : ℕ) (ns ws : List ℕ) → AllBelow c ns → AllBelow c ws → AllBelow c (joined_all ns ws)
all_below_joined c [] ws k h = h
all_below_joined c (n ∷ ns) ws k h = all_below_joined c ns (joined n ws) k.1 (joined_below c n ws h k.0)
