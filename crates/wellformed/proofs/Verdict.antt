-- The computed verdict is the first fault that fits. Assumes nothing.
use Rattle.std.proofs.Common.{◌≡◌, ℕ, zero, suc, ◌+◌, ◌<◌, ◌≤◌, Bool, true, false, T, eqb, List, length, take, Some, None, Option, sym, refl, ap, ◌∙◌, subst, inl, inr, arith, eqb→eq}
use lib.Dec.{eqb_refl}
use Rattle.std.proofs.lemmas.Bool.{cases_eq}
use Rattle.graph.specs.Paths.{Reaches}
use Rattle.graph.specs.Shapes.{turned}
use Rattle.numbering.proofs.Bools.{and_l, and_r, and_i, not_i, not_e}
use Rattle.reach.specs.Near.{near}
use Rattle.reach.proofs.Near.{near_reaches, reaches_near, near_back, back_near}
use Rattle.wellformed.specs.Faults.{Fault, Empty, Repeated, Dangling, Halts, Enters, Unreached, Stuck, Crowded, code, Fits, Clean}
use Rattle.wellformed.specs.Lines.{Questions, Lawful, halting, exit_of, graph_of, expressions_of}
use Rattle.wellformed.specs.Verdicts.{Refusal, keep, scan, found, fitting, pick, verdict, Answers, Right}
use Rattle.wellformed.proofs.Sound.{sound}
use Rattle.wellformed.proofs.Judged.{clean_none, clean_all, pass, named_in, at_most_one}
use Rattle.wellformed.proofs.Graphed.{graph_inside, graph_edges}

-- what a scan of k numbers from i on finds
abbrev Scanned : (ℕ → Bool) → ℕ → ℕ → Option ℕ → Type 0
Scanned p i k None = (m : ℕ) → i ≤ m → m < i + k → T (p m) → ⊥
Scanned p i k (Some n) = (i ≤ n) × (n < i + k) × T (p n) × ((m : ℕ) → i ≤ m → m < n → T (p m) → ⊥)

scanned : (p : ℕ → Bool) (k i : ℕ) → Scanned p i k (scan p i k)
scanned p zero i = λ m a b t. omega arith
scanned p (suc k) i = by (p i) refl (scan p (suc i) k) (scanned p k (suc i))
  where
    by : (b : Bool) → p i ≡ b → (r : Option ℕ) → Scanned p (suc i) k r → Scanned p i (suc k) (keep b i r)
    by true e r s = (omega arith, omega arith, subst T (sym e) tt, λ m a b t. omega arith)
    by false e None s = λ m a b t. elim (cases_eq m i) [
      | inl z ↦ subst T (ap p z ∙ e) t
      | inr z ↦ s m (omega arith) (omega arith) t
    ]
    by false e (Some n) s = (
      let z = s.0 in omega arith,
      let z = s.1 in omega arith,
      s.2,
      λ m a b t. elim (cases_eq m i) [
        | inl z ↦ subst T (ap p z ∙ e) t
        | inr z ↦ s.3 m (omega arith) b t
      ],
    )

eqb_of : (m n : ℕ) → m ≡ n → T (eqb m n)
eqb_of m n e = subst (λ (k : ℕ). T (eqb m k)) e (eqb_refl m)

module _ {X L E : Type 0} (q : Questions X L E) (laws : Lawful q) (d : List X) where
  below : (c b : ℕ) → b ≤ c → Clean q d c → Clean q d b
  below c b i h g m j = h g m (omega arith)

  reached : Clean q d 12 → (k : ℕ) → k < length d → Reaches (graph_of q d) 0 k → T (near (graph_of q d) (length d) k)
  reached h k i = reaches_near (graph_of q d) (graph_edges q laws d) (λ n. (graph_inside q laws d (below 12 10 (omega arith) h) n).1) k i

  reaches : Clean q d 13 → (k : ℕ) → k < length d → Reaches (graph_of q d) k (exit_of q d) → T (near (turned (graph_of q d)) (length d) k)
  reaches h k i = back_near (graph_of q d) (graph_edges q laws d) (λ n. (graph_inside q laws d (below 13 10 (omega arith) h) n).0) k i

  -- the tests tell which fault fits, within the lines

  fits_of : (f : Fault) → Clean q d (code f) → (n : ℕ) → n < suc (length d) → T (fitting q d f n) → Fits q d f n
  fits_of Empty h zero i t = eqb→eq (length d) 0 t
  fits_of Empty h (suc k) i t = t
  fits_of Repeated h zero i t = t
  fits_of Repeated h (suc k) i t = t
  fits_of Dangling h zero i t = t
  fits_of Dangling h (suc k) i t = t
  fits_of Halts h zero i t = not_e (halting q d) t
  fits_of Halts h (suc k) i t = t
  fits_of Enters h zero i t = t
  fits_of Enters h (suc k) i t = t
  fits_of Unreached h zero i t = t
  fits_of Unreached h (suc k) i t = let l : k < length d = omega arith in (l, λ r. not_e (near (graph_of q d) (length d) k) t (reached h k l r))
  fits_of Stuck h zero i t = t
  fits_of Stuck h (suc k) i t = let l : k < length d = omega arith in (l, λ r. not_e (near (turned (graph_of q d)) (length d) k) t (reaches h k l r))
  fits_of Crowded h zero i t = t
  fits_of Crowded h (suc k) i t =
      let a = length (expressions_of q (take k d)) in
      let b = length (expressions_of q (take (suc k) d)) in
      (eqb→eq a 64 (and_l (eqb a 64) (eqb b 65) t), eqb→eq b 65 (and_r (eqb a 64) (eqb b 65) t))

  of_fits : (f : Fault) → Clean q d (code f) → (n : ℕ) → Fits q d f n → T (fitting q d f n)
  of_fits Empty h zero t = eqb_of (length d) 0 t
  of_fits Empty h (suc k) t = t
  of_fits Repeated h zero t = t
  of_fits Repeated h (suc k) t = t
  of_fits Dangling h zero t = t
  of_fits Dangling h (suc k) t = t
  of_fits Halts h zero t = not_i (halting q d) t
  of_fits Halts h (suc k) t = t
  of_fits Enters h zero t = t
  of_fits Enters h (suc k) t = t
  of_fits Unreached h zero t = t
  of_fits Unreached h (suc k) t = not_i (near (graph_of q d) (length d) k) (λ u. t.1 (near_reaches (graph_of q d) (graph_edges q laws d) (length d) k u))
  of_fits Stuck h zero t = t
  of_fits Stuck h (suc k) t = not_i (near (turned (graph_of q d)) (length d) k) (λ u. t.1 (near_back (graph_of q d) (graph_edges q laws d) (length d) k u))
  of_fits Crowded h zero t = t
  of_fits Crowded h (suc k) t =
      let a = length (expressions_of q (take k d)) in
      let b = length (expressions_of q (take (suc k) d)) in
      and_i (eqb a 64) (eqb b 65) (eqb_of a 64 t.0) (eqb_of b 65 t.1)

  next : (f : Fault) (rest : Option Refusal) → (Clean q d (suc (code f)) → Answers q d rest) → Clean q d (code f) → Answers q d (pick q d f rest)
  next f rest k h = by (scan (fitting q d f) 0 (suc (length d))) (scanned (fitting q d f) (suc (length d)) 0)
    where
      by : (r : Option ℕ) → Scanned (fitting q d f) 0 (suc (length d)) r → Answers q d (found f r rest)
      by (Some n) s =
          let u = s.1 in
          record { fits = fits_of f h n (omega arith) s.2; rising = h; lowest = λ m i t. s.3 m (omega arith) i (of_fits f h m t) }
      by None s = k (pass q d f h (λ m t. let z = named_in q d f m t in s m (omega arith) (omega arith) (of_fits f h m t)))

  answers : Answers q d (verdict q d)
  answers =
      next Empty _ (next Repeated _ (next Dangling _ (next Halts _ (next Enters _ (next Unreached _ (next Stuck _ (next Crowded None (clean_all q d)))))))) (clean_none q d)

  only : (r : Option Refusal) → Answers q d r → r ≡ verdict q d
  only r a = by r (verdict q d) a answers
    where
      by : (r s : Option Refusal) → Answers q d r → Answers q d s → r ≡ s
      by None None a b = refl
      by None (Some s) a b = absurd (a s.fault s.line b.fits)
      by (Some r) None a b = absurd (b r.fault r.line a.fits)
      by (Some r) (Some s) a b =
          let e = at_most_one q d r.fault s.fault r.line s.line a b in
          ap Some (λ i. record { fault = e.0 i; line = e.1 i })

  pub right : Right q d
  right = record { answers = answers; only = only; sound = sound q laws d }
