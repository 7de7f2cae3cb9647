-- One fault after another, by rising number. Assumes nothing.
use Rattle.std.proofs.Common.{◌≡◌, ℕ, zero, suc, ◌-◌, ◌<◌, ◌≤◌, ◌&&◌, T, List, [], ◌∷◌, length, get_or, take, sym, refl, ap, ◌∙◌, subst, inl, inr, arith, lit<, lit≤, take_all}
use Rattle.std.proofs.lemmas.Bool.{cases_lt, cases_eq, cases_order}
use Rattle.graph.specs.Paths.{member}
use Rattle.wellformed.specs.Faults.{Fault, Empty, Repeated, Dangling, Halts, Enters, Unreached, Stuck, Crowded, code, Fits, Clean, First, Faultless}
use Rattle.wellformed.specs.Lines.{Questions, labelled, dangles, halting, targets, expressions_of}
use Rattle.wellformed.proofs.Lined.{at_in, nexts_past}

abbrev decode : ℕ → Fault
decode n = get_or (Empty ∷ Repeated ∷ Dangling ∷ Halts ∷ Enters ∷ Unreached ∷ Stuck ∷ Crowded ∷ []) (n - 7) Empty

decoded : (f : Fault) → decode (code f) ≡ f
decoded Empty = refl
decoded Repeated = refl
decoded Dangling = refl
decoded Halts = refl
decoded Enters = refl
decoded Unreached = refl
decoded Stuck = refl
decoded Crowded = refl

code_same : (f g : Fault) → code f ≡ code g → f ≡ g
code_same f g e = sym (decoded f) ∙ ap decode e ∙ decoded g

code_range : (f : Fault) → (7 ≤ code f) × (code f < 15)
code_range Empty = (lit≤ tt, lit< tt)
code_range Repeated = (lit≤ tt, lit< tt)
code_range Dangling = (lit≤ tt, lit< tt)
code_range Halts = (lit≤ tt, lit< tt)
code_range Enters = (lit≤ tt, lit< tt)
code_range Unreached = (lit≤ tt, lit< tt)
code_range Stuck = (lit≤ tt, lit< tt)
code_range Crowded = (lit≤ tt, lit< tt)

module _ {X L E : Type 0} (q : Questions X L E) (d : List X) where
  -- nothing has a number below 7, and nothing is left above 14
  pub clean_none : Clean q d 7
  clean_none g m i t = let r = (code_range g).0 in omega arith

  pub clean_all : Clean q d 15 → Faultless q d
  clean_all h f n = h f n (code_range f).1

  -- a fault that does not fit is passed
  pub pass : (f : Fault) → Clean q d (code f) → ((m : ℕ) → Fits q d f m → ⊥) → Clean q d (suc (code f))
  pass f h none g m i t = elim (cases_eq (code g) (code f)) [
    | inl e ↦ none m (subst (λ (k : Fault). Fits q d k m) (code_same g f e) t)
    | inr e ↦ h g m (omega arith) t
  ]

  -- no fault names a line beyond the last
  pub named_in : (f : Fault) (n : ℕ) → Fits q d f n → n < suc (length d)
  named_in f zero t = omega arith
  named_in Empty (suc k) t = absurd t
  named_in Repeated (suc k) t = let i = at_in (λ x. labelled q (q.label x) (take k d)) d k t in omega arith
  named_in Dangling (suc k) t = let i = at_in (λ x. dangles q d (q.nexts x)) d k t in omega arith
  named_in Halts (suc k) t = let i = at_in (λ x. q.halts x && halting q (take k d)) d k t in omega arith
  named_in Enters (suc k) t = elim (cases_lt k (length d)) [
    | inl i ↦ omega arith
    | inr i ↦ absurd (subst (λ ls. T (member 0 (targets q d ls))) (nexts_past q d k i) t)
  ]
  named_in Unreached (suc k) t = let i = t.0 in omega arith
  named_in Stuck (suc k) t = let i = t.0 in omega arith
  named_in Crowded (suc k) t = elim (cases_lt k (length d)) [
    | inl i ↦ omega arith
    | inr i ↦
        let e = ap (λ (c : List X). length (expressions_of q c)) (take_all k d i) in
        let g = ap (λ (c : List X). length (expressions_of q c)) (take_all (suc k) d (omega arith)) in
        let p = t.0 in
        let r = t.1 in
        absurd (omega arith)
  ]

  -- at most one fault is answered
  pub at_most_one : (f g : Fault) (m n : ℕ) → First q d f m → First q d g n → (f ≡ g) × (m ≡ n)
  at_most_one f g m n p r = elim (cases_order (code f) (code g)) [
    | inl e ↦ let s = code_same f g e in (s, lines (subst (λ (h : Fault). First q d h m) s p))
    | inr (inl i) ↦ absurd (r.rising f m i p.fits)
    | inr (inr i) ↦ absurd (p.rising g n i r.fits)
  ]
    where
      lines : First q d g m → m ≡ n
      lines s = elim (cases_order m n) [
        | inl e ↦ e
        | inr (inl i) ↦ absurd (r.lowest m i s.fits)
        | inr (inr i) ↦ absurd (s.lowest n i r.fits)
      ]
