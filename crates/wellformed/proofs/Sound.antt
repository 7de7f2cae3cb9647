-- Lines that no fault fits are a sound program. Assumes nothing.
use Rattle.std.proofs.Common.{◌≡◌, ℕ, zero, suc, ◌<◌, ◌≤◌, Bool, true, false, not, ◌&&◌, ◌||◌, T, List, [], ◌∷◌, map, length, take, Some, sym, refl, ap, ◌∙◌, subst, inl, inr, not-suc-le-zero, arith}
use Rattle.std.specs.List.{slice_get}
use Rattle.std.proofs.lemmas.List.{take_all}
use Rattle.std.proofs.lemmas.Bool.{cases_eq, cases_order}
use Rattle.graph.specs.Paths.{member}
use Rattle.graph.specs.Shapes.{AllBelow, turned}
use Rattle.numbering.specs.Numbers.{unless}
use Rattle.numbering.proofs.Appearance.{number_firsts}
use Rattle.numbering.proofs.Bools.{tell, and_i, or_i, not_i}
use Rattle.reach.specs.Near.{near}
use Rattle.reach.proofs.Near.{near_reaches, reaches_near, near_back, back_near}
use Rattle.reach.proofs.Paths.{member_first, pred_succ}
use Rattle.wellformed.specs.Faults.{Dangling, Repeated, Halts, Enters, Unreached, Stuck, Crowded, Fits, Faultless}
use Rattle.wellformed.specs.Lines.{Questions, Lawful, at, labelled, place, dangles, targets, nexts_at, halting, exit_of, graph_of, computed, expressions_of}
use Rattle.wellformed.specs.Programs.{Sound}
use Rattle.wellformed.proofs.Graphed.{graph_edges, graph_inside}
use Rattle.wellformed.proofs.Lined.{at_line, dangles_at, succs_are, length_targets, one_more}

nth_map : {A B : Type 0} (f : A → B) (l : List A) (i : ℕ) (a : A) → slice_get l i ≡ Some a → slice_get (map f l) i ≡ Some (f a)
nth_map f [] i a e = absurd (let z : ◌≡◌ {A = ℕ} 0 1 = cc in omega arith)
nth_map f (b ∷ l) zero a e = let s : b ≡ a = cc in ap (λ x. Some (f x)) s
nth_map f (b ∷ l) (suc i) a e = nth_map f l i a e

none_of : (l : List ℕ) → ((m : ℕ) → T (member m l) → ⊥) → l ≡ []
none_of [] f = refl
none_of (k ∷ l) f = absurd (f k (member_first k l))

module _ {X L E : Type 0} (q : Questions X L E) (laws : Lawful q) (d : List X) where
  -- the line with a label

  place_named : (a : L) (xs : List X) → T (labelled q a xs) → T (at (λ x. q.same_label a (q.label x)) xs (place q a xs))
  place_named a [] t = absurd t
  place_named a (x ∷ xs) t = by (q.same_label a (q.label x)) refl t (place_named a xs)
    where
      by : (b : Bool) → q.same_label a (q.label x) ≡ b → T (b || labelled q a xs) → (T (labelled q a xs) → T (at (λ x. q.same_label a (q.label x)) xs (place q a xs)))
          → T (at (λ x. q.same_label a (q.label x)) (x ∷ xs) (unless b (place q a xs)))
      by true e t f = subst T (sym e) tt
      by false e t f = f t

  labelled_before : (b : L) (xs : List X) (i k : ℕ) → i < k → T (at (λ x. q.same_label b (q.label x)) xs i) → T (labelled q b (take k xs))
  labelled_before b [] i k l t = absurd t
  labelled_before b (x ∷ xs) i zero l t = absurd (not-suc-le-zero l)
  labelled_before b (x ∷ xs) zero (suc k) l t = or_i (q.same_label b (q.label x)) (labelled q b (take k xs)) (inl t)
  labelled_before b (x ∷ xs) (suc i) (suc k) l t = or_i (q.same_label b (q.label x)) (labelled q b (take k xs)) (inr (labelled_before b xs i k (omega arith) t))

  -- of two lines with the same label the later one repeats it
  repeats : (a : L) (i k : ℕ) → i < k → T (at (λ x. q.same_label a (q.label x)) d i) → T (at (λ x. q.same_label a (q.label x)) d k) → Fits q d Repeated (suc k)
  repeats a i k o s t =
      let x = at_line (λ x. q.same_label a (q.label x)) d k t in
      let y = at_line (λ x. q.same_label a (q.label x)) d i s in
      let b = q.label x.0 in
      x.2 (λ x. labelled q (q.label x) (take k d)) (labelled_before b d i k o (y.2 (λ x. q.same_label b (q.label x)) (laws.labels.transitive b a (q.label y.0) (laws.labels.symmetric a b x.1) y.1)))

  dangles_not : (ls : List L) (i : ℕ) (a : L) → slice_get ls i ≡ Some a → (T (dangles q d ls) → ⊥) → T (labelled q a d)
  dangles_not [] i a e f = absurd (let z : ◌≡◌ {A = ℕ} 0 1 = cc in omega arith)
  dangles_not (b ∷ ls) zero a e f = elim (tell (labelled q a d)) [
    | inl t ↦ t
    | inr t ↦
        let s : b ≡ a = cc in
        absurd (f (or_i (not (labelled q b d)) (dangles q d ls) (inl (subst (λ (x : L). T (not (labelled q x d))) (sym s) (not_i (labelled q a d) t)))))
  ]
  dangles_not (b ∷ ls) (suc i) a e f = dangles_not ls i a e (λ t. f (or_i (not (labelled q b d)) (dangles q d ls) (inr t)))

  -- the line that halts

  exit_halts : (xs : List X) → T (halting q xs) → T (at q.halts xs (exit_of q xs))
  exit_halts [] t = t
  exit_halts (x ∷ xs) t = by (q.halts x) refl t (exit_halts xs)
    where
      by : (b : Bool) → q.halts x ≡ b → T (b || halting q xs) → (T (halting q xs) → T (at q.halts xs (exit_of q xs))) → T (at q.halts (x ∷ xs) (unless b (exit_of q xs)))
      by true e t f = subst T (sym e) tt
      by false e t f = f t

  halting_before : (xs : List X) (i k : ℕ) → i < k → T (at q.halts xs i) → T (halting q (take k xs))
  halting_before [] i k l t = absurd t
  halting_before (x ∷ xs) i zero l t = absurd (not-suc-le-zero l)
  halting_before (x ∷ xs) zero (suc k) l t = or_i (q.halts x) (halting q (take k xs)) (inl t)
  halting_before (x ∷ xs) (suc i) (suc k) l t = or_i (q.halts x) (halting q (take k xs)) (inr (halting_before xs i k (omega arith) t))

  second : (i k : ℕ) → i < k → T (at q.halts d i) → T (at q.halts d k) → Fits q d Halts (suc k)
  second i k o s t =
      let x = at_line q.halts d k t in
      x.2 (λ x. q.halts x && halting q (take k d)) (and_i (q.halts x.0) (halting q (take k d)) x.1 (halting_before d i k o s))

  exit_ends : (xs : List X) (k : ℕ) → T (at q.halts xs k) → nexts_at q xs k ≡ []
  exit_ends [] k t = refl
  exit_ends (x ∷ xs) zero t = laws.ending x t
  exit_ends (x ∷ xs) (suc k) t = exit_ends xs k t

  module _ (h : Faultless q d) where
    one_label : (a : L) (i k : ℕ) → T (at (λ x. q.same_label a (q.label x)) d i) → T (at (λ x. q.same_label a (q.label x)) d k) → i ≡ k
    one_label a i k t u = elim (cases_order i k) [
      | inl e ↦ e
      | inr (inl l) ↦ absurd (h Repeated (suc k) (repeats a i k l t u))
      | inr (inr l) ↦ absurd (h Repeated (suc i) (repeats a k i l u t))
    ]

    one_halt : (i k : ℕ) → T (at q.halts d i) → T (at q.halts d k) → i ≡ k
    one_halt i k t u = elim (cases_order i k) [
      | inl e ↦ e
      | inr (inl l) ↦ absurd (h Halts (suc k) (second i k l t u))
      | inr (inr l) ↦ absurd (h Halts (suc i) (second k i l u t))
    ]

    halted : T (at q.halts d (exit_of q d))
    halted = exit_halts d (elim (tell (halting q d)) [ inl t ↦ t | inr t ↦ absurd (h Halts 0 t) ])

    not_crowded : (k : ℕ) → length (expressions_of q (take k d)) ≤ 64
    not_crowded zero = omega arith
    not_crowded (suc k) =
        let a = not_crowded k in
        let b = one_more q d k in
        elim (cases_eq (length (expressions_of q (take k d))) 64) [
          | inl e ↦ elim (cases_eq (length (expressions_of q (take (suc k) d))) 65) [ inl g ↦ absurd (h Crowded (suc k) (e, g)) | inr g ↦ omega arith ]
          | inr e ↦ omega arith
        ]

    inside : (n : ℕ) → AllBelow (length d) ((graph_of q d).succs n) × AllBelow (length d) ((graph_of q d).preds n)
    inside = graph_inside q laws d (λ g m i. h g m)

    pub sound : Sound q d
    sound = record {
      many = λ k. ap length (succs_are q d k) ∙ length_targets q d (nexts_at q d k);
      succs = λ k i a e.
          let t = dangles_not (nexts_at q d k) i a e (λ t. h Dangling (suc k) (dangles_at q d d k t)) in
          let n = place_named a d t in
          (place q a d, ap (λ (l : List ℕ). slice_get l i) (succs_are q d k) ∙ nth_map (λ b. place q b d) (nexts_at q d k) i a e, (n, λ m u. one_label a m (place q a d) u n));
      exit = (halted, λ m t. one_halt m (exit_of q d) t halted);
      entered = none_of ((graph_of q d).preds 0) (λ m t. h Enters (suc m) (subst (λ (l : List ℕ). T (member 0 l)) (succs_are q d m) (pred_succ (graph_of q d) (graph_edges q laws d) m 0 t)));
      left = succs_are q d (exit_of q d) ∙ ap (targets q d) (exit_ends d (exit_of q d) halted);
      reached = λ k i. elim (tell (near (graph_of q d) (length d) k)) [
        | inl t ↦ near_reaches (graph_of q d) (graph_edges q laws d) (length d) k t
        | inr t ↦ absurd (h Unreached (suc k) (i, λ r. t (reaches_near (graph_of q d) (graph_edges q laws d) (λ n. (inside n).1) k i r)))
      ];
      ends = λ k i. elim (tell (near (turned (graph_of q d)) (length d) k)) [
        | inl t ↦ near_back (graph_of q d) (graph_edges q laws d) (length d) k t
        | inr t ↦ absurd (h Stuck (suc k) (i, λ r. t (back_near (graph_of q d) (graph_edges q laws d) (λ n. (inside n).0) k i r)))
      ];
      few = subst (λ (xs : List X). length (expressions_of q xs) ≤ 64) (take_all (length d) d (omega arith)) (not_crowded (length d));
      numbers = λ e t. number_firsts laws.expressions e (computed q d) t;
    }
