-- Queues: what a push and a pop do to the list of those who wait. Assumes nothing.
use Rattle.std.proofs.Common.{◌≡◌, ℕ, zero, suc, ◌+◌, ◌-◌, ◌%◌, ◌<◌, ◌≤◌, Bool, true, false, cond, eqb, List, [], ◌∷◌, ◌++◌, length, get_or, set, replicate, sym, refl, ap, ◌∙◌, subst, ap₂, inl, inr, eq-or-lt_of_le, add-one, arith, length-set, get_or-set_other, get_or-set_same, eq-eqb, eqb-true}
use borrow.Author.Tests.{eqb-false}
use Rattle.std.proofs.lemmas.Bool.Decides.{nat_tests}
use Rattle.std.proofs.lemmas.List.{length-replicate, get_or-replicate}
use Rattle.graph.specs.Shapes.{times, AllBelow}
use Rattle.flow.specs.Rings.{places, joined, Ring}

pub places_mod : (ring : List ℕ) (h n : ℕ) → places ring (h % 288) n ≡ places ring h n
places_mod ring h zero = refl
places_mod ring h (suc n) =
    let a : (h % 288) % 288 ≡ h % 288 = omega arith in
    let b : suc (h % 288) % 288 ≡ suc h % 288 = omega arith in
    ap₂ (λ i (r : List ℕ). get_or ring i 0 ∷ r) a
    (sym (places_mod ring (suc (h % 288)) n) ∙ ap (λ i. places ring i n) b ∙ places_mod ring (suc h) n)

places_off : (ring : List ℕ) (h n at x : ℕ) → ((i : ℕ) → i < n → (h + i) % 288 ≡ at → ⊥) → places (set ring at x) h n ≡ places ring h n
places_off ring h zero at x off = refl
places_off ring h (suc n) at x off =
    let ne : h % 288 ≡ at → ⊥ = λ e. off 0 (omega arith) (ap (λ i. i % 288) (omega arith) ∙ e) in
    ap₂ (λ (i : ℕ) (r : List ℕ). i ∷ r) (get_or-set_other ring at (h % 288) x 0 ne)
    (places_off ring (suc h) n at x (λ i k e. off (suc i) (omega arith) (ap (λ j. j % 288) (omega arith) ∙ e)))

places_snoc : (ring : List ℕ) (h n : ℕ) → places ring h (suc n) ≡ places ring h n ++ (get_or ring ((h + n) % 288) 0 ∷ [])
places_snoc ring h zero = ap (λ i. get_or ring (i % 288) 0 ∷ []) (omega arith)
places_snoc ring h (suc n) =
    let e : suc h + n ≡ h + suc n = omega arith in
    ap (λ (r : List ℕ). get_or ring (h % 288) 0 ∷ r)
    (places_snoc ring (suc h) n ∙ ap (λ i. places ring (suc h) n ++ (get_or ring (i % 288) 0 ∷ [])) e)

pub places_more : (ring : List ℕ) (h n x : ℕ) → length ring ≡ 288 → n < 288 → places (set ring ((h + n) % 288) x) h (n + 1) ≡ places ring h n ++ (x ∷ [])
places_more ring h n x long short =
    ap (places (set ring ((h + n) % 288) x) h) (add-one n)
    ∙ places_snoc (set ring ((h + n) % 288) x) h n
    ∙ ap₂ (λ (r : List ℕ) i. r ++ (i ∷ [])) (places_off ring h n ((h + n) % 288) x (λ i k e. omega arith))
    (get_or-set_same ring ((h + n) % 288) x 0 (omega arith))

pub length_places : (ring : List ℕ) (h n : ℕ) → length (places ring h n) ≡ n
length_places ring h zero = refl
length_places ring h (suc n) = ap suc (length_places ring (suc h) n)

pub times_snoc : (m : ℕ) (ws : List ℕ) (n : ℕ) → times m (ws ++ (n ∷ [])) ≡ times m ws + cond (eqb n m) 1 0
times_snoc m [] n = omega arith
times_snoc m (w ∷ ws) n = let ih = times_snoc m ws n in omega arith

pub below_snoc : (k : ℕ) (ws : List ℕ) (n : ℕ) → AllBelow k ws → n < k → AllBelow k (ws ++ (n ∷ []))
below_snoc k [] n h l = (l, tt)
below_snoc k (w ∷ ws) n h l = (h.0, below_snoc k ws n h.1 l)

-- ---- no more wait than there are nodes

tot : ℕ → List ℕ → ℕ
tot zero ws = 0
tot (suc k) ws = times k ws + tot k ws

tot_out : (k x : ℕ) (ws : List ℕ) → k ≤ x → tot k (x ∷ ws) ≡ tot k ws
unfolding tot
tot_out zero x ws h = refl
tot_out (suc k) x ws h =
    let ih = tot_out k x ws (omega arith) in
    let ne : x ≡ k → ⊥ = omega arith in
    grind (arith, nat_tests)

tot_in : (k x : ℕ) (ws : List ℕ) → x < k → tot k (x ∷ ws) ≡ 1 + tot k ws
unfolding tot
tot_in zero x ws h = omega arith
tot_in (suc k) x ws h = elim (eq-or-lt_of_le h) [
  | inl e ↦ (let q : x ≡ k = omega arith in let o = tot_out k x ws (omega arith) in grind (arith, nat_tests))
  | inr l ↦ (let ih = tot_in k x ws (omega arith) in let ne : x ≡ k → ⊥ = omega arith in grind (arith, nat_tests))
]

tot_none : (j : ℕ) → tot j [] ≡ 0
unfolding tot
tot_none zero = refl
tot_none (suc j) = let ih = tot_none j in omega arith

tot_all : (k : ℕ) (ws : List ℕ) → AllBelow k ws → tot k ws ≡ length ws
tot_all k [] h = tot_none k
tot_all k (w ∷ ws) h = let a = tot_in k w ws h.0 in let b = tot_all k ws h.1 in omega arith

tot_le : (k : ℕ) (ws : List ℕ) → ((m : ℕ) → m < k → times m ws ≤ 1) → tot k ws ≤ k
unfolding tot
tot_le zero ws h = omega arith
tot_le (suc k) ws h = let a = h k (omega arith) in let b = tot_le k ws (λ m l. h m (omega arith)) in omega arith

tot_lt : (k n : ℕ) (ws : List ℕ) → ((m : ℕ) → m < k → times m ws ≤ 1) → n < k → times n ws ≡ 0 → tot k ws < k
unfolding tot
tot_lt zero n ws h l z = omega arith
tot_lt (suc k) n ws h l z = elim (eq-or-lt_of_le l) [
  | inl e ↦ (let q : n ≡ k = omega arith in let z' : times k ws ≡ 0 = subst (λ (j : ℕ). times j ws ≡ 0) q z in let b = tot_le k ws (λ m l'. h m (omega arith)) in omega arith)
  | inr l' ↦ (let a = h k (omega arith) in let b = tot_lt k n ws (λ m l''. h m (omega arith)) (omega arith) z in omega arith)
]

pub room : (k n : ℕ) (ws : List ℕ) → AllBelow k ws → ((m : ℕ) → m < k → times m ws ≤ 1) → n < k → times n ws ≡ 0 → length ws < k
room k n ws below once l z = let a = tot_all k ws below in let b = tot_lt k n ws once l z in omega arith

-- ---- the three calls

pub fresh_ring : Ring (replicate 288 0) (replicate 288 false) 0 0
fresh_ring = record {
  ring_long = length-replicate {A = ℕ} 288 0;
  marks_long = length-replicate 288 false;
  head_in = omega arith;
  len_in = omega arith;
  nodes = tt;
  marked = λ n h. sym (ap (λ b. cond b 1 0) (get_or-replicate 288 n false false h));
}

module _ {ring : List ℕ} {marks : List Bool} {head len : ℕ} (s : Ring ring marks head len) where
  abbrev waiting : List ℕ
  waiting = places ring head len

  pub ring_short : length (places ring head len) ≤ 288
  ring_short = let a = length_places ring head len in let b = s.len_in in omega arith

  once : (m : ℕ) → m < 288 → times m waiting ≤ 1
  once m h = let e = s.marked m h in grind (arith, nat_tests)

  abbrev pub pushed : ℕ → List ℕ
  pushed n = places (set ring ((head + len) % 288) n) head (len + 1)

  module _ (n : ℕ) (h : n < 288) (free : get_or marks n false ≡ false) where
    absent : times n waiting ≡ 0
    absent = s.marked n h ∙ ap (λ b. cond b 1 0) free

    pub push_room : len < 288
    push_room = let a = room 288 n waiting s.nodes once h absent in let b = length_places ring head len in omega arith

    push_list : pushed n ≡ waiting ++ (n ∷ [])
    push_list = places_more ring head len n s.ring_long push_room

    pub push_after : pushed n ≡ joined n waiting
    push_after = push_list ∙ sym (ap (λ b. cond b (waiting ++ (n ∷ [])) waiting) (eq-eqb _ 0 absent))

    pub push_ring : Ring (set ring ((head + len) % 288) n) (set marks n true) head (len + 1)
    push_ring = record {
      ring_long = length-set ring _ n ∙ s.ring_long;
      marks_long = length-set marks n true ∙ s.marks_long;
      head_in = s.head_in;
      len_in = let r = push_room in omega arith;
      nodes = subst (AllBelow 288) (sym push_list) (below_snoc 288 waiting n s.nodes h);
      marked = λ m l. ap (times m) push_list ∙ times_snoc m waiting n ∙ mark m l (eqb n m) refl;
    }
      where
        mark : (m : ℕ) → m < 288 → (b : Bool) → eqb n m ≡ b → times m waiting + cond b 1 0 ≡ cond (get_or (set marks n true) m false) 1 0
        mark m l true e =
            let q' : n ≡ m = eqb-true n m e in
            let z : times m waiting ≡ 0 = subst (λ (j : ℕ). times j waiting ≡ 0) q' absent in
            let w : get_or (set marks n true) n false ≡ true = get_or-set_same marks n true false (omega (arith, s.marks_long)) in
            let w' : get_or (set marks n true) m false ≡ true = ap (λ j. get_or (set marks n true) j false) (sym q') ∙ w in
            let u : times m waiting + 1 ≡ 1 = omega arith in
            u ∙ sym (ap (λ b. cond b 1 0) w')
        mark m l false e =
            let ne : m ≡ n → ⊥ = λ x. eqb-false n m e (sym x) in
            let w = get_or-set_other marks n m true false ne in
            let u : times m waiting + 0 ≡ times m waiting = omega arith in
            u ∙ s.marked m l ∙ sym (ap (λ b. cond b 1 0) w)

  abbrev pub next : ℕ
  next = get_or ring head 0

  abbrev pub popped : List ℕ
  popped = places ring ((head + 1) % 288) (len - 1)

  module _ (some : len ≡ 0 → ⊥) where
    pub pop_list : waiting ≡ next ∷ popped
    pop_list =
        let e : len ≡ suc (len - 1) = omega arith in
        let a : head % 288 ≡ head = omega (arith, s.head_in) in
        ap (places ring head) e
        ∙ ap₂ (λ i (r : List ℕ). get_or ring i 0 ∷ r) a
        (ap (λ i. places ring i (len - 1)) (sym (add-one head)) ∙ sym (places_mod ring (head + 1) (len - 1)))

    all : AllBelow 288 (next ∷ popped)
    all = subst (AllBelow 288) pop_list s.nodes

    pub pop_below : next < 288
    pop_below = all.0

    pub pop_ring : Ring ring (set marks next false) ((head + 1) % 288) (len - 1)
    pop_ring = record {
      ring_long = s.ring_long;
      marks_long = length-set marks next false ∙ s.marks_long;
      head_in = omega arith;
      len_in = omega (arith, s.len_in);
      nodes = all.1;
      marked = λ m l. mark m l (eqb next m) refl (sym (ap (times m) pop_list) ∙ s.marked m l);
    }
      where
        mark : (m : ℕ) → m < 288 → (b : Bool) → eqb next m ≡ b → cond b 1 0 + times m popped ≡ cond (get_or marks m false) 1 0
            → times m popped ≡ cond (get_or (set marks next false) m false) 1 0
        mark m l true e h =
            let q' : next ≡ m = eqb-true next m e in
            let w : get_or (set marks next false) next false ≡ false = get_or-set_same marks next false false (omega (arith, s.marks_long, pop_below)) in
            let w' : get_or (set marks next false) m false ≡ false = ap (λ j. get_or (set marks next false) j false) (sym q') ∙ w in
            let u : times m popped ≡ 0 = bit (get_or marks m false) _ h in
            u ∙ sym (ap (λ b. cond b 1 0) w')
          where
            bit : (b : Bool) (x : ℕ) → 1 + x ≡ cond b 1 0 → x ≡ 0
            bit true x k = omega arith
            bit false x k = omega arith
        mark m l false e h =
            let ne : m ≡ next → ⊥ = λ x. eqb-false next m e (sym x) in
            let w = get_or-set_other marks next m false false ne in
            let u : times m popped ≡ 0 + times m popped = omega arith in
            u ∙ h ∙ sym (ap (λ b. cond b 1 0) w)
