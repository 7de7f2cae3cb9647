-- Lines: their labels, their edges, their halt and their expressions. Assumes nothing.
use Rattle.std.proofs.Common.{◌≡◌, ℕ, zero, suc, ◌+◌, ◌<◌, ◌≤◌, Bool, true, false, not, ◌&&◌, ◌||◌, T, eqb, ltb, List, [], ◌∷◌, ◌++◌, map, length, get_or, take, Some, None, Option, sym, refl, ap, ◌∙◌, ap₂, inl, inr, append_assoc, append-nil, arith, length-append}
use Rattle.std.proofs.lemmas.List.{length-map}
use Rattle.std.proofs.lemmas.Bool.{and_from, eq-eqb, ne_eqb, lt-ltb}
use Rattle.graph.specs.declared.edge.Edge.{Edge}
use Rattle.graph.specs.Edges.{put, heads_from, within}
use Rattle.graph.specs.Shapes.{AllBelow}
use Rattle.numbering.specs.Numbers.{unless, append_unless, known, gather}
use Rattle.numbering.proofs.Appearance.{number_in}
use Rattle.numbering.proofs.Bools.{tell, or_i, not_i}
use Rattle.wellformed.specs.Lines.{Questions, Lawful, at, onto, fan, labelled, place, dangles, targets, nexts_at, edges_from, edges_of_lines, halting, exit_of, computed, expressions_of}

-- a test on line k

pub at_in : {X : Type 0} (p : X → Bool) (d : List X) (k : ℕ) → T (at p d k) → k < length d
at_in p [] k t = absurd t
at_in p (x ∷ d) zero t = omega arith
at_in p (x ∷ d) (suc k) t = let i = at_in p d k t in omega arith

-- the line that it tests
pub at_line : {X : Type 0} (p : X → Bool) (d : List X) (k : ℕ) → T (at p d k) → (x : X) × T (p x) × ((r : X → Bool) → T (r x) → T (at r d k))
at_line p [] k t = absurd t
at_line p (x ∷ d) zero t = (x, t, λ r u. u)
at_line p (x ∷ d) (suc k) t = at_line p d k t

pub at_read : {X : Type 0} (p : X → Bool) (d : List X) (k : ℕ) (x : X) → k < length d → x ≡ get_or d k x → at p d k ≡ p x
at_read p [] k x i e = absurd (omega arith)
at_read p (y ∷ d) zero x i e = ap p (sym e)
at_read p (y ∷ d) (suc k) x i e = at_read p d k x (omega arith) e

-- edges

heads_append : (m : ℕ) (a b : List Edge) → heads_from m (a ++ b) ≡ heads_from m a ++ heads_from m b
heads_append m [] b = refl
heads_append m (e ∷ a) b = by (eqb e.tail m) (heads_append m a b)
  where
    by : (x : Bool) → heads_from m (a ++ b) ≡ heads_from m a ++ heads_from m b → put x e.head (heads_from m (a ++ b)) ≡ put x e.head (heads_from m a) ++ heads_from m b
    by true h = ap (λ (r : List ℕ). e.head ∷ r) h
    by false h = h

heads_fan : (i : ℕ) (hs : List ℕ) → heads_from i (fan i hs) ≡ hs
heads_fan i [] = refl
heads_fan i (h ∷ hs) = ap (λ (b : Bool). put b h (heads_from i (fan i hs))) (eq-eqb i i refl) ∙ ap (λ (r : List ℕ). h ∷ r) (heads_fan i hs)

heads_other : (m i : ℕ) (hs : List ℕ) → (i ≡ m → ⊥) → heads_from m (fan i hs) ≡ []
heads_other m i [] f = refl
heads_other m i (h ∷ hs) f = ap (λ (b : Bool). put b h (heads_from m (fan i hs))) (ne_eqb i m f) ∙ heads_other m i hs f

within_append : (c : ℕ) (a b : List Edge) → within c a ≡ true → within c b ≡ true → within c (a ++ b) ≡ true
within_append c [] b u w = w
within_append c (e ∷ a) b u w = by (ltb e.tail c) (ltb e.head c) u (within_append c a b)
  where
    by : (x y : Bool) → (x && (y && within c a)) ≡ true → (within c a ≡ true → within c b ≡ true → within c (a ++ b) ≡ true) → (x && (y && within c (a ++ b))) ≡ true
    by true true u f = f u w
    by true false u f = u
    by false y u f = u

within_fan : (c i : ℕ) (hs : List ℕ) → i < c → AllBelow c hs → within c (fan i hs) ≡ true
within_fan c i [] l a = refl
within_fan c i (h ∷ hs) l a = and_from (ltb i c) (ltb h c && within c (fan i hs)) (lt-ltb i c l) (and_from (ltb h c) (within c (fan i hs)) (lt-ltb h c a.0) (within_fan c i hs l a.1))

pub length_fan : (i : ℕ) (hs : List ℕ) → length (fan i hs) ≡ length hs
length_fan i [] = refl
length_fan i (h ∷ hs) = ap suc (length_fan i hs)

-- one line more has at most one expression more
length_unless : {A : Type 0} (x : Bool) (e : A) (l : List A) → length (append_unless x e l) ≤ suc (length l)
length_unless true e l = omega arith
length_unless false e l = let a = length-append l (e ∷ []) in omega arith

module _ {X L E : Type 0} (q : Questions X L E) where
  pub nexts_past : (d : List X) (k : ℕ) → length d ≤ k → nexts_at q d k ≡ []
  nexts_past [] k i = refl
  nexts_past (x ∷ d) zero i = absurd (omega arith)
  nexts_past (x ∷ d) (suc k) i = nexts_past d k (omega arith)

  heads_before : (d xs : List X) (i m : ℕ) → m < i → heads_from m (edges_from q d i xs) ≡ []
  heads_before d [] i m l = refl
  heads_before d (x ∷ xs) i m l =
      heads_append m (fan i (targets q d (q.nexts x))) (edges_from q d (suc i) xs)
      ∙ ap₂ ◌++◌ (heads_other m i (targets q d (q.nexts x)) (λ e. omega arith)) (heads_before d xs (suc i) m (omega arith))

  heads_by_tail : (d xs : List X) (i k m : ℕ) → m ≡ i + k → heads_from m (edges_from q d i xs) ≡ targets q d (nexts_at q xs k)
  heads_by_tail d [] i k m e = refl
  heads_by_tail d (x ∷ xs) i zero m e =
      let s : m ≡ i = omega arith in
      ap (λ (j : ℕ). heads_from j (edges_from q d i (x ∷ xs))) s
      ∙ heads_append i (fan i (targets q d (q.nexts x))) (edges_from q d (suc i) xs)
      ∙ ap₂ ◌++◌ (heads_fan i (targets q d (q.nexts x))) (heads_before d xs (suc i) i (omega arith))
      ∙ append-nil (targets q d (q.nexts x))
  heads_by_tail d (x ∷ xs) i (suc k) m e =
      heads_append m (fan i (targets q d (q.nexts x))) (edges_from q d (suc i) xs)
      ∙ ap₂ ◌++◌ (heads_other m i (targets q d (q.nexts x)) (λ z. omega arith)) refl
      ∙ heads_by_tail d xs (suc i) k m (omega arith)

  -- the successors of a line are the lines with its labels
  pub succs_are : (d : List X) (k : ℕ) → heads_from k (edges_of_lines q d) ≡ targets q d (nexts_at q d k)
  succs_are d k = heads_by_tail d d 0 k k (omega arith)

  edges_within : (c : ℕ) (d xs : List X) (i : ℕ) → i + length xs ≤ c → ((k : ℕ) → AllBelow c (targets q d (nexts_at q xs k))) → within c (edges_from q d i xs) ≡ true
  edges_within c d [] i l f = refl
  edges_within c d (x ∷ xs) i l f =
      within_append c (fan i (targets q d (q.nexts x))) (edges_from q d (suc i) xs) (within_fan c i (targets q d (q.nexts x)) (omega arith) (f 0))
      (edges_within c d xs (suc i) (omega arith) (λ k. f (suc k)))

  -- the edges of one line more
  pub edges_push : (d xs : List X) (i : ℕ) (x : X) → edges_from q d i (xs ++ (x ∷ [])) ≡ edges_from q d i xs ++ fan (i + length xs) (targets q d (q.nexts x))
  edges_push d [] i x = append-nil (fan i (targets q d (q.nexts x))) ∙ ap (λ (j : ℕ). fan j (targets q d (q.nexts x))) (let e : i ≡ i + 0 = omega arith in e)
  edges_push d (y ∷ xs) i x =
      ap (λ (es : List Edge). fan i (targets q d (q.nexts y)) ++ es) (edges_push d xs (suc i) x ∙ ap (λ (j : ℕ). edges_from q d (suc i) xs ++ fan j (targets q d (q.nexts x))) (let e : suc i + length xs ≡ i + suc (length xs) = omega arith in e))
      ∙ sym (append_assoc (fan i (targets q d (q.nexts y))) (edges_from q d (suc i) xs) (fan (i + suc (length xs)) (targets q d (q.nexts x))))

  pub dangles_at : (d xs : List X) (k : ℕ) → T (dangles q d (nexts_at q xs k)) → T (at (λ x. dangles q d (q.nexts x)) xs k)
  dangles_at d [] k t = t
  dangles_at d (x ∷ xs) zero t = t
  dangles_at d (x ∷ xs) (suc k) t = dangles_at d xs k t

  pub length_targets : (d : List X) (ls : List L) → length (targets q d ls) ≡ length ls
  length_targets d ls = length-map ls (λ a. place q a d)

  module _ (laws : Lawful q) where
    pub place_in : (a : L) (d : List X) → T (labelled q a d) → place q a d < length d
    place_in a d t = let i = number_in laws.labels a (map q.label d) t in let e = length-map d q.label in omega arith

    targets_in : (d : List X) (ls : List L) → (T (dangles q d ls) → ⊥) → AllBelow (length d) (targets q d ls)
    targets_in d [] f = tt
    targets_in d (a ∷ ls) f = (
      place_in a d (elim (tell (labelled q a d)) [ inl t ↦ t | inr t ↦ absurd (f (or_i (not (labelled q a d)) (dangles q d ls) (inl (not_i (labelled q a d) t)))) ]),
      targets_in d ls (λ t. f (or_i (not (labelled q a d)) (dangles q d ls) (inr t))),
    )

    -- where every successor label stands on a line, every edge joins lines
    pub inside : (d : List X) → ((k : ℕ) → T (at (λ x. dangles q d (q.nexts x)) d k) → ⊥) → within (length d) (edges_of_lines q d) ≡ true
    inside d f = edges_within (length d) d d 0 (omega arith) (λ k. targets_in d (nexts_at q d k) (λ t. f k (dangles_at d d k t)))

    pub edges_few : (d xs : List X) (i : ℕ) → length (edges_from q d i xs) ≤ length xs + length xs
    edges_few d [] i = omega arith
    edges_few d (x ∷ xs) i =
        let a = length-append (fan i (targets q d (q.nexts x))) (edges_from q d (suc i) xs) in
        let b = length_fan i (targets q d (q.nexts x)) in
        let c = length_targets d (q.nexts x) in
        let e = laws.two x in
        let f = edges_few d xs (suc i) in
        omega arith

    -- at most two edges a line
    pub edges_short : (d : List X) → length (edges_of_lines q d) ≤ length d + length d
    edges_short d = edges_few d d 0

  -- the exit

  pub exit_in : (d : List X) → T (halting q d) → exit_of q d < length d
  exit_in [] t = absurd t
  exit_in (x ∷ d) t = by (q.halts x) t (exit_in d)
    where
      by : (b : Bool) → T (b || halting q d) → (T (halting q d) → exit_of q d < length d) → unless b (exit_of q d) < suc (length d)
      by true t f = omega arith
      by false t f = let i = f t in omega arith

  -- expressions

  pub computed_push : (d : List X) (x : X) → computed q (d ++ (x ∷ [])) ≡ computed q d ++ onto (q.computes x) []
  computed_push [] x = refl
  computed_push (y ∷ d) x = by (q.computes y) (computed_push d x)
    where
      by : (o : Option E) → computed q (d ++ (x ∷ [])) ≡ computed q d ++ onto (q.computes x) [] → onto o (computed q (d ++ (x ∷ []))) ≡ onto o (computed q d) ++ onto (q.computes x) []
      by None h = h
      by (Some e) h = ap (λ (l : List E). e ∷ l) h

  more_from : (d : List X) (k : ℕ) (l : List E) → length (gather q.same_expression l (computed q (take (suc k) d))) ≤ suc (length (gather q.same_expression l (computed q (take k d))))
  more_from [] zero l = omega arith
  more_from [] (suc k) l = omega arith
  more_from (x ∷ d) zero l = by (q.computes x)
    where
      by : (o : Option E) → length (gather q.same_expression l (onto o [])) ≤ suc (length l)
      by None = omega arith
      by (Some e) = length_unless (known q.same_expression e l) e l
  more_from (x ∷ d) (suc k) l = by (q.computes x) (more_from d k)
    where
      by : (o : Option E) → ((m : List E) → length (gather q.same_expression m (computed q (take (suc k) d))) ≤ suc (length (gather q.same_expression m (computed q (take k d)))))
          → length (gather q.same_expression l (onto o (computed q (take (suc k) d)))) ≤ suc (length (gather q.same_expression l (onto o (computed q (take k d)))))
      by None h = h l
      by (Some e) h = h (append_unless (known q.same_expression e l) e l)

  pub one_more : (d : List X) (k : ℕ) → length (expressions_of q (take (suc k) d)) ≤ suc (length (expressions_of q (take k d)))
  one_more d k = more_from d k []
