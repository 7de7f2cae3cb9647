-- The edges of a list, seen from their tails and from their heads. Assumes nothing.
use Rattle.std.specs.Prelude.{◌≡◌, ℕ, zero, suc, ◌+◌, ◌<◌, ◌≤◌, Bool, true, false, cond, ◌&&◌, List, [], ◌∷◌, map, length, ◌==◌, nat_lt, All, refl}
use Rattle.std.proofs.Common.{sym, ap, ap₂, subst, ◌∙◌, arith}
use Rattle.std.proofs.Math.Bool.{and_comm}
use Rattle.std.proofs.lemmas.List.{length-map}
use Rattle.std.proofs.lemmas.Bool.{and_parts, and_from, ltb-true, lt-ltb, eq-eqb, ne_eqb}
use Rattle.std.proofs.lemmas.Bool.Decides.{nat_tests}
use Rattle.graph.specs.declared.edge.Edge.{Edge}
use Rattle.graph.specs.Edges.{put, heads_from, tails_to, turned_edge, within}
use Rattle.graph.specs.Shapes.{times, AllBelow}

-- every number of a list is below c

pub below_fact : (c : ℕ) (l : List ℕ) → All (λ n. n < c) l → AllBelow c l
below_fact c [] h = tt
below_fact c (n ∷ l) h = (h 0 n (omega arith), below_fact c l (λ k d i. h (suc k) d (omega arith)))

pub fact_below : (c : ℕ) (l : List ℕ) → AllBelow c l → All (λ n. n < c) l
fact_below c [] h k d i = absurd (omega arith)
fact_below c (n ∷ l) h zero d i = h.0
fact_below c (n ∷ l) h (suc k) d i = fact_below c l h.1 k d (omega arith)

below_put : (b : Bool) (c x : ℕ) (l : List ℕ) → x < c → AllBelow c l → AllBelow c (put b x l)
below_put true c x l h k = (h, k)
below_put false c x l h k = k

below_rest : (b : Bool) (c x : ℕ) (l : List ℕ) → AllBelow c (put b x l) → AllBelow c l
below_rest true c x l h = h.1
below_rest false c x l h = h

below_first : (n c x : ℕ) (l : List ℕ) → AllBelow c (put (n == n) x l) → nat_lt x c ≡ true
below_first n c x l h = lt-ltb x c (subst (λ (b : Bool). AllBelow c (put b x l)) (eq-eqb n n refl) h).0

-- edges turned round

pub tails_turned : (es : List Edge) (n : ℕ) → heads_from n (map turned_edge es) ≡ tails_to n es
tails_turned [] n = refl
tails_turned (e ∷ es) n = ap (put (e.head == n) e.tail) (tails_turned es n)

and_swap : (a b c : Bool) → (a && (b && c)) ≡ (b && (a && c))
and_swap true b c = refl
and_swap false true c = refl
and_swap false false c = refl

pub within_turned : (c : ℕ) (es : List Edge) → within c (map turned_edge es) ≡ within c es
within_turned c [] = refl
within_turned c (e ∷ es) =
    and_swap (nat_lt e.head c) (nat_lt e.tail c) (within c (map turned_edge es))
    ∙ ap (λ (b : Bool). nat_lt e.tail c && (nat_lt e.head c && b)) (within_turned c es)

-- every edge joins nodes below c

within_parts : (c : ℕ) (e : Edge) (es : List Edge) → within c (e ∷ es) ≡ true → (nat_lt e.tail c ≡ true) × (nat_lt e.head c ≡ true) × (within c es ≡ true)
within_parts c e es h =
    let p = and_parts (nat_lt e.tail c) (nat_lt e.head c && within c es) h in
    let q = and_parts (nat_lt e.head c) (within c es) p.1 in
    (p.0, q.0, q.1)

abbrev Inside : ℕ → Edge → Type 0
Inside c e = (e.tail < c) × (e.head < c)

pub within_every : (c : ℕ) (es : List Edge) → All (Inside c) es → within c es ≡ true
within_every c [] h = refl
within_every c (e ∷ es) h =
    let p = h 0 e (omega arith) in
    and_from (nat_lt e.tail c) (nat_lt e.head c && within c es) (lt-ltb e.tail c p.0)
    (and_from (nat_lt e.head c) (within c es) (lt-ltb e.head c p.1) (within_every c es (λ k d i. h (suc k) d (omega arith))))

pub every_within : (c : ℕ) (es : List Edge) → within c es ≡ true → All (Inside c) es
every_within c [] h k d i = absurd (omega arith)
every_within c (e ∷ es) h zero d i = let p = within_parts c e es h in (ltb-true e.tail c p.0, ltb-true e.head c p.1)
every_within c (e ∷ es) h (suc k) d i = every_within c es (within_parts c e es h).2 k d (omega arith)

pub heads_in : (c : ℕ) (es : List Edge) (m : ℕ) → within c es ≡ true → AllBelow c (heads_from m es)
heads_in c [] m h = tt
heads_in c (e ∷ es) m h =
    let p = within_parts c e es h in
    below_put (e.tail == m) c e.head (heads_from m es) (ltb-true e.head c p.1) (heads_in c es m p.2)

pub tails_in : (c : ℕ) (es : List Edge) (n : ℕ) → within c es ≡ true → AllBelow c (tails_to n es)
tails_in c es n h = subst (AllBelow c) (tails_turned es n) (heads_in c (map turned_edge es) n (within_turned c es ∙ h))

pub heads_none : (c : ℕ) (es : List Edge) (m : ℕ) → within c es ≡ true → c ≤ m → heads_from m es ≡ []
heads_none c [] m h i = refl
heads_none c (e ∷ es) m h i =
    let p = within_parts c e es h in
    let t = ltb-true e.tail c p.0 in
    ap (λ (b : Bool). put b e.head (heads_from m es)) (ne_eqb e.tail m (λ q. omega arith)) ∙ heads_none c es m p.2 i

pub tails_none : (c : ℕ) (es : List Edge) (n : ℕ) → within c es ≡ true → c ≤ n → tails_to n es ≡ []
tails_none c es n h i = sym (tails_turned es n) ∙ heads_none c (map turned_edge es) n (within_turned c es ∙ h) i

pub within_from : (c : ℕ) (es : List Edge) → ((m : ℕ) → AllBelow c (heads_from m es)) → ((n : ℕ) → AllBelow c (tails_to n es)) → within c es ≡ true
within_from c [] f g = refl
within_from c (e ∷ es) f g =
    let t = below_first e.head c e.tail (tails_to e.head es) (g e.head) in
    let h = below_first e.tail c e.head (heads_from e.tail es) (f e.tail) in
    let w = within_from c es (λ m. below_rest (e.tail == m) c e.head (heads_from m es) (f m)) (λ n. below_rest (e.head == n) c e.tail (tails_to n es) (g n)) in
    and_from (nat_lt e.tail c) (nat_lt e.head c && within c es) t (and_from (nat_lt e.head c) (within c es) h w)

-- how many edges

pub length_put : {A : Type 0} (b : Bool) (x : A) (l : List A) → length (put b x l) ≡ cond b 1 0 + length l
length_put true x l = omega arith
length_put false x l = omega arith

pub heads_short : (es : List Edge) (m : ℕ) → length (heads_from m es) ≤ length es
heads_short [] m = omega arith
heads_short (e ∷ es) m =
    let p = length_put (e.tail == m) e.head (heads_from m es) in
    let h = heads_short es m in
    grind (arith, nat_tests)

pub tails_short : (es : List Edge) (n : ℕ) → length (tails_to n es) ≤ length es
tails_short es n =
    let t = ap length (tails_turned es n) in
    let m = length-map es turned_edge in
    let h = heads_short (map turned_edge es) n in
    omega arith

-- the counting law

times_put : (b : Bool) (n x : ℕ) (l : List ℕ) → times n (put b x l) ≡ cond (b && x == n) 1 0 + times n l
times_put true n x l = refl
times_put false n x l = omega arith

pub same_edges : (es : List Edge) (m n : ℕ) → times n (heads_from m es) ≡ times m (tails_to n es)
same_edges [] m n = refl
same_edges (e ∷ es) m n =
    times_put (e.tail == m) n e.head (heads_from m es)
    ∙ ap₂ (λ (b : Bool) (k : ℕ). cond b 1 0 + k) (and_comm (e.tail == m) (e.head == n)) (same_edges es m n)
    ∙ sym (times_put (e.head == n) m e.tail (tails_to n es))
