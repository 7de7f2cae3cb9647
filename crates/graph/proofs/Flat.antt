-- The heads of the edges from node 0, from node 1 and so on, one list after the other. Assumes nothing.
use Rattle.std.proofs.Common.{◌≡◌, ℕ, zero, suc, ◌+◌, ◌-◌, ◌<◌, ◌≤◌, cond, eqb, ltb, List, [], ◌∷◌, ◌++◌, length, get_or, take, drop, sym, refl, ap, ap₂, ◌∙◌, inl, inr, add-one, arith}
use Rattle.std.proofs.lemmas.List.{append-nil, append_assoc, length-append, length-take-le, take-take, take-append-drop, take_at, drop_at}
use Rattle.std.proofs.Math.Seq.{take-append-add}
use Rattle.std.proofs.lemmas.Slice.{take-put_mid}
use Rattle.std.proofs.lemmas.Bool.{cases_eq, cases_lt}
use Rattle.std.proofs.lemmas.Bool.Decides.{nat_tests}
use borrow.Rule.Slice.PartMut.{put_mid}
use Rattle.graph.specs.declared.edge.Edge.{Edge}
use Rattle.graph.specs.Edges.{heads_from}
use Rattle.graph.specs.EdgeLists.{length_put}

abbrev pub flat : ℕ → List Edge → List ℕ
flat zero es = []
flat (suc n) es = flat n es ++ heads_from n es

flat_more : (n : ℕ) (es : List Edge) → flat (n + 1) es ≡ flat n es ++ heads_from n es
flat_more n es = ap (λ (k : ℕ). flat k es) (add-one n)

pub length_more : (n : ℕ) (es : List Edge) → length (flat (n + 1) es) ≡ length (flat n es) + length (heads_from n es)
length_more n es = ap length (flat_more n es) ∙ length-append (flat n es) (heads_from n es)

-- w numbers written behind the lists of the first n nodes
pub flat_written : (n : ℕ) (es : List Edge) (a k w : ℕ) (xs ys : List ℕ) → take (length (flat n es)) xs ≡ flat n es → a ≡ length (flat n es) → a ≤ length xs
    → take w ys ≡ heads_from n es → w ≡ length (heads_from n es) → w ≤ length ys → take (length (flat (n + 1) es)) (put_mid a k xs ys) ≡ flat (n + 1) es
flat_written n es a k w xs ys t e h u v i =
    let m = length_more n es in
    let s = length-take-le a xs h in
    sym (take-take (length (flat (n + 1) es)) (a + length ys) (put_mid a k xs ys) (omega arith))
    ∙ ap (take (length (flat (n + 1) es))) (take-put_mid a k xs ys (a + length ys) refl h)
    ∙ ap (λ (j : ℕ). take j (take a xs ++ ys)) (omega arith)
    ∙ take-append-add (take a xs) ys w
    ∙ ap₂ (λ (p q : List ℕ). p ++ q) (ap (λ (j : ℕ). take j xs) e ∙ t) u
    ∙ sym (flat_more n es)

-- each edge counts once at most

one_node : (t n : ℕ) → cond {A = ℕ} (ltb t n) 1 0 + cond (eqb t n) 1 0 ≡ cond (ltb t (suc n)) 1 0
one_node t n = grind (arith, nat_tests)

length_edge : (n : ℕ) (e : Edge) (es : List Edge) → length (flat n (e ∷ es)) ≡ cond (ltb e.tail n) 1 0 + length (flat n es)
length_edge zero e es = grind (arith, nat_tests)
length_edge (suc n) e es =
    let a = length-append (flat n (e ∷ es)) (heads_from n (e ∷ es)) in
    let b = length-append (flat n es) (heads_from n es) in
    let p = length_put (eqb e.tail n) e.head (heads_from n es) in
    let h = length_edge n e es in
    let o = one_node e.tail n in
    omega arith

flat_nil : (n : ℕ) → flat n [] ≡ []
flat_nil zero = refl
flat_nil (suc n) = append-nil (flat n []) ∙ flat_nil n

pub flat_short : (n : ℕ) (es : List Edge) → length (flat n es) ≤ length es
flat_short n [] = let e = ap length (flat_nil n) in omega arith
flat_short n (e ∷ es) =
    let m = length_edge n e es in
    let h = flat_short n es in
    grind (arith, nat_tests)

-- each list is found by what stands before it

behind : (c n : ℕ) (es : List Edge) → n ≤ c → (r : List ℕ) × (flat c es ≡ flat n es ++ r)
behind zero n es h = let e : zero ≡ n = omega arith in ([], ap (λ (k : ℕ). flat k es) e ∙ sym (append-nil (flat n es)))
behind (suc c) n es h = elim (cases_eq n (suc c)) [
  | inl e ↦ ([], ap (λ (k : ℕ). flat k es) (sym e) ∙ sym (append-nil (flat n es)))
  | inr f ↦
      let r = behind c n es (omega arith) in
      (r.0 ++ heads_from c es, ap (λ (l : List ℕ). l ++ heads_from c es) r.1 ∙ append_assoc (flat n es) r.0 (heads_from c es))
]

middle : (p q r : List ℕ) (a b : ℕ) → a ≡ length p → b ≡ length p + length q → take (b - a) (drop a (p ++ (q ++ r))) ≡ q
middle p q r a b e f = ap (take (b - a)) (drop_at p (q ++ r) a (sym e)) ∙ take_at q r (b - a) (omega arith)

module _ (c n : ℕ) (es : List Edge) (xs : List ℕ) (k : ℕ) (h : n < c) (t : take k xs ≡ flat c es) where
  parted : (r : List ℕ) × (xs ≡ flat n es ++ (heads_from n es ++ r))
  parted =
      let r = behind c (n + 1) es (omega arith) in
      let s = r.0 ++ drop k xs in (
        s,
        sym (take-append-drop k xs)
            ∙ ap (λ (l : List ℕ). l ++ drop k xs) (t ∙ r.1)
            ∙ append_assoc (flat (n + 1) es) r.0 (drop k xs)
            ∙ ap (λ (l : List ℕ). l ++ s) (flat_more n es)
            ∙ append_assoc (flat n es) (heads_from n es) s,
      )

  pub found : (a b : ℕ) → a ≡ length (flat n es) → b ≡ length (flat (n + 1) es) → take (b - a) (drop a xs) ≡ heads_from n es
  found a b e f = ap (λ (l : List ℕ). take (b - a) (drop a l)) parted.1 ∙ middle (flat n es) (heads_from n es) parted.0 a b e (f ∙ length_more n es)

-- where the lists start: those of the first c nodes one after the other, the others at the end
module _ (c : ℕ) (es : List Edge) (xs : List ℕ) (before : (i : ℕ) → i < c + 1 → get_or xs i 0 ≡ length (flat i es)) (behind : (i : ℕ) → c < i → i ≤ 288 → get_or xs i 0 ≡ length es) where
  pub starts_rise : (n : ℕ) → n < 288 → get_or xs n 0 ≤ get_or xs (n + 1) 0
  starts_rise n h = elim (cases_lt n c) [
    | inl l ↦ let a = before n (omega arith) in let b = before (n + 1) (omega arith) in let m = length_more n es in omega arith
    | inr l ↦ elim (cases_lt c n) [
      | inl k ↦ let a = behind n k (omega arith) in let b = behind (n + 1) (omega arith) (omega arith) in omega arith
      | inr k ↦ let a = before n (omega arith) in let b = behind (n + 1) (omega arith) (omega arith) in let s = flat_short n es in omega arith
    ]
  ]

  pub starts_short : length es ≤ 384 → (n : ℕ) → n ≤ 288 → get_or xs n 0 ≤ 384
  starts_short few n h = elim (cases_lt c n) [
    | inl l ↦ let a = behind n l h in omega arith
    | inr l ↦ let a = before n (omega arith) in let s = flat_short n es in omega arith
  ]
