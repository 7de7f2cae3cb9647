-- How often facts have fallen, and how often they still can. Assumes nothing.
use Rattle.std.specs.Prelude.{◌≡◌, ℕ, zero, suc, ◌+◌, ◌-◌, ◌*◌, ◌<◌, ◌≤◌, cond, List, [], ◌∷◌, length, ◌==◌, ◌≢◌, refl}
use Rattle.std.proofs.Common.{sym, subst, inl, inr, suc-mul, arith, eq-eqb, ne_eqb}
use Rattle.std.proofs.Math.Path.{ap}
use Rattle.std.proofs.lemmas.Bool.{cases_eq}
use Rattle.facts.specs.Order.{Below, Fell}

-- a kind whose facts have a rank that falls with them, and is at most h, falls at most h times
pub ranked : {F : Type 0} (meet : F → F → F) (rank : F → ℕ) (h : ℕ) → ((a b : F) → Below meet a b → (a ≢ b) → rank a < rank b) → ((a : F) → rank a ≤ h)
    → (a : F) (from : List F) → Fell meet a from → rank a + length from ≤ h
ranked meet rank h less most a [] f = let m = most a in omega arith
ranked meet rank h less most a (b ∷ from) f =
    let l = less a b f.0 f.1 in
    let i = ranked meet rank h less most b from f.2 in
    omega arith

-- the sum of the first n values
pub sum_to : (ℕ → ℕ) → ℕ → ℕ
sum_to r zero = 0
sum_to r (suc n) = r n + sum_to r n

sum_none : (n : ℕ) → sum_to (λ m. 0) n ≡ 0
unfolding sum_to
sum_none zero = refl
sum_none (suc n) = let i = sum_none n in omega arith

sum_most : (r : ℕ → ℕ) (c h : ℕ) → ((n : ℕ) → n < c → r n ≤ h) → sum_to r c ≤ c * h
unfolding sum_to
sum_most r zero h f = omega arith
sum_most r (suc c) h f = let a = f c (omega arith) in let b = sum_most r c h (λ n l. f n (omega arith)) in let m = suc-mul c h in omega arith

sum_same : (r t : ℕ → ℕ) (c n : ℕ) → ((m : ℕ) → (m ≢ n) → t m ≡ r m) → c ≤ n → sum_to t c ≡ sum_to r c
unfolding sum_to
sum_same r t zero n h l = refl
sum_same r t (suc c) n h l = let a = h c (omega arith) in let b = sum_same r t c n h (omega arith) in omega arith

-- one value is one more, and the others stay
sum_raised : (r t : ℕ → ℕ) (c n : ℕ) → n < c → ((m : ℕ) → (m ≢ n) → t m ≡ r m) → t n ≡ suc (r n) → sum_to t c ≡ suc (sum_to r c)
unfolding sum_to
sum_raised r t zero n l h k = absurd (omega arith)
sum_raised r t (suc c) n l h k = elim (cases_eq n c) [
  | inl e ↦ let a = sum_same r t c n h (omega arith) in let b = subst (λ (j : ℕ). t j ≡ suc (r j)) e k in omega arith
  | inr e ↦ let a = h c (λ q. e (sym q)) in let b = sum_raised r t c n (omega arith) h k in omega arith
]

module _ {F : Type 0} (meet : F → F → F) (height count : ℕ) where
  -- the facts that each node's fact fell from, and how many falls are left of height for each node
  pub record Paid (f : ℕ → F) (left : ℕ) : Type 0 where
    pub from : ℕ → List F
    pub fell : (n : ℕ) → n < count → Fell meet (f n) (from n)
    pub sum : sum_to (λ n. length (from n)) count + left ≡ count * height

  pub paid_begin : (f : ℕ → F) (left : ℕ) → left ≡ count * height → Paid f left
  paid_begin f left e = record { from = λ n. []; fell = λ n l. tt; sum = let a = sum_none count in omega arith }

  module _ (high : (a : F) (from : List F) → Fell meet a from → length from ≤ height)
      (f f' : ℕ → F) (n : ℕ) (inside : n < count) (there : (m : ℕ) → (m ≢ n) → f' m ≡ f m)
      (fall : Below meet (f' n) (f n) × (f' n ≢ f n)) {left : ℕ} (paid : Paid f left) where
    -- the fact at n fell from one fact more
    since : ℕ → List F
    since m = cond (m == n) (f n ∷ paid.from n) (paid.from m)

    since_here : since n ≡ f n ∷ paid.from n
    unfolding since
    since_here = ap (λ b. cond b (f n ∷ paid.from n) (paid.from n)) (eq-eqb n n refl)

    since_there : (m : ℕ) → (m ≢ n) → since m ≡ paid.from m
    unfolding since
    since_there m e = ap (λ b. cond b (f n ∷ paid.from n) (paid.from m)) (ne_eqb m n e)

    since_fell : (m : ℕ) → m < count → Fell meet (f' m) (since m)
    since_fell m l = elim (cases_eq m n) [
      | inl e ↦ subst (λ (j : ℕ). Fell meet (f' j) (since j)) (sym e) (subst (Fell meet (f' n)) (sym since_here) (fall.0, fall.1, paid.fell n inside))
      | inr e ↦ subst (λ (x : F). Fell meet x (since m)) (sym (there m e)) (subst (Fell meet (f m)) (sym (since_there m e)) (paid.fell m l))
    ]

    raised : sum_to (λ m. length (since m)) count ≡ suc (sum_to (λ m. length (paid.from m)) count)
    raised = sum_raised (λ m. length (paid.from m)) (λ m. length (since m)) count n inside (λ m e. ap length (since_there m e)) (ap length since_here)

    pub paid_turn : (1 ≤ left) × Paid f' (left - 1)
    paid_turn =
        let most = sum_most (λ m. length (since m)) count height (λ m l. high (f' m) (since m) (since_fell m l)) in
        let up = raised in
        let was = paid.sum in
        let some : 1 ≤ left = omega arith in
        (some, record { from = since; fell = since_fell; sum = omega arith })
