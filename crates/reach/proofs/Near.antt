-- What can be reached is near: the nodes within so many edges grow no more once there are as many edges as nodes. Assumes nothing.
use Rattle.std.proofs.Common.{◌≡◌, ℕ, zero, suc, ◌+◌, ◌<◌, ◌≤◌, Bool, true, false, cond, T, ◌⊎◌, List, [], ◌∷◌, sym, refl, subst, inl, inr, not-suc-le-zero, arith, eqb→eq}
use lib.Dec.{eqb_refl}
use Rattle.std.proofs.lemmas.Bool.{cases_lt, cases_eq}
use Rattle.graph.specs.Paths.{member, Reaches}
use Rattle.graph.specs.Shapes.{Shape, SameEdges, AllBelow, turned}
use Rattle.numbering.proofs.Bools.{or_i, or_e}
use Rattle.std.specs.List.{list_any}
use Rattle.reach.specs.Near.{near}
use Rattle.reach.proofs.Paths.{member_first, member_later, member_cases, same_turned, pred_succ, reaches_end, reaches_round, round_reaches, path_keeps}

pub some_at : (f : ℕ → Bool) (l : List ℕ) → T (list_any f l) → (m : ℕ) × T (member m l) × T (f m)
some_at f [] t = absurd t
some_at f (k ∷ l) t = elim (or_e (f k) (list_any f l) t) [
  | inl i ↦ (k, member_first k l, i)
  | inr i ↦ let r = some_at f l i in (r.0, member_later r.0 k l r.1, r.2)
]

pub some_of : (f : ℕ → Bool) (l : List ℕ) (m : ℕ) → T (member m l) → T (f m) → T (list_any f l)
some_of f [] m i t = i
some_of f (k ∷ l) m i t = or_i (f k) (list_any f l) (elim (member_cases m k l i) [
  | inl e ↦ inl (subst (λ (j : ℕ). T (f j)) e t)
  | inr j ↦ inr (some_of f l m j t)
])

-- how many numbers below n pass a test
abbrev tally : (ℕ → Bool) → ℕ → ℕ
tally b zero = 0
tally b (suc n) = cond (b n) 1 0 + tally b n

tally_most : (b : ℕ → Bool) (n : ℕ) → tally b n ≤ n
tally_most b zero = omega arith
tally_most b (suc n) = let h = tally_most b n in grind arith

one_grows : (a b : Bool) → (T a → T b) → (cond {A = ℕ} a 1 0 < cond b 1 0) ⊎ ((cond {A = ℕ} a 1 0 ≡ cond b 1 0) × (T b → T a))
one_grows true true f = inr (refl, λ t. t)
one_grows true false f = absurd (f tt)
one_grows false true f = inl (omega arith)
one_grows false false f = inr (refl, λ t. t)

-- whatever passes the first test passes the second: either more pass the second, or the same do
tally_grows : (a b : ℕ → Bool) → ((i : ℕ) → T (a i) → T (b i))
    → (n : ℕ) → (tally a n < tally b n) ⊎ ((tally a n ≤ tally b n) × ((i : ℕ) → i < n → T (b i) → T (a i)))
tally_grows a b f zero = inr (omega arith, λ i l. absurd (not-suc-le-zero l))
tally_grows a b f (suc n) = elim (one_grows (a n) (b n) (f n)) [
  | inl h ↦ inl (elim (tally_grows a b f n) [ inl l ↦ omega arith | inr r ↦ let l = r.0 in omega arith ])
  | inr h ↦ elim (tally_grows a b f n) [
    | inl l ↦ inl (omega (arith, h.0))
    | inr r ↦ inr (
      omega (arith, h.0, r.0),
      λ i l t. elim (cases_eq i n) [
        | inl e ↦ subst (λ (k : ℕ). T (a k)) (sym e) (h.1 (subst (λ (k : ℕ). T (b k)) e t))
        | inr e ↦ r.1 i (omega arith) t
      ],
    )
  ]
]

module _ (s : Shape) where
  pub near_later : (j k n : ℕ) → j ≤ k → T (near s j n) → T (near s k n)
  near_later j zero n l t = subst (λ (i : ℕ). T (near s i n)) (let e : j ≡ 0 = omega arith in e) t
  near_later j (suc k) n l t = elim (cases_lt k j) [
    | inl g ↦ subst (λ (i : ℕ). T (near s i n)) (let e : j ≡ suc k = omega arith in e) t
    | inr g ↦ or_i (near s k n) (list_any (near s k) (s.preds n)) (inl (near_later j k n g t))
  ]

  pub near_entry : (k : ℕ) → T (near s k s.entry)
  near_entry k = near_later 0 k s.entry (omega arith) (eqb_refl s.entry)

  pub near_step : (k m n : ℕ) → T (member m (s.preds n)) → T (near s k m) → T (near s (suc k) n)
  near_step k m n i t = or_i (near s k n) (list_any (near s k) (s.preds n)) (inr (some_of (near s k) (s.preds n) m i t))

  pub near_reaches : SameEdges s → (k n : ℕ) → T (near s k n) → Reaches s s.entry n
  near_reaches e zero n t = ([], sym (eqb→eq n s.entry t))
  near_reaches e (suc k) n t = elim (or_e (near s k n) (list_any (near s k) (s.preds n)) t) [
    | inl a ↦ near_reaches e k n a
    | inr a ↦ let m = some_at (near s k) (s.preds n) a in reaches_end s s.entry m.0 n (near_reaches e k m.0 m.2) (pred_succ s e m.0 n m.1)
  ]

  -- one edge more reaches nothing new
  abbrev Settled : ℕ → Type 0
  Settled k = (n : ℕ) → n < s.count → T (near s (suc k) n) → T (near s k n)

  grows : (k : ℕ) → ((j : ℕ) × (j < k) × Settled j) ⊎ (k ≤ tally (near s k) s.count)
  grows zero = inr (omega arith)
  grows (suc k) = elim (grows k) [
    | inl r ↦ inl (r.0, (let z = r.1 in omega arith), r.2)
    | inr l ↦ elim (tally_grows (near s k) (near s (suc k)) (λ i. near_later k (suc k) i (omega arith)) s.count) [
      | inl g ↦ inr (omega arith)
      | inr g ↦ inl (k, omega arith, g.1)
    ]
  ]

  settled : (j : ℕ) × (j < suc s.count) × Settled j
  settled = elim (grows (suc s.count)) [
    | inl r ↦ r
    | inr l ↦ let a = tally_most (near s (suc s.count)) s.count in absurd (omega arith)
  ]

  pub reaches_near : SameEdges s → ((n : ℕ) → AllBelow s.count (s.preds n)) → (n : ℕ) → n < s.count → Reaches s s.entry n → T (near s s.count n)
  reaches_near e p n i r =
      let j = settled in
      let le = j.1 in
      near_later j.0 s.count n (omega arith)
      (path_keeps s e p (λ m. T (near s j.0 m)) (λ m k l q t. j.2 k l (near_step j.0 m k q t)) s.entry r.0 n r.1 i (near_entry j.0))

-- in the graph turned round: what is near its entry reaches the exit
pub near_back : (s : Shape) → SameEdges s → (k n : ℕ) → T (near (turned s) k n) → Reaches s n s.exit
near_back s e k n t = round_reaches s e n s.exit (near_reaches (turned s) (same_turned s e) k n t)

pub back_near : (s : Shape) → SameEdges s → ((n : ℕ) → AllBelow s.count (s.succs n)) → (n : ℕ) → n < s.count → Reaches s n s.exit → T (near (turned s) s.count n)
back_near s e p n i r = reaches_near (turned s) (same_turned s e) p n i (reaches_round s e n s.exit r)
