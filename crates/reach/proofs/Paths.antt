-- Members of lists, edges told by either list, and paths joined, turned round and followed. Assumes nothing.
use Rattle.std.proofs.Common.{◌≡◌, ℕ, ◌<◌, T, eqb, ◌⊎◌, List, [], ◌∷◌, ◌++◌, sym, refl, subst, inl, inr, arith, eqb→eq}
use lib.Dec.{eqb_refl}
use Rattle.std.proofs.lemmas.Bool.{cases_eq}
use Rattle.std.proofs.lemmas.Bool.Decides.{nat_tests}
use Rattle.graph.specs.Paths.{member, Path, Reaches}
use Rattle.graph.specs.Shapes.{Shape, SameEdges, AllBelow, times, turned}
use Rattle.numbering.proofs.Bools.{or_i, or_e}

pub member_first : (n : ℕ) (l : List ℕ) → T (member n (n ∷ l))
member_first n l = or_i (eqb n n) (member n l) (inl (eqb_refl n))

pub member_later : (n k : ℕ) (l : List ℕ) → T (member n l) → T (member n (k ∷ l))
member_later n k l i = or_i (eqb n k) (member n l) (inr i)

pub member_cases : (n k : ℕ) (l : List ℕ) → T (member n (k ∷ l)) → (n ≡ k) ⊎ T (member n l)
member_cases n k l t = elim (or_e (eqb n k) (member n l) t) [ inl e ↦ inl (eqb→eq n k e) | inr i ↦ inr i ]

pub member_times : (n : ℕ) (l : List ℕ) → T (member n l) → 0 < times n l
member_times n [] t = absurd t
member_times n (k ∷ l) t = elim (member_cases n k l t) [
  | inl e ↦ grind (arith, nat_tests)
  | inr i ↦ let h = member_times n l i in omega arith
]

pub times_member : (n : ℕ) (l : List ℕ) → 0 < times n l → T (member n l)
times_member n [] h = absurd (omega arith)
times_member n (k ∷ l) h = elim (cases_eq n k) [
  | inl e ↦ subst (λ (j : ℕ). T (member n (j ∷ l))) e (member_first n l)
  | inr e ↦ member_later n k l (times_member n l (grind (arith, nat_tests)))
]

pub member_below : (c : ℕ) (l : List ℕ) (n : ℕ) → AllBelow c l → T (member n l) → n < c
member_below c [] n a t = absurd t
member_below c (k ∷ l) n a t = elim (member_cases n k l t) [
  | inl e ↦ omega (arith, a.0)
  | inr i ↦ member_below c l n a.1 i
]

pub same_turned : (s : Shape) → SameEdges s → SameEdges (turned s)
same_turned s e m n = sym (e n m)

-- an edge from m to n, told by the one list and by the other
pub succ_pred : (s : Shape) → SameEdges s → (m n : ℕ) → T (member n (s.succs m)) → T (member m (s.preds n))
succ_pred s e m n t = times_member m (s.preds n) (let h = member_times n (s.succs m) t in omega (arith, e m n))

pub pred_succ : (s : Shape) → SameEdges s → (m n : ℕ) → T (member m (s.preds n)) → T (member n (s.succs m))
pred_succ s e m n = succ_pred (turned s) (same_turned s e) n m

pub path_join : (s : Shape) (n : ℕ) (t : List ℕ) (m : ℕ) (u : List ℕ) (k : ℕ) → Path s n t m → Path s m u k → Path s n (t ++ u) k
path_join s n [] m u k p q = subst (λ (j : ℕ). Path s j u k) (sym p) q
path_join s n (j ∷ t) m u k p q = (p.0, path_join s j t m u k p.1 q)

-- one edge more at the end
pub path_end : (s : Shape) (n : ℕ) (t : List ℕ) (m k : ℕ) → Path s n t m → T (member k (s.succs m)) → Path s n (t ++ (k ∷ [])) k
path_end s n t m k p i = path_join s n t m (k ∷ []) k p (i, refl)

pub reaches_end : (s : Shape) (n m k : ℕ) → Reaches s n m → T (member k (s.succs m)) → Reaches s n k
reaches_end s n m k r i = (r.0 ++ (k ∷ []), path_end s n r.0 m k r.1 i)

path_round : (s : Shape) → SameEdges s → (n : ℕ) (t : List ℕ) (m : ℕ) → Path s n t m → Reaches (turned s) m n
path_round s e n [] m p = ([], sym p)
path_round s e n (k ∷ t) m p = reaches_end (turned s) m k n (path_round s e k t m p.1) (succ_pred s e n k p.0)

pub reaches_round : (s : Shape) → SameEdges s → (n m : ℕ) → Reaches s n m → Reaches (turned s) m n
reaches_round s e n m r = path_round s e n r.0 m r.1

pub round_reaches : (s : Shape) → SameEdges s → (n m : ℕ) → Reaches (turned s) m n → Reaches s n m
round_reaches s e n m = reaches_round (turned s) (same_turned s e) m n

module _ (s : Shape) (edges : SameEdges s) (closed : (n : ℕ) → AllBelow s.count (s.preds n)) where
  -- what leads to a node is a node
  pub path_below : (n : ℕ) (t : List ℕ) (m : ℕ) → Path s n t m → m < s.count → n < s.count
  path_below n [] m p i = omega (arith, p)
  path_below n (k ∷ t) m p i = member_below s.count (s.preds k) n (closed k) (succ_pred s edges n k p.0)

  -- what every edge between nodes passes on, every path does
  pub path_keeps : (P : ℕ → Type 0) → ((n k : ℕ) → k < s.count → T (member n (s.preds k)) → P n → P k)
      → (n : ℕ) (t : List ℕ) (m : ℕ) → Path s n t m → m < s.count → P n → P m
  path_keeps P f n [] m p i q = subst P p q
  path_keeps P f n (k ∷ t) m p i q =
      path_keeps P f k t m p.1 i (f n k (path_below k t m p.1 i) (succ_pred s edges n k p.0) q)
