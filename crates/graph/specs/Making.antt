-- Lists of neighbours that make a graph. Assumes nothing.
use Rattle.std.specs.Prelude.{◌≡◌, ℕ, ◌<◌, ◌≤◌, true, List, [], map, length, nat_lt, All}
use Rattle.std.proofs.Common.{sym, ap, subst, ◌∙◌, inl, inr, arith}
use Rattle.std.proofs.lemmas.Bool.{cases_lt, ltb-true, lt-ltb, le-ltb, cond-true, cond-false, cond_both}
use Rattle.graph.specs.declared.adjacency.Adjacency.{Adjacency}
use Rattle.graph.specs.declared.edge.Edge.{Edge}
use Rattle.graph.specs.Edges.{heads_from, tails_to, turned_edge, within}
use Rattle.graph.specs.Rows.{row, row_values_below}
use Rattle.graph.specs.Shapes.{times, AllBelow}
use Rattle.graph.specs.EdgeLists.{fact_below, heads_in, heads_none, within_turned, tails_turned, same_edges}

pub row_none : (c : ℕ) (a : Adjacency) (n : ℕ) → c ≤ n → row_values_below c a n ≡ []
row_none c a n h = cond-false (nat_lt n c) (row a n) [] (le-ltb n c h)

-- one direction
module _ (c : ℕ) (es : List Edge) (a : Adjacency) (rows : (n : ℕ) → n < c → row a n ≡ heads_from n es) where
  row_is : within c es ≡ true → (n : ℕ) → row_values_below c a n ≡ heads_from n es
  row_is w n = elim (cases_lt n c) [
    | inl h ↦ cond-true (nat_lt n c) (row a n) [] (lt-ltb n c h) ∙ rows n h
    | inr h ↦ row_none c a n h ∙ sym (heads_none c es n w h)
  ]

  pub row_below : within c es ≡ true → (n : ℕ) → All (λ m. m < c) (row_values_below c a n)
  row_below w n = fact_below c (row_values_below c a n) (subst (AllBelow c) (sym (row_is w n)) (heads_in c es n w))

  pub row_short : ((n : ℕ) → n < c → length (row a n) ≤ 288) → (n : ℕ) → length (row_values_below c a n) ≤ 288
  row_short y n = cond_both (nat_lt n c) (row a n) [] (λ l. length l ≤ 288) (λ e. y n (ltb-true n c e)) (λ e. omega arith)

  pub short_row : ((n : ℕ) → length (heads_from n es) ≤ 288) → (n : ℕ) → n < c → length (row a n) ≤ 288
  short_row short n h = let e = ap length (rows n h) in let s = short n in omega arith

-- both directions
module _ (c : ℕ) (es : List Edge) (o i : Adjacency) (outgoing : (n : ℕ) → n < c → row o n ≡ heads_from n es) (incoming : (n : ℕ) → n < c → row i n ≡ heads_from n (map turned_edge es)) (w : within c es ≡ true) where
  pub succs_are : (n : ℕ) → row_values_below c o n ≡ heads_from n es
  succs_are = row_is c es o outgoing w

  pub preds_are : (n : ℕ) → row_values_below c i n ≡ tails_to n es
  preds_are n = row_is c (map turned_edge es) i incoming (within_turned c es ∙ w) n ∙ tails_turned es n

  pub rows_same : (m n : ℕ) → times n (row_values_below c o m) ≡ times m (row_values_below c i n)
  rows_same m n = ap (times n) (succs_are m) ∙ same_edges es m n ∙ sym (ap (times m) (preds_are n))
