-- Lines in which no label is wanting and one line halts are a graph. Assumes nothing.
use Rattle.std.proofs.Common.{◌≡◌, ℕ, suc, ◌<◌, ◌≤◌, true, List, length, inl, inr, arith, lit<}
use Rattle.graph.specs.Edges.{within}
use Rattle.graph.specs.Shapes.{AllBelow, SameEdges, Sized}
use Rattle.graph.specs.EdgeLists.{heads_in, tails_in, heads_short, tails_short, same_edges}
use Rattle.graph.proofs.Shaped.{edges_sized}
use Rattle.numbering.proofs.Bools.{tell}
use Rattle.wellformed.specs.Faults.{Dangling, Halts, Clean}
use Rattle.wellformed.specs.Lines.{Questions, Lawful, halting, exit_of, edges_of_lines, graph_of}
use Rattle.wellformed.proofs.Lined.{inside, exit_in, edges_short}

module _ {X L E : Type 0} (q : Questions X L E) (laws : Lawful q) (d : List X) where
  pub edges_inside : Clean q d 10 → within (length d) (edges_of_lines q d) ≡ true
  edges_inside h = inside q laws d (λ k. h Dangling (suc k) (lit< tt))

  pub graph_inside : Clean q d 10 → (n : ℕ) → AllBelow (length d) ((graph_of q d).succs n) × AllBelow (length d) ((graph_of q d).preds n)
  graph_inside h n = (heads_in (length d) (edges_of_lines q d) n (edges_inside h), tails_in (length d) (edges_of_lines q d) n (edges_inside h))

  pub graph_edges : SameEdges (graph_of q d)
  graph_edges m n = same_edges (edges_of_lines q d) m n

  pub exit_inside : Clean q d 11 → exit_of q d < length d
  exit_inside h = exit_in q d (elim (tell (halting q d)) [ inl t ↦ t | inr t ↦ absurd (h Halts 0 (lit< tt) t) ])

  pub graph_sized : Clean q d 11 → length d ≤ 96 → Sized (graph_of q d)
  graph_sized h few =
      let x = exit_inside h in
      let s = edges_short q laws d in
      edges_sized (length d) 0 (exit_of q d) (edges_of_lines q d) (omega arith) (omega arith) x (edges_inside (λ g m i. h g m (omega arith)))
      (λ n. let a = heads_short (edges_of_lines q d) n in omega arith) (λ n. let a = tails_short (edges_of_lines q d) n in omega arith)
