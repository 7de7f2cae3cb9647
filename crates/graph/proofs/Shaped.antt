-- When graphs are the same, and when edges make a graph. Assumes nothing.
use Rattle.std.proofs.Common.{◌≡◌, ℕ, ◌<◌, ◌≤◌, true, List, length, arith}
use Rattle.graph.specs.declared.edge.Edge.{Edge}
use Rattle.graph.specs.Edges.{heads_from, tails_to, within, edge_shape}
use Rattle.graph.specs.Shapes.{Shape, Sized}
use Rattle.graph.specs.EdgeLists.{heads_in, tails_in, heads_none, tails_none}

pub same_shape : {s t : Shape} → s.count ≡ t.count → s.entry ≡ t.entry → s.exit ≡ t.exit → ((n : ℕ) → s.succs n ≡ t.succs n) → ((n : ℕ) → s.preds n ≡ t.preds n) → s ≡ t
same_shape c e x f g = λ i. record { count = c i; entry = e i; exit = x i; succs = λ n. f n i; preds = λ n. g n i }

pub edges_sized : (c e x : ℕ) (es : List Edge) → c ≤ 288 → e < c → x < c → within c es ≡ true → ((n : ℕ) → length (heads_from n es) ≤ 288) → ((n : ℕ) → length (tails_to n es) ≤ 288) → Sized (edge_shape c e x es)
edges_sized c e x es most enters leaves w heads tails =
    record {
      some = omega arith;
      most = most;
      entry_in = enters;
      exit_in = leaves;
      succs_in = λ n. heads_in c es n w;
      preds_in = λ n. tails_in c es n w;
      succs_short = heads;
      preds_short = tails;
      succs_none = λ n. heads_none c es n w;
      preds_none = λ n. tails_none c es n w;
    }
