-- What a graph made from its edges is. Assumes nothing.
use Rattle.std.specs.Prelude.{◌≡◌, ℕ, ◌≤◌, List, length, Some, None, Option}
use Rattle.graph.specs.declared.edge.Edge.{Edge}
use Rattle.graph.specs.declared.edge_graph.EdgeGraph.{EdgeGraph}
use Rattle.graph.specs.Edges.{edge_shape}
use Rattle.graph.specs.Rows.{row_values_below}
use Rattle.graph.specs.Shapes.{Shape, Sized}

-- the lists of the nodes; what is no node has none
abbrev pub shape_in : EdgeGraph → Shape
shape_in g = record {
  count = g.count;
  entry = g.entry;
  exit = g.exit;
  succs = λ n. row_values_below g.count g.outgoing n;
  preds = λ n. row_values_below g.count g.incoming n;
}

-- the graph of the edges; or none, where that would be no graph or there are more than 384 edges
abbrev pub Makes : ℕ → ℕ → ℕ → List Edge → Option EdgeGraph → Type 0
Makes c e x es (Some g) = shape_in g ≡ edge_shape c e x es
Makes c e x es None = Sized (edge_shape c e x es) → length es ≤ 384 → ⊥
