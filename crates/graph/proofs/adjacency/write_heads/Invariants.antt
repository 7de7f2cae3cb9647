use Rattle.std.proofs.Common.{◌≡◌, ◌+◌, ◌++◌, length, take, drop}
use Rattle.graph.specs.Edges.{heads_from}
use Rattle.graph.proofs.adjacency.write_heads.Given as goal

abbrev pub invariant-loop-edge : goal.invariant-loop-edge
invariant-loop-edge l = record {
  front : take l.written l.ends ++ heads_from l.n (drop l.edge-index l.edges) ≡ heads_from l.n l.edges;
  count : l.written + length (heads_from l.n (drop l.edge-index l.edges)) ≡ length (heads_from l.n l.edges);
}
