use Rattle.std.proofs.Common.{◌≡◌, map, length, take}
use Rattle.graph.specs.Edges.{turned_edge}
use Rattle.graph.proofs.edge_graph.turned_round.Given as goal

abbrev pub invariant-loop-place : goal.invariant-loop-place
invariant-loop-place l = record {
  turned : take l.place l.turned ≡ map turned_edge (take l.place l.edges);
  long : length l.turned ≡ 384;
}
