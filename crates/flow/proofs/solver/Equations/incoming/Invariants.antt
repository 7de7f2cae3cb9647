use Rattle.std.proofs.Common.{◌≡◌, ◌<◌, get_or}
use Rattle.std.specs.List.{All}
use Rattle.graph.specs.Neighbours.{ahead}
use Rattle.flow.specs.Equations.{inflow}
use Rattle.flow.proofs.solver.Equations.incoming.Given as goal

abbrev pub invariant-loop-m : goal.invariant-loop-m
invariant-loop-m g l =
    let top = g.P.Fact.Fact.top in
    let meet = g.P.Fact.Fact.meet in
    let flow = inflow top meet (g.P.Problem.step l.self.problem.now) (λ m. get_or l.facts m top) in
    let shape = g.G.Graph.shape in
    record {
      inside : All (λ m. m < 288) (ahead shape l.m-iterator);
      sums : meet l.all (flow (ahead shape l.m-iterator)) ≡ flow ((shape l.self.graph.now).preds l.n);
    }
