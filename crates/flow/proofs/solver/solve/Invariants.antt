use Rattle.std.proofs.Common.{◌≡◌, ◌+◌, ◌*◌, ◌≤◌, length, get_or}
use Rattle.flow.specs.Falls.{Paid}
use Rattle.flow.proofs.Visiting.{Going}
use Rattle.flow.proofs.solver.solve.Given as goal

abbrev pub invariant-loop-n : goal.invariant-loop-n
invariant-loop-n g l =
    let top = g.P.Fact.Fact.top in
    let meet = g.P.Fact.Fact.meet in
    let s = g.G.Graph.shape l.graph in
    record {
      long : length l.facts ≡ 288;
      few : length l.queue ≤ 288;
      going : Going s top meet (g.P.Problem.given l.problem) (g.P.Problem.step l.problem) (λ n. get_or l.facts n top) l.queue;
      paid : Paid meet g.P.Problem.HEIGHT s.count (λ n. get_or l.facts n top) l.falls_left;
    }

-- falls that are left, and then nodes that wait
abbrev pub decreases-loop-n : goal.decreases-loop-n
decreases-loop-n g l = l.falls_left * 289 + length l.queue
