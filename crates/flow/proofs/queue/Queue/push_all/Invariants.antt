use Rattle.std.proofs.Common.{◌≡◌, ◌<◌, ◌≤◌, length}
use Rattle.std.specs.List.{All}
use Rattle.graph.specs.Neighbours.{ahead}
use Rattle.flow.specs.Rings.{joined_all}
use Rattle.flow.proofs.queue.Queue.push_all.Given as goal

abbrev pub invariant-loop-n : goal.invariant-loop-n
invariant-loop-n g l =
    let shape = g.G.Graph.shape in
    record {
      inside : All (λ n. n < 288) (ahead shape l.n-iterator);
      joins : joined_all (ahead shape l.n-iterator) l.self ≡ joined_all (ahead shape l.initial.n-iterator) l.initial.self;
      few : length l.initial.self ≤ 288 → length l.self ≤ 288;
    }
