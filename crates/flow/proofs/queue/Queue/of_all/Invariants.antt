use Rattle.std.proofs.Common.{ℕ, ◌<◌, ◌≤◌, length}
use Rattle.graph.specs.Shapes.{times, AllBelow}
use Rattle.flow.proofs.queue.Queue.of_all.Given as goal

abbrev pub invariant-loop-n : goal.invariant-loop-n
invariant-loop-n l = record {
  inside : AllBelow l.count l.queue;
  each : (n : ℕ) → n < l.n → 0 < times n l.queue;
  few : length l.queue ≤ 288;
}
