use Rattle.std.proofs.Common.{rules}
use Rattle.flow.proofs.Meets.{other_nodes}
use Rattle.flow.proofs.queue.Queue.push_all.Goals as goal

pub loop-n-preserved : goal.loop-n-preserved
loop-n-preserved g c = record {
  inside = other_nodes _ _ _ c.in-Some.ensures.steps c.loop-n.invariant.inside;
  joins = search rules;
  few = search rules;
}
