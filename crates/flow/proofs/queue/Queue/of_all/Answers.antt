use Rattle.std.proofs.Common.{ℕ, ◌<◌, List, sym, subst, arith, below_more}
use Rattle.graph.specs.Shapes.{times, AllBelow}
use Rattle.flow.proofs.Joins.{joined_keeps, joined_in, joined_below}
use Rattle.flow.proofs.queue.Queue.of_all.Goals as goal

pub loop-n-preserved : goal.loop-n-preserved
loop-n-preserved c =
    let e = sym c.push.ensures.joins in
    let i = c.loop-n.invariant in
    record {
      inside = subst (AllBelow c.args.count) e (joined_below c.args.count c.loop-n.n c.loop-n.queue i.inside (omega arith));
      each = below_more _ _
          (λ n l. subst (λ (ws : List ℕ). 0 < times n ws) e (joined_keeps n c.loop-n.n c.loop-n.queue (i.each n l)))
          (subst (λ (ws : List ℕ). 0 < times c.loop-n.n ws) e (joined_in c.loop-n.n c.loop-n.queue));
      few = c.push.ensures.few;
    }
