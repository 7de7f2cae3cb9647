use Rattle.std.proofs.Common.{ℕ, T, None, is_none, get_or, subst}
use Rattle.facts.specs.Depths.{Depth}
use Rattle.graph.specs.Paths.{Reaches}
use Rattle.reach.specs.Lowest.{Lowest}
use Rattle.reach.proofs.Depths.{depth_tells}
use Rattle.reach.proofs.Lowest.{lowest_map}
use Rattle.reach.proofs.first_unreached.Goals as goal

pub returns : goal.returns
returns g c =
    let x = c.args.g.now in
    let s = g.G.Graph.shape x in
    let f : ℕ → Depth = λ n. get_or c.solve-depths.result n None in
    let r = c.first_missing.result in
    let told = depth_tells s (g.met.G.Graph.edges x) (g.met.G.Graph.sized x).preds_in f c.solve-depths.ensures in
    lowest_map (λ n. ¬ T (is_none (f n))) (Reaches s s.entry) s.count (λ n i. (told n i).0) (λ n i. (told n i).1) r
    (subst (λ (k : ℕ). Lowest (λ n. ¬ T (is_none (f n))) k r) c.count.ensures c.first_missing.ensures)
