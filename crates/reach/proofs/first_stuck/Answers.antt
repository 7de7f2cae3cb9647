use Rattle.graph.specs.Paths.{Reaches}
use Rattle.graph.specs.Shapes.{turned}
use Rattle.reach.proofs.Lowest.{lowest_map}
use Rattle.reach.proofs.Paths.{reaches_round, round_reaches}
use Rattle.reach.proofs.first_stuck.Goals as goal

pub returns : goal.returns
returns g c =
    let x = c.args.g.now.of in
    let s = g.G.Graph.shape x in
    let edges = g.met.G.Graph.edges x in
    lowest_map (Reaches (turned s) s.exit) (λ n. Reaches s n s.exit) s.count
    (λ n _. round_reaches s edges n s.exit) (λ n _. reaches_round s edges n s.exit) c.first_unreached.result c.first_unreached.ensures
