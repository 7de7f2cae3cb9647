use Rattle.std.proofs.Common.{◌≡◌, length, sym, ap, ◌∙◌, subst, ap₂, arith}
use Rattle.graph.specs.Edges.{edge_shape}
use Rattle.graph.specs.Shapes.{Sized}
use Rattle.wellformed.specs.Lines.{graph_of}
use Rattle.wellformed.proofs.Graphed.{graph_sized}
use Rattle.wellformed.proofs.Lined.{edges_short}
use Rattle.program.specs.Asked.{asks}
use Rattle.program.proofs.Lawfully.{lawful}
use Rattle.program.proofs.sealing.labels.Labelled.graph.Goals as goal

pub edges-edges-requires : goal.edges-edges-requires
edges-edges-requires c = λ g m i. c.requires.clean g m (omega arith)

pub unreachable-requires : goal.unreachable-requires
unreachable-requires c =
    let ls = c.args.self.now.lines.now in
    let listed = c.as_slice.ensures.value ∙ c.edges-edges.ensures in
    let shaped : edge_shape (length ls) 0 c.args.exit c.as_slice.result.now ≡ graph_of asks ls = ap₂ (edge_shape (length ls) 0) c.requires.halts listed in
    let few = edges_short asks lawful ls in
    let size = ap length listed in
    c.in_default.ensures (subst Sized (sym shaped) (graph_sized asks lawful ls c.requires.clean c.args.self.now.few)) (omega (arith, c.args.self.now.few))

pub returns : goal.returns
returns c =
    c.in-Some.ensures ∙ ap₂ (edge_shape (length c.args.self.now.lines.now) 0) c.requires.halts (c.as_slice.ensures.value ∙ c.edges-edges.ensures)
