use Rattle.std.proofs.Common.{◌≡◌, true, List, ◌++◌, length, ap, ◌∙◌, le_of_lt, arith}
use Rattle.std.proofs.lemmas.List.{take_all}
use Rattle.arrayvec.specs.ArrayVec.{ArrayVec}
use Rattle.graph.specs.declared.edge.Edge.{Edge}
use Rattle.line.specs.declared.label.Label.{Label}
use Rattle.wellformed.specs.Lines.{fan}
use Rattle.program.specs.Refusals.{every_known, places_of}
use Rattle.program.proofs.Wiring.{is_found, edge_more, fan_long}
use Rattle.program.proofs.sealing.labels.Labelled.put_edges.Goals as goal
use Rattle.program.proofs.sealing.labels.Labelled.put_edges.Goals.{in-Some, in_default}

pub push-requires : goal.push-requires
push-requires c =
    let same = c.labels-label-items.ensures ∙ c.of.ensures in
    let size = ap length same in
    let so_far = fan_long c.args.number c.args.self.now.labels.items c.labels-label-items.result.now c.loop-label.label-index c.loop-label.edges.items c.args.edges.now.items (le_of_lt c.loop-label-test.true) c.loop-label.invariant in
    omega (arith, c.requires.room, c.loop-label-test.true)

pub loop-label-preserved : goal.loop-label-preserved
loop-label-preserved c =
    let ks = c.labels-label-items.result.now in
    let items = c.args.self.now.labels.items in
    let i = c.loop-label.label-index in
    let all : every_known items ks ≡ true = ap (every_known items) (c.labels-label-items.ensures ∙ c.of.ensures) ∙ c.requires.known in
    elim c.match-find.branch [
      | in-Some w ↦
          ap (λ (v : ArrayVec Edge). v.items) w.edges-is ∙ w.push.ensures.items
          ∙ edge_more items ks i c.label-item.result all c.loop-label-test.true c.label-item.is c.args.number w.in-Some.head c.loop-label.edges.items c.args.edges.now.items w.in-Some.ensures.value c.loop-label.invariant
      | in_default w ↦ absurd (is_found items ks i c.label-item.result all c.loop-label-test.true c.label-item.is c.find.result c.find.ensures.value w.in_default.is)
    ]

pub returns : goal.returns
returns c =
    c.loop-label.invariant
    ∙ ap (λ (l : List Label). c.args.edges.now.items ++ fan c.args.number (places_of c.args.self.now.labels.items l))
    (take_all c.loop-label.label-index c.labels-label-items.result.now c.loop-label-test.false ∙ c.labels-label-items.ensures ∙ c.of.ensures)
