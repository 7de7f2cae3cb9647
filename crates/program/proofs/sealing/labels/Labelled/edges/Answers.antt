use Rattle.std.proofs.Common.{suc, List, ◌++◌, take, sym, ap, ◌∙◌, lit<}
use Rattle.std.proofs.lemmas.List.{take_all}
use Rattle.graph.specs.declared.edge.Edge.{Edge}
use Rattle.line.specs.declared.label.Label.{Label}
use Rattle.wellformed.specs.Faults.{Dangling}
use Rattle.wellformed.specs.Lines.{fan, edges_from}
use Rattle.program.specs.Asked.{asks, nexts}
use Rattle.program.specs.Refusals.{every_known, places_of}
use Rattle.program.proofs.Wiring.{line_known, edges_step, edges_room}
use Rattle.program.proofs.sealing.labels.Labelled.edges.Goals as goal

pub put_edges-requires : goal.put_edges-requires
put_edges-requires c =
    let ls = c.args.self.now.lines.now in
    let k = c.loop-number.number in
    record {
      room = edges_room ls k c.line-item.result c.loop-number-test.true c.line-item.is c.loop-number.edges.items c.loop-number.invariant c.args.self.now.few;
      known = ap (λ (l : List Label). every_known l (nexts c.line-item.result)) c.args.self.now.named
          ∙ line_known ls k c.line-item.result c.loop-number-test.true c.line-item.is (c.requires Dangling (suc k) (lit< tt));
    }

pub loop-number-preserved : goal.loop-number-preserved
loop-number-preserved c =
    let ls = c.args.self.now.lines.now in
    let k = c.loop-number.number in
    let x = c.line-item.result in
    c.put_edges.ensures
    ∙ ap (λ (es : List Edge). es ++ fan k (places_of c.args.self.now.labels.items (nexts x))) c.loop-number.invariant
    ∙ ap (λ (l : List Label). edges_from asks ls 0 (take k ls) ++ fan k (places_of l (nexts x))) c.args.self.now.named
    ∙ sym (edges_step ls k x c.loop-number-test.true c.line-item.is)

pub returns : goal.returns
returns c =
    let ls = c.args.self.now.lines.now in
    c.loop-number.invariant ∙ ap (edges_from asks ls 0) (take_all c.loop-number.number ls c.loop-number-test.false)
