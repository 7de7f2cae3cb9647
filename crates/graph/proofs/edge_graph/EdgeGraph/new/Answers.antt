use Rattle.std.proofs.Common.{◌≡◌, ℕ, ◌<◌, map, length, refl, ap, ◌∙◌, arith}
use Rattle.std.proofs.lemmas.Bool.{iff_false}
use Rattle.graph.specs.Edges.{heads_from, turned_edge}
use Rattle.graph.specs.Rows.{row}
use Rattle.graph.specs.EdgeLists.{within_every, every_within, within_from, within_turned, tails_turned}
use Rattle.graph.specs.Making.{row_below, row_short, short_row, succs_are, preds_are, rows_same}
use Rattle.graph.proofs.Shaped.{same_shape}
use Rattle.graph.proofs.edge_graph.EdgeGraph.new.Goals as goal
use Rattle.graph.proofs.edge_graph.EdgeGraph.new.Goals.{After-new-incoming, then-not-all_narrow-via-then-not-all_narrow, then-not-all_narrow-via-else-not-all_narrow+then-not-all_narrow-2}

incoming : (c : After-new-incoming) (n : ℕ) → n < c.args.count → row c.new-incoming.result n ≡ heads_from n (map turned_edge c.args.edges.now)
incoming c n h = c.new-incoming.ensures n h ∙ ap (heads_from n) c.turned_round-turned.ensures

pub returns-then-not-all_within : goal.returns-then-not-all_within
returns-then-not-all_within c sized few =
    let es = c.args.edges.now in
    iff_false c.all_within.ensures c.if-not-all_within.true (every_within c.args.count es (within_from c.args.count es sized.succs_in sized.preds_in))

pub returns-then-not-all_narrow : goal.returns-then-not-all_narrow
returns-then-not-all_narrow c sized few =
    let es = c.args.edges.now in
    let n = c.args.count in
    elim c.then-not-all_narrow.branch [
      | then-not-all_narrow-via-then-not-all_narrow w ↦
          iff_false c.all_narrow.ensures w.if-not-all_narrow.true (short_row n es c.new-outgoing.result c.new-outgoing.ensures sized.succs_short)
      | then-not-all_narrow-via-else-not-all_narrow+then-not-all_narrow-2 w ↦
          iff_false w.all_narrow-else-not-all_narrow.ensures w.if-not-all_narrow-2.true
          (short_row n (map turned_edge es) c.new-incoming.result (incoming (goal.at.returns-then-not-all_narrow c).After-new-incoming)
          (λ m. let t = ap length (tails_turned es m) in let s = sized.preds_short m in omega arith))
    ]

pub invariant_of-result : goal.invariant_of-result
invariant_of-result c =
    let n = c.args.count in
    let es = c.args.edges.now in
    let o = c.new-outgoing.result in
    let i = c.new-incoming.result in
    let out = c.new-outgoing.ensures in
    let into = incoming (goal.at.invariant_of-result c).After-new-incoming in
    let w = within_every n es (c.all_within.ensures.0 c.if-not-all_within.false) in
    record {
      most = c.if-count-gt-MOST_NODES.false;
      enters = c.if-entry-count.false;
      leaves = c.if-exit-count.false;
      heads = row_below n es o out w;
      tails = row_below n (map turned_edge es) i into (within_turned n es ∙ w);
      few_heads = row_short n es o out (c.all_narrow.ensures.0 c.if-not-all_narrow.false);
      few_tails = row_short n (map turned_edge es) i into (c.all_narrow-else-not-all_narrow.ensures.0 c.if-not-all_narrow-2.false);
      same = rows_same n es o i out into w;
    }

pub returns : goal.returns
returns c =
    let n = c.args.count in
    let es = c.args.edges.now in
    let o = c.new-outgoing.result in
    let i = c.new-incoming.result in
    let out = c.new-outgoing.ensures in
    let into = incoming (goal.at.returns c).After-new-incoming in
    let w = within_every n es (c.all_within.ensures.0 c.if-not-all_within.false) in
    same_shape refl refl refl (succs_are n es o i out into w) (preds_are n es o i out into w)
