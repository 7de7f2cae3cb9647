use Rattle.std.proofs.Common.{◌≡◌, ℕ, length, get_or, ap, ◌∙◌, arith, rules}
use Rattle.std.proofs.lemmas.List.{get_or_read}
use Rattle.flow.proofs.Meets.{Laws, laws_of, all_nodes, first_node, other_nodes, inflow_next}
use Rattle.flow.proofs.solver.Equations.incoming.Given as given
use Rattle.flow.proofs.solver.Equations.incoming.Goals as goal

laws : (g : given.Over) → Laws g.P.Fact.Fact.top g.P.Fact.Fact.meet
laws g = let m = g.met.P.Fact.Fact in laws_of m.associative m.commutative m.idempotent m.neutral

pub loop-m-init : goal.loop-m-init
loop-m-init g c =
    let z = g.met.G.Graph.sized c.args.self.now.graph.now in
    record {
      inside = all_nodes _ _ _ z.most (z.preds_in c.args.n) (search rules);
      sums = search (rules, (laws g).neutral);
    }

pub offset_bounds-facts-m : goal.offset_bounds-facts-m
offset_bounds-facts-m g c = omega (arith, first_node _ _ _ c.in-Some.ensures.steps c.loop-m.invariant.inside, ap length c.as_slice-facts.ensures, c.told-facts)

pub bounds-facts-m : goal.bounds-facts-m
bounds-facts-m g c = omega (arith, first_node _ _ _ c.in-Some.ensures.steps c.loop-m.invariant.inside, ap length c.as_slice-facts.ensures, c.told-facts)

pub loop-m-preserved : goal.loop-m-preserved
loop-m-preserved g c =
    let top = g.P.Fact.Fact.top in
    let meet = g.P.Fact.Fact.meet in
    let step = g.P.Problem.step c.args.self.now.problem.now in
    let facts = c.as_slice-facts.result.now in
    let m = c.in-Some.m in
    let f : ℕ → g.row.P-Fact.Denot = λ k. get_or facts k top in
    let yielded = c.in-Some.ensures.steps in
    let r : c.index-facts-m.result ≡ f m
    = get_or_read facts m c.index-facts-m.result (omega (arith, first_node _ _ _ yielded c.loop-m.invariant.inside, ap length c.as_slice-facts.ensures, c.told-facts)) c.index-facts-m.is top in
    let v : c.meet-all.result ≡ meet c.loop-m.all (step m (f m))
    = c.meet-all.ensures.value ∙ ap (meet c.loop-m.all) (c.step.ensures ∙ ap (step m) r) in
    record {
      inside = other_nodes _ _ _ yielded c.loop-m.invariant.inside;
      sums = inflow_next (laws g) step f m _ _ c.loop-m.all _ yielded v ∙ c.loop-m.invariant.sums;
    }
