use Rattle.std.proofs.Common.{ℕ, ◌-◌, ◌*◌, ◌<◌, ◌≤◌, length, get_or, set, replicate, sym, ap, ◌∙◌, subst, ap₂, arith, length-set}
use Rattle.std.proofs.lemmas.List.{length-replicate}
use Rattle.graph.specs.Shapes.{AllBelow, Sized, SameEdges, times}
use Rattle.flow.specs.Rings.{joined_all}
use Rattle.flow.specs.Falls.{Paid, paid_begin}
use Rattle.flow.proofs.Meets.{Laws, laws_of, all_nodes}
use Rattle.flow.proofs.Visiting.{start_table, Visit, turn_table, turn_falls_table, turn_less}
use Rattle.flow.proofs.solver.solve.Given as given
use Rattle.flow.proofs.solver.solve.Goals as goal

laws : (g : given.Over) → Laws g.P.Fact.Fact.top g.P.Fact.Fact.meet
laws g = let m = g.met.P.Fact.Fact in laws_of m.associative m.commutative m.idempotent m.neutral

pub loop-n-init : goal.loop-n-init
loop-n-init g c =
    let x = c.args.graph.now in
    let s = g.G.Graph.shape x in
    let ws = c.of_all-queue.result in
    let inside : AllBelow s.count ws = subst (λ (k : ℕ). AllBelow k ws) c.count-count.ensures c.of_all-queue.ensures.inside in
    let each : (n : ℕ) → n < s.count → 0 < times n ws = λ n l. c.of_all-queue.ensures.each n (omega (arith, c.count-count.ensures)) in
    record {
      long = length-set (replicate 288 c.top-facts.result) c.entry-first.result c.at_entry.result ∙ length-replicate 288 c.top-facts.result;
      few = c.of_all-queue.ensures.few;
      going = start_table (laws g) (g.met.G.Graph.sized x) (g.met.G.Graph.edges x) (g.met.P.Problem.monotone c.args.problem.now)
          c.top-facts.result c.at_entry.result c.entry-first.result ws c.top-facts.ensures c.at_entry.ensures c.entry-first.ensures inside each;
      paid = paid_begin g.P.Fact.Fact.meet g.P.Problem.HEIGHT s.count _ _ (ap₂ ◌*◌ c.count-count.ensures c.HEIGHT.ensures);
    }

-- a visit at which the fact of a node fell
module _ (g : given.Over) (c : goal.After-push_all g) where
  abbrev here : Visit (g.G.Graph.shape c.args.graph.now) g.P.Fact.Fact.top g.P.Fact.Fact.meet (g.P.Problem.given c.args.problem.now) (g.P.Problem.step c.args.problem.now)
  here = record {
    facts = c.loop-n.facts;
    node = c.in-Some.n;
    new = c.in-Some-revised.new;
    waited = c.loop-n.queue;
    wait = c.pop.new.self;
    long = c.loop-n.invariant.long;
    going = c.loop-n.invariant.going;
    popped = c.in-Some.ensures;
    other = λ e. c.if-n-first.true (e ∙ sym c.entry-first.ensures);
    comes = c.in-Some-revised.ensures.0;
  }

  abbrev sized : Sized (g.G.Graph.shape c.args.graph.now)
  sized = g.met.G.Graph.sized c.args.graph.now

  abbrev edges : SameEdges (g.G.Graph.shape c.args.graph.now)
  edges = g.met.G.Graph.edges c.args.graph.now

  fallen : (1 ≤ c.loop-n.falls_left) × Paid g.P.Fact.Fact.meet g.P.Problem.HEIGHT (g.G.Graph.shape c.args.graph.now).count
      (λ m. get_or (set c.loop-n.facts c.in-Some.n c.in-Some-revised.new) m g.P.Fact.Fact.top) (c.loop-n.falls_left - 1)
  fallen = turn_falls_table (laws g) sized edges (g.met.P.Problem.monotone c.args.problem.now) here g.met.P.Problem.falls c.in-Some-revised.ensures.1 c.loop-n.invariant.paid

pub overflow_sub-falls_left : goal.overflow_sub-falls_left
overflow_sub-falls_left g c = (fallen g c).0

pub push_all-requires : goal.push_all-requires
push_all-requires g c = let z = g.met.G.Graph.sized c.args.graph.now in all_nodes _ _ _ z.most (z.succs_in _) c.each_successor.ensures

few : (g : given.Over) (c : goal.After-push_all g) → length c.push_all.new.self ≤ 288
few g c = c.push_all.ensures.few (omega (arith, ap length c.in-Some.ensures, c.loop-n.invariant.few))

pub loop-n-smaller-in-Some : goal.loop-n-smaller-in-Some
loop-n-smaller-in-Some g c = turn_less _ _ _ _ _ c.in-Some.ensures (fallen g c).0 (few g c)

pub loop-n-preserved-in-Some : goal.loop-n-preserved-in-Some
loop-n-preserved-in-Some g c = record {
  long = length-set c.loop-n.facts c.in-Some.n c.in-Some-revised.new ∙ c.loop-n.invariant.long;
  few = few g c;
  going = turn_table (laws g) (sized g c) (edges g c) (g.met.P.Problem.monotone c.args.problem.now) (here g c) c.push_all.new.self
      (c.push_all.ensures.joins ∙ ap (λ ms. joined_all ms c.pop.new.self) c.each_successor.ensures);
  paid = (fallen g c).1;
}
