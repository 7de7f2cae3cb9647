use Rattle.std.proofs.Common.{◌≡◌, [], ◌∷◌, ◌++◌, None, vec_len, sym, ap, ◌∙◌, arith}
use Rattle.graph.specs.Edges.{heads_from, tails_to}
use Rattle.graph.specs.Shapes.{Shape}
use Rattle.program.specs.Written.{sound, exit_line, edges_in, expressions_in, numbers_in}
use Rattle.program.proofs.Lone.{lone}
use Rattle.program.proofs.sealed.Sealed.new.Goals as goal
use Rattle.program.proofs.sealed.Sealed.new.Goals.{After-lone_node-graph}

one_line : (c : goal.After-lone_node-graph) → c.push_reserved.new.self.items ≡ c.end_halt.result ∷ []
one_line c = c.push_reserved.ensures.items ∙ ap (λ ls. ls ++ (c.end_halt.result ∷ [])) c.in_ok-lines.ensures.items

pub invariant_of-result : goal.invariant_of-result
invariant_of-result c =
    let x = c.end_halt.result in
    let one = one_line c in
    let as_one = lone x c.end_halt.ensures.halt in
    let size : vec_len c.push_reserved.new.self ≡ 1 = omega (arith, c.in_ok-lines.ensures.len) in
    let made = c.lone_node-graph.ensures in
    record {
      few = omega (arith, size);
      line_room = omega (arith, c.in_ok-lines.ensures.capacity);
      expression_room = omega (arith, c.in_ok-expressions.ensures.capacity);
      number_room = omega (arith, c.in_ok-numbers.ensures.capacity);
      faultless = ap sound one ∙ as_one.faultless;
      listed = c.in_ok-expressions.ensures.items ∙ sym (ap expressions_in one ∙ as_one.listed);
      numbered = c.push_reserved-2.ensures.items ∙ ap (λ l. l ++ (None ∷ [])) c.in_ok-numbers.ensures.items ∙ sym (ap numbers_in one ∙ as_one.numbered);
      nodes = ap (λ (s : Shape). s.count) made ∙ sym size;
      enters = ap (λ (s : Shape). s.entry) made;
      leaves = ap (λ (s : Shape). s.exit) made ∙ sym (ap exit_line one ∙ as_one.leaves);
      leads = λ n. ap (λ (s : Shape). s.succs n) made ∙ sym (ap (heads_from n) (ap edges_in one ∙ as_one.edgeless));
      follows = λ n. ap (λ (s : Shape). s.preds n) made ∙ sym (ap (tails_to n) (ap edges_in one ∙ as_one.edgeless));
    }

pub returns : goal.returns
returns c = record { line = c.end_halt.result; reads = c.end_halt.ensures.reads; only = one_line (goal.at.returns c).After-lone_node-graph }
