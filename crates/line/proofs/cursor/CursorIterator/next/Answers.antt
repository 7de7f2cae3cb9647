use Rattle.std.proofs.Common.{not, length, ap, rules, true-eqb, false-eqb}
use Rattle.line.specs.Pieces.{is_blank}
use Rattle.line.proofs.Cuts.{left, next_none, next_some}
use Rattle.line.proofs.cursor.CursorIterator.next.Goals as goal

pub returns-then-is_empty-clause-steps : goal.returns-then-is_empty-clause-steps
returns-then-is_empty-clause-steps c =
    let start = c.leading-start.ensures.value is_blank (λ b r k. search rules) in
    let end = c.leading.ensures.value (λ b. not (is_blank b)) (λ b r k. search rules) in
    let cut = c.split_at.ensures in
    next_none c.args.self.now.column c.args.self.now.rest.now _ _ _ _ _ start (left _ _ start) end cut.front cut.front_len cut.back (true-eqb _ 0 c.if-is_empty.ensures)

pub returns-clause-steps : goal.returns-clause-steps
returns-clause-steps c =
    let start = c.leading-start.ensures.value is_blank (λ b r k. search rules) in
    let end = c.leading.ensures.value (λ b. not (is_blank b)) (λ b r k. search rules) in
    let cut = c.split_at.ensures in
    next_some c.args.self.now.column c.args.self.now.rest.now _ _ _ _ _ start (left _ _ start) end cut.front cut.front_len cut.back (false-eqb _ 0 c.if-is_empty.ensures)

pub returns-clause-goes : goal.returns-clause-goes
returns-clause-goes c = let fewer = ap length (returns-clause-steps c) in search rules
