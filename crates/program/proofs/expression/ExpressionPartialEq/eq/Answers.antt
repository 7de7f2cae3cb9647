use Rattle.std.proofs.Common.{◌≡◌, Bool, Decides, rules, sym, subst}
use Rattle.program.specs.Sames.{same_expression}
use Rattle.program.specs.SamesLemmas.{expression_decides}
use Rattle.program.proofs.expression.ExpressionPartialEq.eq.Goals as goal

pub returns-then-same_operand-clause-equal : goal.returns-then-same_operand-clause-equal
returns-then-same_operand-clause-equal c =
    let a = c.args.self.now in
    let b = c.args.other.now in
    let same : c.same_operand-then-same_operand.result ≡ same_expression a b = search rules in
    subst (λ (r : Bool). Decides r (a ≡ b)) (sym same) (expression_decides a b)
