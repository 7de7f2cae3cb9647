use Rattle.std.proofs.Common.{Some, refl, sym, ap, ◌∙◌}
use Rattle.line.specs.declared.syntax.Action.TheVariants as act
use Rattle.line.specs.States.{testing, putting, tested, acted}
use Rattle.line.proofs.Runs.{worded}
use Rattle.line.proofs.parse.take_statement.Goals as goal

pub returns-in_ok-take_operand-in-Some-If : goal.returns-in_ok-take_operand-in-Some-If
returns-in_ok-take_operand-in-Some-If c =
    λ l. worded _ _ _ c.in_ok-token.token _ _ l (testing l) (λ o. tested l o) c.in_ok-token.ensures (ap Some (sym c.in-Some-If.field-0-is) ∙ sym c.in-Some-If.is ∙ c.keyword_of.ensures) refl (λ x. refl) c.in_ok-take_operand-in-Some-If.ensures

pub returns-in_ok-take_operand-in-Some-Put : goal.returns-in_ok-take_operand-in-Some-Put
returns-in_ok-take_operand-in-Some-Put c =
    λ l. worded _ _ _ c.in_ok-token.token _ _ l (putting l) (λ o. acted l (act.Put o)) c.in_ok-token.ensures (ap Some (sym c.in-Some-Put.field-0-is) ∙ sym c.in-Some-Put.is ∙ c.keyword_of.ensures) refl (λ x. refl) c.in_ok-take_operand-in-Some-Put.ensures
