use Rattle.std.proofs.Common.{◌≡◌, None, Some, Err, sym, ap, ◌∙◌, subst, rules}
use Rattle.std.proofs.lemmas.Bool.{false≢true}
use Rattle.std.specs.Result.{result_ok}
use Rattle.line.specs.declared.parse.Stop.TheVariants.{At}
use Rattle.line.specs.declared.word.Keyword.TheVariants.{Get}
use Rattle.line.specs.Cursors.{ahead}
use Rattle.line.specs.States.{Assigned}
use Rattle.line.specs.Words.{keyword_of, operand_spelt}
use Rattle.line.proofs.Runs.{assigned, assigned_none}
use Rattle.line.proofs.parse.take_assignment.Goals as goal

pub returns : goal.returns
returns c =
    let other : keyword_of c.in_ok-token.token.text.now ≡ Some Get → ⊥ = λ q. false≢true (rw (c.keyword_of.ensures ∙ q) at c.if-eq.ensures) in
    let first : Some c.in_ok-first.first ≡ operand_spelt c.in_ok-token.token.text.now = sym (c.ok_or.ensures.ok_part ∙ ap result_ok c.in_ok-first.was) ∙ c.operand_of.ensures in
    assigned _ _ _ c.in_ok-token.token _ _ c.in_ok-take_exactly.ensures c.in_ok-token.ensures other _ _ _ first c.take_second.ensures

pub returns-in_err-first : goal.returns-in_err-first
returns-in_err-first c =
    let other : keyword_of c.in_ok-token.token.text.now ≡ Some Get → ⊥ = λ q. false≢true (rw (c.keyword_of.ensures ∙ q) at c.if-eq.ensures) in
    let none : None ≡ operand_spelt c.in_ok-token.token.text.now = sym (c.ok_or.ensures.ok_part ∙ ap result_ok c.in_err-first.was) ∙ c.operand_of.ensures in
    let at : Err (At c.in_ok-token.token.column) ≡ c.from_residual-in_err-first.result = search rules in
    subst (λ r. Assigned c.args.v (ahead c.args.cursor.now) r (ahead c.take_token.new.cursor)) at
    (assigned_none _ _ _ c.in_ok-token.token _ _ c.in_ok-take_exactly.ensures c.in_ok-token.ensures other none)
