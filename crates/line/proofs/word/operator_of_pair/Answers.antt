use Rattle.std.proofs.Common.{sym, ◌∙◌, refl}
use Rattle.line.specs.Spelt.{unread, no_value}
use Rattle.line.proofs.word.operator_of_pair.Goals as goal

pub returns-in_err-ok : goal.returns-in_err-ok
returns-in_err-ok c =
    unread _ _ _ _ _ (no_value _ _ _ c.from_utf8.ensures.cases (sym c.ok.ensures.value ∙ c.in_err-ok.was)) refl c.from_residual.ensures
