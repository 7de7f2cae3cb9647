use Rattle.std.proofs.Common.{sym, ◌∙◌, refl}
use Rattle.line.specs.Spelt.{unread, no_value}
use Rattle.line.proofs.word.keyword_of.Goals as goal

pub returns-in_err-ok : goal.returns-in_err-ok
returns-in_err-ok c =
    let h = no_value _ _ _ c.from_utf8.ensures.cases (sym c.ok.ensures.value ∙ c.in_err-ok.was) in
    unread _ _ _ _ _ h refl (unread _ _ _ _ _ h refl (unread _ _ _ _ _ h refl (unread _ _ _ _ _ h refl (unread _ _ _ _ _ h refl c.from_residual.ensures))))
