use Rattle.std.proofs.Common.{sym, ◌∙◌}
use Rattle.numeral.proofs.Numerals.{spelt_none}
use Rattle.numeral.proofs.is_number.Goals as goal

pub returns-clause-none : goal.returns-clause-none
returns-clause-none c = λ e. spelt_none c.args.text.now (sym c.has_shape.ensures ∙ e)
