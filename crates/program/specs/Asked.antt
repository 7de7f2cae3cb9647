-- What sealing asks of a line. Assumes nothing.
use Rattle.std.specs.Prelude.{Bool, true, false, List, [], ◌∷◌, ℤ, Some, None, Option}
use Rattle.line.specs.declared.label.Label.{Label}
use Rattle.line.specs.declared.syntax.Action.{Action}
use Rattle.line.specs.declared.syntax.Action.TheVariants.{Pass, Set, Compute, Get, Put}
use Rattle.line.specs.declared.syntax.Line.{Line}
use Rattle.line.specs.declared.syntax.Statement.{Statement}
use Rattle.line.specs.declared.syntax.Statement.TheVariants.{Then, If, Halt}
use Rattle.line.specs.Words.{same_label}
use Rattle.wellformed.specs.Lines.{Questions}
use Rattle.program.specs.declared.expression.Expression.{Expression}
use Rattle.program.specs.Sames.{same_expression}

-- the labels of the successors
abbrev pub nexts_of : Statement ℤ → List Label
nexts_of (Then a n) = n ∷ []
nexts_of (If o a b) = a ∷ b ∷ []
nexts_of Halt = []

abbrev pub nexts : Line ℤ → List Label
nexts x = nexts_of x.statement

abbrev pub halts_at : Statement ℤ → Bool
halts_at (Then a n) = false
halts_at (If o a b) = false
halts_at Halt = true

-- what an action computes
abbrev pub works_out : Action ℤ → Option Expression
works_out Pass = None
works_out (Set v o) = None
works_out (Compute v a p b) = Some (record { operator = p; first = a; second = b })
works_out (Get v) = None
works_out (Put o) = None

abbrev pub computes_at : Statement ℤ → Option Expression
computes_at (Then a n) = works_out a
computes_at (If o a b) = None
computes_at Halt = None

abbrev pub computes : Line ℤ → Option Expression
computes x = computes_at x.statement

abbrev pub asks : Questions (Line ℤ) Label Expression
asks = record {
  label = λ x. x.label;
  nexts = nexts;
  halts = λ x. halts_at x.statement;
  computes = computes;
  same_label = same_label;
  same_expression = same_expression;
}
