-- A list of lines as a program. Assumes nothing.
use Rattle.std.specs.Prelude.{ℕ, Bool, true, false, List, map, ℤ, Some, None, Option}
use Rattle.graph.specs.declared.edge.Edge.{Edge}
use Rattle.line.specs.declared.syntax.Line.{Line}
use Rattle.numbering.specs.Numbers.{number}
use Rattle.wellformed.specs.Lines.{edges_of_lines, exit_of, expressions_of}
use Rattle.wellformed.specs.Verdicts.{Refusal, verdict}
use Rattle.program.specs.declared.expression.Expression.{Expression}
use Rattle.program.specs.Asked.{asks, computes}
use Rattle.program.specs.Sames.{same_expression}

abbrev pub Lines : Type 0
Lines = List (Line ℤ)

abbrev pub is_none : Option Refusal → Bool
is_none None = true
is_none (Some r) = false

-- sealing finds no fault
abbrev pub sound : Lines → Bool
sound ls = is_none (verdict asks ls)

-- the line that halts, counted from 0
abbrev pub exit_line : Lines → ℕ
exit_line ls = exit_of asks ls

-- one edge for each successor
abbrev pub edges_in : Lines → List Edge
edges_in ls = edges_of_lines asks ls

-- the different expressions, numbered by first appearance
abbrev pub expressions_in : Lines → List Expression
expressions_in ls = expressions_of asks ls

-- the number of an expression among others
abbrev pub numbered : List Expression → Option Expression → Option ℕ
numbered es None = None
numbered es (Some e) = Some (number same_expression e es)

-- by line, the number of the expression that it computes
abbrev pub numbers_in : Lines → List (Option ℕ)
numbers_in ls = map (λ x. numbered (expressions_in ls) (computes x)) ls
