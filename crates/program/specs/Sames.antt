-- When two expressions are the same. Assumes nothing.
use Rattle.std.specs.Prelude.{Bool, false, ◌&&◌, ℤ, ◌==◌}
use Rattle.std.specs.Ordering.{int_eq}
use Rattle.std.specs.Str.{bytes_eq}
use Rattle.line.specs.declared.syntax.Operand.{Operand}
use Rattle.line.specs.declared.syntax.Operand.TheVariants.{Var, Num}
use Rattle.line.specs.Grammar.{spell_operator}
use Rattle.program.specs.declared.expression.Expression.{Expression}

abbrev pub operands_same : Operand ℤ → Operand ℤ → Bool
operands_same (Var v) (Var w) = v.letter == w.letter
operands_same (Var v) (Num b) = false
operands_same (Num a) (Var w) = false
operands_same (Num a) (Num b) = int_eq a b

-- operators are told apart by their spelling; all three parts equal make it the same expression
abbrev pub same_expression : Expression → Expression → Bool
same_expression a b = bytes_eq (spell_operator a.operator) (spell_operator b.operator) && (operands_same a.first b.first && operands_same a.second b.second)
