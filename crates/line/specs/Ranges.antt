-- Numbers that 32 signed bits do not hold. Assumes nothing.
use Rattle.std.specs.Prelude.{ℕ, Bool, true, false, List, ℤ, Some, Ok, Err, Option, Result}
use Rattle.std.specs.List.{find}
use Rattle.std.specs.Option.{option_and_then, option_map}
use Rattle.numeral.specs.declared.NumeralError.{NumeralError}
use Rattle.numeral.specs.declared.NumeralError.TheVariants.{NotANumber, OutOfRange}
use Rattle.numeral.specs.Numbers.{numeral_spelt, narrow_of}
use Rattle.line.specs.declared.syntax.Action.{Action}
use Rattle.line.specs.declared.syntax.Action.TheVariants.{Pass, Set, Compute, Get, Put}
use Rattle.line.specs.declared.syntax.Line.{Line}
use Rattle.line.specs.declared.syntax.Operand.{Operand}
use Rattle.line.specs.declared.syntax.Operand.TheVariants.{Var, Num}
use Rattle.line.specs.declared.syntax.Statement.{Statement}
use Rattle.line.specs.declared.syntax.Statement.TheVariants.{Then, If, Halt}
use Rattle.line.specs.Pieces.{Piece}
use Rattle.line.specs.Words.{Text}

abbrev pub past_range : Result ℤ NumeralError → Bool
past_range (Ok z) = false
past_range (Err NotANumber) = false
past_range (Err OutOfRange) = true

-- a token that is a number, but out of range
abbrev pub is_beyond : Text → Bool
is_beyond t = past_range (numeral_spelt t)

-- the column of the first such token
abbrev pub beyond_at : List Piece → Option ℕ
beyond_at ps = option_map (λ p. p.column) (find (λ p. is_beyond p.text) ps)

-- the same, where its numbers are in range
abbrev pub narrowed_operand : Operand ℤ → Option (Operand ℤ)
narrowed_operand (Var v) = Some (Var v)
narrowed_operand (Num z) = option_map Num (narrow_of z)

abbrev pub narrowed_action : Action ℤ → Option (Action ℤ)
narrowed_action Pass = Some Pass
narrowed_action (Set v o) = option_map (λ x. Set v x) (narrowed_operand o)
narrowed_action (Compute v a p b) = option_and_then (λ x. option_map (λ y. Compute v x p y) (narrowed_operand b)) (narrowed_operand a)
narrowed_action (Get v) = Some (Get v)
narrowed_action (Put o) = option_map Put (narrowed_operand o)

abbrev pub narrowed_statement : Statement ℤ → Option (Statement ℤ)
narrowed_statement (Then a next) = option_map (λ x. Then x next) (narrowed_action a)
narrowed_statement (If o first second) = option_map (λ x. If x first second) (narrowed_operand o)
narrowed_statement Halt = Some Halt

abbrev pub narrowed_line : Line ℤ → Option (Line ℤ)
narrowed_line x = option_map (λ s. record { label = x.label; statement = s }) (narrowed_statement x.statement)
