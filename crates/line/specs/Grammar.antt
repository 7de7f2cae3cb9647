-- The tokens that spell a line, and how a line is printed. Assumes nothing.
use Rattle.std.specs.Prelude.{◌≡◌, ℕ, ◌<◌, ◌≤◌, true, List, [], ◌∷◌, ◌++◌, length, drop, ℤ, Ok, Err, codes, Result}
use Rattle.std.specs.Fmt.{signed_decimal}
use Rattle.fault.specs.declared.Flaw.{Flaw}
use Rattle.fault.specs.declared.Kind.TheVariants.{ShortBuffer}
use Rattle.numeral.specs.Numbers.{Short, fits}
use Rattle.line.specs.declared.syntax.Action.{Action}
use Rattle.line.specs.declared.syntax.Action.TheVariants.{Pass, Set, Compute, Get, Put}
use Rattle.line.specs.declared.syntax.Line.{Line}
use Rattle.line.specs.declared.syntax.Operand.{Operand}
use Rattle.line.specs.declared.syntax.Operand.TheVariants.{Var, Num}
use Rattle.line.specs.declared.syntax.Operator.{Operator}
use Rattle.line.specs.declared.syntax.Operator.TheVariants.{Add, Sub, Mul, Div, Rem, Less, Equal, And}
use Rattle.line.specs.declared.syntax.Statement.{Statement}
use Rattle.line.specs.declared.syntax.Statement.TheVariants.{Then, If, Halt}
use Rattle.line.specs.Words.{Text, label_text, variable_text}

-- a number is spelt by its decimal digits, after `-` if it is below 0
abbrev pub spell_operand : Operand ℤ → Text
spell_operand (Var v) = variable_text v
spell_operand (Num z) = signed_decimal z

abbrev pub spell_operator : Operator → Text
spell_operator Add = codes "+"
spell_operator Sub = codes "-"
spell_operator Mul = codes "*"
spell_operator Div = codes "/"
spell_operator Rem = codes "%"
spell_operator Less = codes "<"
spell_operator Equal = codes "=="
spell_operator And = codes "&"

abbrev pub spell_action : Action ℤ → List Text
spell_action Pass = codes "pass" ∷ []
spell_action (Set v o) = variable_text v ∷ codes "=" ∷ spell_operand o ∷ []
spell_action (Compute v a p b) = variable_text v ∷ codes "=" ∷ spell_operand a ∷ spell_operator p ∷ spell_operand b ∷ []
spell_action (Get v) = variable_text v ∷ codes "=" ∷ codes "get" ∷ []
spell_action (Put o) = codes "put" ∷ spell_operand o ∷ []

abbrev pub spell_statement : Statement ℤ → List Text
spell_statement (Then a next) = spell_action a ++ codes "->" ∷ label_text next ∷ []
spell_statement (If o first second) = codes "if" ∷ spell_operand o ∷ codes "->" ∷ label_text first ∷ label_text second ∷ []
spell_statement Halt = codes "halt" ∷ []

-- the tokens of a line
abbrev pub spell : Line ℤ → List Text
spell x = label_text x.label ∷ spell_statement x.statement

-- each number of it is one of those in P
abbrev pub EachOperand : (ℤ → Type 0) → Operand ℤ → Type 0
EachOperand P (Var v) = Unit {0}
EachOperand P (Num z) = P z

abbrev pub EachAction : (ℤ → Type 0) → Action ℤ → Type 0
EachAction P Pass = Unit {0}
EachAction P (Set v o) = EachOperand P o
EachAction P (Compute v a p b) = EachOperand P a × EachOperand P b
EachAction P (Get v) = Unit {0}
EachAction P (Put o) = EachOperand P o

abbrev pub EachStatement : (ℤ → Type 0) → Statement ℤ → Type 0
EachStatement P (Then a next) = EachAction P a
EachStatement P (If o first second) = EachOperand P o
EachStatement P Halt = Unit {0}

-- a line whose numbers have at most ten digits
abbrev pub Wide : Line ℤ → Type 0
Wide x = EachStatement Short x.statement

abbrev pub Fits : ℤ → Type 0
Fits z = fits z ≡ true

-- a line whose numbers fit 32 signed bits
abbrev pub Proper : Line ℤ → Type 0
Proper x = EachStatement Fits x.statement

-- each word after a space
abbrev pub spaced : List Text → Text
spaced [] = []
spaced (w ∷ ws) = 32 ∷ (w ++ spaced ws)

-- the tokens parted by single spaces
abbrev pub printed : Line ℤ → Text
printed x = label_text x.label ++ spaced (spell_statement x.statement)

-- the text stands at the buffer's start and the bytes beyond stay, or the buffer is too short and stays
abbrev pub Prints : Text → Text → Result ℕ Flaw → Text → Type 0
Prints text before (Ok n) after = (length text ≤ length before) × (n ≡ length text) × (after ≡ text ++ drop n before)
Prints text before (Err f) after = (length before < length text) × (f ≡ record { kind = ShortBuffer; column = 0 }) × (after ≡ before)
