-- What one token is, taken alone. Assumes nothing.
use Rattle.std.specs.Prelude.{◌≡◌, ℕ, Bool, true, false, cond, List, [], ◌∷◌, length, take, ℤ, Some, None, codes, Option, ◌==◌, refl}
use Rattle.std.specs.Char.{is_ascii_lowercase}
use Rattle.std.specs.Str.{bytes_eq}
use Rattle.numeral.specs.Numbers.{wide_of}
use Rattle.line.specs.declared.label.Label.{Label}
use Rattle.line.specs.declared.variable.Variable.{Variable}
use Rattle.line.specs.declared.syntax.Operator.{Operator}
use Rattle.line.specs.declared.syntax.Operator.TheVariants.{Add, Sub, Mul, Div, Rem, Less, Equal, And}
use Rattle.line.specs.declared.syntax.Operand.{Operand}
use Rattle.line.specs.declared.syntax.Operand.TheVariants.{Var, Num}
use Rattle.line.specs.declared.word.Keyword.{Keyword}
use Rattle.line.specs.declared.word.Keyword.TheVariants.{Pass, Halt, If, Get, Put}
use Rattle.line.specs.Names.{is_word, padded, kept}

abbrev pub Text : Type 0
Text = List ℕ

-- the token is spelt just so
abbrev pub exactly : Text → Text → Option (Unit {0})
exactly w t = cond (bytes_eq t w) (Some tt) None

-- the keyword that the token is
abbrev pub keyword_of : Text → Option Keyword
keyword_of t =
    cond (bytes_eq t (codes "pass")) (Some Pass)
    (cond (bytes_eq t (codes "halt")) (Some Halt)
    (cond (bytes_eq t (codes "if")) (Some If)
    (cond (bytes_eq t (codes "get")) (Some Get)
    (cond (bytes_eq t (codes "put")) (Some Put) None))))

-- the operator that one character spells: + - * / % < &
abbrev pub sign_of : ℕ → Option Operator
sign_of c =
    cond (c == 43) (Some Add)
    (cond (c == 45) (Some Sub)
    (cond (c == 42) (Some Mul)
    (cond (c == 47) (Some Div)
    (cond (c == 37) (Some Rem)
    (cond (c == 60) (Some Less)
    (cond (c == 38) (Some And) None))))))

-- the operator of two characters
abbrev pub double_of : Text → Option Operator
double_of t = cond (bytes_eq t (codes "==")) (Some Equal) None

abbrev pub operator_spelt : Text → Option Operator
operator_spelt [] = None
operator_spelt (c ∷ []) = sign_of c
operator_spelt (c ∷ d ∷ t) = double_of (c ∷ d ∷ t)

-- the letters of a label
abbrev pub label_text : Label → Text
label_text l = take l.size l.letters

-- the same letters
abbrev pub same_label : Label → Label → Bool
same_label a b = bytes_eq (label_text a) (label_text b)

abbrev pub label_by : (t : Text) (b : Bool) → is_word t ≡ b → Option Label
label_by t true e = Some (record { letters = padded t; size = length t; ok = kept t e })
label_by t false e = None

-- the label that a token of 1 to 8 letters spells
abbrev pub label_of : Text → Option Label
label_of t = label_by t (is_word t) refl

abbrev pub variable_text : Variable → Text
variable_text v = v.letter ∷ []

abbrev pub variable_by : (c : ℕ) (b : Bool) → is_ascii_lowercase c ≡ b → Option Variable
variable_by c true e = Some (record { letter = c; ok = e })
variable_by c false e = None

-- the variable that a token of one letter spells
abbrev pub variable_of : Text → Option Variable
variable_of [] = None
variable_of (c ∷ []) = variable_by c (is_ascii_lowercase c) refl
variable_of (c ∷ d ∷ t) = None

abbrev pub or_number : Option Variable → Option ℤ → Option (Operand ℤ)
or_number (Some v) z = Some (Var v)
or_number None (Some z) = Some (Num z)
or_number None None = None

-- an operand is a variable or a number of at most ten digits
abbrev pub operand_spelt : Text → Option (Operand ℤ)
operand_spelt t = or_number (variable_of t) (wide_of t)
