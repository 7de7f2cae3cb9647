-- A line's numbers fit 32 bits if and only if none of its tokens is a number out of range. Assumes nothing.
use Rattle.std.proofs.Common.{◌≡◌, ℕ, ◌^◌, ◌≤◌, true, false, cond, leb, List, [], ◌∷◌, ◌++◌, length, get_or, ℤ, pos, negsuc, Some, None, codes, sym, refl, ap, ◌∙◌, ⊎_elim, arith}
use Rattle.std.specs.Char.{is_ascii_lowercase}
use Rattle.std.specs.Fmt.{signed_decimal}
use Rattle.std.proofs.lemmas.Bool.{cases_Bool, and_parts, leb-true, ltb-true, false≢true}
use Rattle.std.specs.Option.{option_and_then, option_map}
use Rattle.numeral.specs.Numbers.{Short, fits, narrow_of, held, shaped, int_of, narrowed}
use Rattle.numeral.proofs.Numerals.{spelling, wide_back}
use Rattle.line.specs.declared.label.Label.{Label}
use Rattle.line.specs.declared.syntax.Action.{Action}
use Rattle.line.specs.declared.syntax.Action.TheVariants.{Pass, Set, Compute, Get, Put}
use Rattle.line.specs.declared.syntax.Line.{Line}
use Rattle.line.specs.declared.syntax.Operand.{Operand}
use Rattle.line.specs.declared.syntax.Operand.TheVariants.{Var, Num}
use Rattle.line.specs.declared.syntax.Operator.{Operator}
use Rattle.line.specs.declared.syntax.Operator.TheVariants.{Add, Sub, Mul, Div, Rem, Less, Equal, And}
use Rattle.line.specs.declared.syntax.Statement.{Statement}
use Rattle.line.specs.declared.syntax.Statement.TheVariants.{Then, If, Halt}
use Rattle.line.specs.declared.variable.Variable.{Variable}
use Rattle.line.specs.Grammar.{spell, spell_action, spell_statement, spell_operand, spell_operator, Wide, Proper, Fits, EachOperand, EachAction, EachStatement}
use Rattle.line.specs.Names.{only_letters}
use Rattle.line.specs.Pieces.{Piece}
use Rattle.line.specs.Ranges.{past_range, is_beyond, beyond_at, narrowed_operand, narrowed_action, narrowed_statement, narrowed_line}
use Rattle.line.specs.Readings.{texts}
use Rattle.line.specs.Words.{Text, label_text, variable_text}
use Rattle.line.specs.Tokens.{name_of, low_first}
use Rattle.line.proofs.Walks.{none_some}

-- none of the tokens is a number out of range
abbrev pub Within : List Text → Type 0
Within [] = Unit {0}
Within (t ∷ ts) = (is_beyond t ≡ false) × Within ts

pub within_none : (ps : List Piece) → Within (texts ps) → beyond_at ps ≡ None
within_none [] w = refl
within_none (p ∷ ps) w = rw w.0 (within_none ps w.1)

pub none_within : (ps : List Piece) → beyond_at ps ≡ None → Within (texts ps)
none_within [] e = tt
none_within (p ∷ ps) e =
    ⊎_elim (λ b. absurd (none_some p.column (sym (rw b at e))))
    (λ b. (b, none_within ps (rw b at e)))
    (cases_Bool (is_beyond p.text))

-- a text that begins with no digit and no minus sign is no number
unshaped : (t : Text) → 58 ≤ get_or t 0 0 → shaped t ≡ false
unshaped t h = ⊎_elim (λ e. absurd (omega (arith, low_first t (spelling t e)))) (λ e. e) (cases_Bool (shaped t))

unbeyond : (t : Text) → 58 ≤ get_or t 0 0 → is_beyond t ≡ false
unbeyond t h = ap (λ b. past_range (narrowed (cond b (Some (int_of t)) None))) (unshaped t h)

lower : (b : ℕ) → is_ascii_lowercase b ≡ true → 97 ≤ b
lower b e = leb-true 97 b (and_parts (leb 97 b) (leb b 122) e).0

first_letter : (t : Text) → 1 ≤ length t → only_letters t ≡ true → 58 ≤ get_or t 0 0
first_letter [] h e = absurd (omega arith)
first_letter (b ∷ bs) h e = omega (arith, lower b (and_parts (is_ascii_lowercase b) (only_letters bs) e).0)

label_within : (l : Label) → is_beyond (label_text l) ≡ false
label_within l = unbeyond (label_text l) (first_letter (label_text l) (name_of l).some (name_of l).letters_are)

variable_within : (v : Variable) → is_beyond (variable_text v) ≡ false
variable_within v = unbeyond (variable_text v) (omega (arith, lower v.letter v.ok))

-- a spelt number is out of range where it does not fit
pub number_beyond : (z : ℤ) → Short z → is_beyond (signed_decimal z) ≡ past_range (held (narrow_of z))
number_beyond z h = ap (λ o. past_range (narrowed o)) (wide_back z h)

pub fits_short : (z : ℤ) → Fits z → Short z
fits_short (pos n) e = omega (arith, ltb-true n (2 ^ 31) e)
fits_short (negsuc n) e = omega (arith, ltb-true n (2 ^ 31) e)

number_in : (z : ℤ) → Short z → is_beyond (signed_decimal z) ≡ false → Fits z
number_in z h e =
    ⊎_elim (λ f. f) (λ f. absurd (false≢true (sym e ∙ number_beyond z h ∙ ap (λ b. past_range (held (cond b (Some z) None))) f))) (cases_Bool (fits z))

number_within : (z : ℤ) → Fits z → is_beyond (signed_decimal z) ≡ false
number_within z e = number_beyond z (fits_short z e) ∙ ap (λ b. past_range (held (cond b (Some z) None))) e

-- a line with numbers in range has tokens in range
operand_within : (o : Operand ℤ) → EachOperand Fits o → is_beyond (spell_operand o) ≡ false
operand_within (Var v) p = variable_within v
operand_within (Num z) p = number_within z p

operator_within : (p : Operator) → is_beyond (spell_operator p) ≡ false
operator_within Add = refl
operator_within Sub = refl
operator_within Mul = refl
operator_within Div = refl
operator_within Rem = refl
operator_within Less = refl
operator_within Equal = refl
operator_within And = refl

action_within : (a : Action ℤ) (ws : List Text) → EachAction Fits a → Within ws → Within (spell_action a ++ ws)
action_within Pass ws p q = (refl, q)
action_within (Set v o) ws p q = (variable_within v, (refl, (operand_within o p, q)))
action_within (Compute v a c b) ws p q = (variable_within v, (refl, (operand_within a p.0, (operator_within c, (operand_within b p.1, q)))))
action_within (Get v) ws p q = (variable_within v, (refl, (refl, q)))
action_within (Put o) ws p q = (refl, (operand_within o p, q))

statement_within : (s : Statement ℤ) → EachStatement Fits s → Within (spell_statement s)
statement_within (Then a n) p = action_within a (codes "->" ∷ label_text n ∷ []) p (refl, (label_within n, tt))
statement_within (If o a b) p = (refl, (operand_within o p, (refl, (label_within a, (label_within b, tt)))))
statement_within Halt p = (refl, tt)

pub proper_within : (x : Line ℤ) → Proper x → Within (spell x)
proper_within x p = (label_within x.label, statement_within x.statement p)

-- and back
operand_in : (o : Operand ℤ) → EachOperand Short o → is_beyond (spell_operand o) ≡ false → EachOperand Fits o
operand_in (Var v) p e = tt
operand_in (Num z) p e = number_in z p e

action_in : (a : Action ℤ) (ws : List Text) → EachAction Short a → Within (spell_action a ++ ws) → EachAction Fits a
action_in Pass ws p w = tt
action_in (Set v o) ws p w = operand_in o p w.1.1.0
action_in (Compute v a c b) ws p w = (operand_in a p.0 w.1.1.0, operand_in b p.1 w.1.1.1.1.0)
action_in (Get v) ws p w = tt
action_in (Put o) ws p w = operand_in o p w.1.0

statement_in : (s : Statement ℤ) → EachStatement Short s → Within (spell_statement s) → EachStatement Fits s
statement_in (Then a n) p w = action_in a (codes "->" ∷ label_text n ∷ []) p w
statement_in (If o a b) p w = operand_in o p w.1.0
statement_in Halt p w = tt

pub within_proper : (x : Line ℤ) → Wide x → Within (spell x) → Proper x
within_proper x p w = statement_in x.statement p w.1

-- numbers that fit have at most ten digits
operand_wide : (o : Operand ℤ) → EachOperand Fits o → EachOperand Short o
operand_wide (Var v) p = tt
operand_wide (Num z) p = fits_short z p

action_wide : (a : Action ℤ) → EachAction Fits a → EachAction Short a
action_wide Pass p = tt
action_wide (Set v o) p = operand_wide o p
action_wide (Compute v a c b) p = (operand_wide a p.0, operand_wide b p.1)
action_wide (Get v) p = tt
action_wide (Put o) p = operand_wide o p

statement_wide : (s : Statement ℤ) → EachStatement Fits s → EachStatement Short s
statement_wide (Then a n) p = action_wide a p
statement_wide (If o a b) p = operand_wide o p
statement_wide Halt p = tt

pub proper_wide : (x : Line ℤ) → Proper x → Wide x
proper_wide x p = statement_wide x.statement p

-- a line with numbers in range is narrowed to itself
operand_kept : (o : Operand ℤ) → EachOperand Fits o → narrowed_operand o ≡ Some o
operand_kept (Var v) p = refl
operand_kept (Num z) p = ap (λ b. option_map Num (cond b (Some z) None)) p

action_kept : (a : Action ℤ) → EachAction Fits a → narrowed_action a ≡ Some a
action_kept Pass p = refl
action_kept (Set v o) p = ap (option_map (λ x. Set v x)) (operand_kept o p)
action_kept (Compute v a c b) p =
    ap (option_and_then (λ x. option_map (λ y. Compute v x c y) (narrowed_operand b))) (operand_kept a p.0) ∙ ap (option_map (λ y. Compute v a c y)) (operand_kept b p.1)
action_kept (Get v) p = refl
action_kept (Put o) p = ap (option_map Put) (operand_kept o p)

statement_kept : (s : Statement ℤ) → EachStatement Fits s → narrowed_statement s ≡ Some s
statement_kept (Then a n) p = ap (option_map (λ x. Then x n)) (action_kept a p)
statement_kept (If o a b) p = ap (option_map (λ x. If x a b)) (operand_kept o p)
statement_kept Halt p = refl

pub line_kept : (x : Line ℤ) → Proper x → narrowed_line x ≡ Some x
line_kept x p = ap (option_map (λ s. record { label = x.label; statement = s })) (statement_kept x.statement p)
