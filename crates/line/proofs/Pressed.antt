-- The tokens of a printed line are those that spell it, and none of its bytes is foreign. Assumes nothing.
use Rattle.std.proofs.Common.{◌≡◌, ℕ, ◌+◌, ◌<◌, ◌≤◌, Bool, true, false, ◌&&◌, leb, List, [], ◌∷◌, ◌++◌, length, take, drop, ℤ, None, codes, sym, refl, ap, ◌∙◌, arith, length-append}
use Rattle.std.specs.Char.{is_ascii_lowercase, is_ascii_digit}
use Rattle.std.specs.Fmt.{signed_decimal}
use Rattle.std.specs.Str.{all_ascii_digits}
use Rattle.std.proofs.lemmas.List.{take_at, drop_at}
use Rattle.std.proofs.lemmas.Bool.{and_parts, and_from, cond_both, leb-true, le-leb, ne_eqb, false≢true}
use Rattle.numeral.specs.Numbers.{Short}
use Rattle.numeral.proofs.Numerals.{Spelling, nought, plain, minus, Led, reads}
use Rattle.line.specs.declared.class.Class.{Class}
use Rattle.line.specs.declared.class.Class.TheVariants.{Space, Letter, Digit}
use Rattle.line.specs.declared.label.Label.{Label}
use Rattle.line.specs.declared.syntax.Action.{Action}
use Rattle.line.specs.declared.syntax.Action.TheVariants.{Pass, Set, Compute, Get, Put}
use Rattle.line.specs.declared.syntax.Line.{Line}
use Rattle.line.specs.declared.syntax.Operand.{Operand}
use Rattle.line.specs.declared.syntax.Operand.TheVariants.{Var, Num}
use Rattle.line.specs.declared.syntax.Operator.{Operator}
use Rattle.line.specs.declared.syntax.Operator.TheVariants.{Add, Sub, Mul, Div, Rem, Less, Equal, And}
use Rattle.line.specs.declared.syntax.Statement.{Statement}
use Rattle.line.specs.declared.syntax.Statement.TheVariants.{Then, If, Halt}
use Rattle.line.specs.declared.variable.Variable.{Variable}
use Rattle.line.specs.Classes.{class_by_rule, is_foreign, foreign_at}
use Rattle.line.specs.Grammar.{spell, spell_action, spell_statement, spell_operand, spell_operator, Wide, EachOperand, EachAction, EachStatement, spaced, printed}
use Rattle.line.specs.Names.{only_letters}
use Rattle.line.specs.Pieces.{is_blank, blanks, inked, pieces}
use Rattle.line.specs.Readings.{texts, tokens}
use Rattle.line.specs.Words.{Text, label_text, variable_text}
use Rattle.line.proofs.Cuts.{begun}
use Rattle.line.specs.Tokens.{name_of}

-- a byte that is not foreign
abbrev Native : ℕ → Type 0
Native b = is_foreign (class_by_rule b) ≡ false

-- nor a space
abbrev Dark : ℕ → Type 0
Dark b = (is_blank b ≡ false) × Native b

abbrev Every : (ℕ → Type 0) → Text → Type 0
Every P [] = Unit {0}
Every P (b ∷ bs) = P b × Every P bs

-- a token: some bytes, each neither foreign nor a space
abbrev Solid : Text → Type 0
Solid w = (0 < length w) × Every Dark w

abbrev Solids : List Text → Type 0
Solids [] = Unit {0}
Solids (w ∷ ws) = Solid w × Solids ws

dark_run : (w r : Text) → Every Dark w → inked r ≡ 0 → inked (w ++ r) ≡ length w
dark_run [] r d e = e
dark_run (b ∷ bs) r d e = rw d.0.0 (omega (arith, dark_run bs r d.1 e))

dark_first : (w r : Text) → Solid w → blanks (w ++ r) ≡ 0
dark_first [] r d = absurd (omega (arith, d.0))
dark_first (b ∷ bs) r d = rw d.1.0.0

cut : (c : ℕ) (w r : Text) → Solid w → inked r ≡ 0 → pieces c (w ++ r) ≡ record { text = w; column = c } ∷ pieces (c + length w) r
cut c w r s e =
    let n : inked (w ++ r) ≡ length w = dark_run w r s.1 e in
    begun c (w ++ r) (dark_first w r s) (omega (arith, s.0, length-append w r))
    ∙ ap (λ (k : ℕ). record { text = take k (w ++ r); column = c } ∷ pieces (c + k) (drop k (w ++ r))) n
    ∙ ap (λ (x : Text). record { text = x; column = c } ∷ pieces (c + length w) (drop (length w) (w ++ r))) (take_at w r (length w) refl)
    ∙ ap (λ (x : Text). record { text = w; column = c } ∷ pieces (c + length w) x) (drop_at w r (length w) refl)

spaced_stops : (ws : List Text) → inked (spaced ws) ≡ 0
spaced_stops [] = refl
spaced_stops (w ∷ ws) = refl

words : (c : ℕ) (ws : List Text) → Solids ws → texts (pieces c (spaced ws)) ≡ ws
words c [] s = refl
words c (w ∷ ws) s = ap texts (cut (c + 1) w (spaced ws) s.0 (spaced_stops ws)) ∙ ap (λ (x : List Text). w ∷ x) (words (c + 1 + length w) ws s.1)

-- bytes that are not foreign
native_append : (a b : Text) → Every Native a → Every Native b → Every Native (a ++ b)
native_append [] b p q = q
native_append (x ∷ a) b p q = (p.0, native_append a b p.1 q)

dark_native : (w : Text) → Every Dark w → Every Native w
dark_native [] p = tt
dark_native (b ∷ bs) p = (p.0.1, dark_native bs p.1)

native_spaced : (ws : List Text) → Solids ws → Every Native (spaced ws)
native_spaced [] s = tt
native_spaced (w ∷ ws) s = (refl, native_append w (spaced ws) (dark_native w s.0.1) (native_spaced ws s.1))

native_none : (c : ℕ) (bs : Text) → Every Native bs → foreign_at c bs ≡ None
native_none c [] p = refl
native_none c (b ∷ bs) p = rw p.0 (native_none (c + 1) bs p.1)

-- letters, digits and the minus sign
above : (b : ℕ) → 33 ≤ b → is_blank b ≡ false
above b h = ne_eqb b 32 (λ e. omega arith)

abbrev Known : Class → Type 0
Known k = is_foreign k ≡ false

lower_dark : (b : ℕ) → is_ascii_lowercase b ≡ true → Dark b
lower_dark b e = (
  above b (omega (arith, leb-true 97 b (and_parts (leb 97 b) (leb b 122) e).0)),
  cond_both (is_blank b) Space _ Known (λ x. refl) (λ x. cond_both (is_ascii_lowercase b) Letter _ Known (λ y. refl) (λ y. absurd (false≢true (sym y ∙ e)))),
)

digit_dark : (b : ℕ) → is_ascii_digit b ≡ true → Dark b
digit_dark b e = (
  above b (omega (arith, leb-true 48 b (and_parts (leb 48 b) (leb b 57) e).0)),
  cond_both (is_blank b) Space _ Known (λ x. refl)
      (λ x. cond_both (is_ascii_lowercase b) Letter _ Known (λ y. refl)
      (λ y. cond_both (is_ascii_digit b) Digit _ Known (λ z. refl) (λ z. absurd (false≢true (sym z ∙ e))))),
)

-- what a test on each byte says of all
all_dark : (p : ℕ → Bool) (f : Text → Bool) → ((b : ℕ) (bs : Text) → f (b ∷ bs) ≡ (p b && f bs)) → ((b : ℕ) → p b ≡ true → Dark b) → (t : Text) → f t ≡ true → Every Dark t
all_dark p f each d [] e = tt
all_dark p f each d (b ∷ bs) e = let q = and_parts (p b) (f bs) (sym (each b bs) ∙ e) in (d b q.0, all_dark p f each d bs q.1)

letters_dark : (t : Text) → only_letters t ≡ true → Every Dark t
letters_dark = all_dark is_ascii_lowercase only_letters (λ b bs. refl) lower_dark

digits_dark : (t : Text) → all_ascii_digits t ≡ true → Every Dark t
digits_dark = all_dark is_ascii_digit all_ascii_digits (λ b bs. refl) digit_dark

led_dark : (d : ℕ) (ds : Text) → Led d ds → Every Dark (d ∷ ds)
led_dark d ds l = (digit_dark d (and_from (leb 48 d) (leb d 57) (le-leb 48 d (omega (arith, l.low))) (le-leb d 57 l.high)), digits_dark ds l.rest)

number_solid : (t : Text) → Spelling t → Solid t
number_solid t nought = (omega arith, ((refl, refl), tt))
number_solid t (plain d ds l) = (omega arith, led_dark d ds l)
number_solid t (minus d ds l) = (omega arith, ((refl, refl), led_dark d ds l))

label_solid : (l : Label) → Solid (label_text l)
label_solid l = (omega (arith, (name_of l).some), letters_dark (label_text l) (name_of l).letters_are)

variable_solid : (v : Variable) → Solid (variable_text v)
variable_solid v = (omega arith, (lower_dark v.letter v.ok, tt))

operand_solid : (o : Operand ℤ) → EachOperand Short o → Solid (spell_operand o)
operand_solid (Var v) p = variable_solid v
operand_solid (Num z) p = number_solid (signed_decimal z) (reads z p).spelt

op_solid : (p : Operator) → Solid (spell_operator p)
op_solid Add = (omega arith, ((refl, refl), tt))
op_solid Sub = (omega arith, ((refl, refl), tt))
op_solid Mul = (omega arith, ((refl, refl), tt))
op_solid Div = (omega arith, ((refl, refl), tt))
op_solid Rem = (omega arith, ((refl, refl), tt))
op_solid Less = (omega arith, ((refl, refl), tt))
op_solid Equal = (omega arith, ((refl, refl), ((refl, refl), tt)))
op_solid And = (omega arith, ((refl, refl), tt))

equals_solid : Solid (codes "=")
equals_solid = (omega arith, ((refl, refl), tt))

arrow_solid : Solid (codes "->")
arrow_solid = (omega arith, ((refl, refl), ((refl, refl), tt)))

-- an action's tokens, and then others
action_solid : (a : Action ℤ) (ws : List Text) → EachAction Short a → Solids ws → Solids (spell_action a ++ ws)
action_solid Pass ws p q = ((omega arith, ((refl, refl), ((refl, refl), ((refl, refl), ((refl, refl), tt))))), q)
action_solid (Set v o) ws p q = (variable_solid v, (equals_solid, (operand_solid o p, q)))
action_solid (Compute v a c b) ws p q = (variable_solid v, (equals_solid, (operand_solid a p.0, (op_solid c, (operand_solid b p.1, q)))))
action_solid (Get v) ws p q = (variable_solid v, (equals_solid, ((omega arith, ((refl, refl), ((refl, refl), ((refl, refl), tt)))), q)))
action_solid (Put o) ws p q = ((omega arith, ((refl, refl), ((refl, refl), ((refl, refl), tt)))), (operand_solid o p, q))

statement_solid : (s : Statement ℤ) → EachStatement Short s → Solids (spell_statement s)
statement_solid (Then a n) p = action_solid a (codes "->" ∷ label_text n ∷ []) p (arrow_solid, (label_solid n, tt))
statement_solid (If o a b) p = ((omega arith, ((refl, refl), ((refl, refl), tt))), (operand_solid o p, (arrow_solid, (label_solid a, (label_solid b, tt)))))
statement_solid Halt p = ((omega arith, ((refl, refl), ((refl, refl), ((refl, refl), ((refl, refl), tt))))), tt)

pub printed_tokens : (x : Line ℤ) → Wide x → tokens (printed x) ≡ spell x
printed_tokens x p =
    let body : List Text = spell_statement x.statement in
    ap texts (cut 1 (label_text x.label) (spaced body) (label_solid x.label) (spaced_stops body))
    ∙ ap (λ (ts : List Text). label_text x.label ∷ ts) (words (1 + length (label_text x.label)) body (statement_solid x.statement p))

pub printed_native : (x : Line ℤ) → Wide x → foreign_at 1 (printed x) ≡ None
printed_native x p =
    native_none 1 (printed x)
    (native_append (label_text x.label) (spaced (spell_statement x.statement)) (dark_native (label_text x.label) (label_solid x.label).1) (native_spaced (spell_statement x.statement) (statement_solid x.statement p)))
