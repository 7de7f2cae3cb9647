-- What a token's spelling says of it, and back. Assumes nothing.
use Rattle.std.specs.Prelude.{◌≡◌, ℕ, ◌≤◌, Bool, true, false, cond, ◌&&◌, [], ◌∷◌, ◌++◌, length, drop, ℤ, Some, None, codes, Decides, Option, ◌==◌, ◌≢◌, nat_le, slice_index, slice_index_or, refl}
use Rattle.std.proofs.Common.{sym, ap, subst, ◌∙◌, ⊎_elim, arith}
use mathlib.Core.HLevel.{is_prop→PathP}
use Rattle.std.proofs.Math.Bool.{Bool-set}
use Rattle.std.specs.Char.{is_ascii_lowercase}
use Rattle.std.specs.Fmt.{signed_decimal}
use Rattle.std.specs.Str.{bytes_eq}
use Rattle.std.proofs.lemmas.Slice.Eq.{bytes_eq-Decides}
use Rattle.std.proofs.lemmas.List.{take_at}
use Rattle.std.proofs.lemmas.Bool.{cond_both, and_from, and_parts, eqb-true, leb-true, le-leb, lt-leb, false≢true, cases_Bool}
use Rattle.numeral.specs.Numbers.{Short, Spelt, wide_of}
use Rattle.numeral.proofs.Numerals.{Spelling, nought, plain, minus, reads, wide_spelt, wide_back}
use Rattle.line.specs.declared.label.Label.{Label}
use Rattle.line.specs.declared.variable.Variable.{Variable}
use Rattle.line.specs.declared.syntax.Operator.{Operator}
use Rattle.line.specs.declared.syntax.Operator.TheVariants.{Add, Sub, Mul, Div, Rem, Less, Equal, And}
use Rattle.line.specs.declared.syntax.Operand.{Operand}
use Rattle.line.specs.declared.syntax.Operand.TheVariants.{Var, Num}
use Rattle.line.specs.declared.word.Keyword.{Keyword}
use Rattle.line.specs.declared.word.Keyword.TheVariants.{Pass, Halt, If, Get, Put}
use Rattle.line.specs.Grammar.{spell_operand, spell_operator, EachOperand}
use Rattle.line.specs.Names.{only_letters, is_word, is_name, padded, zeros, kept}
use Rattle.line.specs.Words.{Text, exactly, keyword_of, sign_of, double_of, operator_spelt, label_text, same_label, label_by, label_of, variable_text, variable_by, variable_of, or_number, operand_spelt}
use Rattle.line.specs.Spelt.{past}

is_text : (t w : Text) → bytes_eq t w ≡ true → t ≡ w
is_text t w e = (bytes_eq-Decides t w).0 e

-- keywords
abbrev pub KeywordIs : Text → Option Keyword → Type 0
KeywordIs t (Some Pass) = t ≡ codes "pass"
KeywordIs t (Some Halt) = t ≡ codes "halt"
KeywordIs t (Some If) = t ≡ codes "if"
KeywordIs t (Some Get) = t ≡ codes "get"
KeywordIs t (Some Put) = t ≡ codes "put"
KeywordIs t None = Unit {0}

pub keyword_is : (t : Text) → KeywordIs t (keyword_of t)
keyword_is t =
    cond_both (bytes_eq t (codes "pass")) (Some Pass) _ (KeywordIs t) (is_text t _) (λ a.
    cond_both (bytes_eq t (codes "halt")) (Some Halt) _ (KeywordIs t) (is_text t _) (λ b.
    cond_both (bytes_eq t (codes "if")) (Some If) _ (KeywordIs t) (is_text t _) (λ c.
    cond_both (bytes_eq t (codes "get")) (Some Get) _ (KeywordIs t) (is_text t _) (λ d.
    cond_both (bytes_eq t (codes "put")) (Some Put) None (KeywordIs t) (is_text t _) (λ e. tt)))))

-- a token that is spelt just so
pub exactly_is : (w t : Text) (x : Unit {0}) → exactly w t ≡ Some x → t ≡ w
exactly_is w t x e =
    ⊎_elim (λ q. is_text t w q)
    (λ q. let clash : None ≡ Some x = sym (ap (λ b. cond b (Some tt) None) q) ∙ e in let z : ◌≡◌ {A = ℕ} 0 1 = cc in absurd (omega arith))
    (cases_Bool (bytes_eq t w))

-- operators
abbrev pub OpIs : Text → Option Operator → Type 0
OpIs t (Some p) = t ≡ spell_operator p
OpIs t None = Unit {0}

one_byte : (c d : ℕ) → (c == d) ≡ true → c ∷ [] ≡ d ∷ []
one_byte c d e = ap (λ (k : ℕ). k ∷ []) (eqb-true c d e)

sign_is : (c : ℕ) → OpIs (c ∷ []) (sign_of c)
sign_is c =
    cond_both (c == 43) (Some Add) _ (OpIs (c ∷ [])) (one_byte c 43) (λ x0.
    cond_both (c == 45) (Some Sub) _ (OpIs (c ∷ [])) (one_byte c 45) (λ x1.
    cond_both (c == 42) (Some Mul) _ (OpIs (c ∷ [])) (one_byte c 42) (λ x2.
    cond_both (c == 47) (Some Div) _ (OpIs (c ∷ [])) (one_byte c 47) (λ x3.
    cond_both (c == 37) (Some Rem) _ (OpIs (c ∷ [])) (one_byte c 37) (λ x4.
    cond_both (c == 60) (Some Less) _ (OpIs (c ∷ [])) (one_byte c 60) (λ x5.
    cond_both (c == 38) (Some And) None (OpIs (c ∷ [])) (one_byte c 38) (λ x6. tt)))))))

pub op_is : (t : Text) → OpIs t (operator_spelt t)
op_is [] = tt
op_is (c ∷ []) = sign_is c
op_is (c ∷ d ∷ t) = cond_both (bytes_eq (c ∷ d ∷ t) (codes "==")) (Some Equal) None (OpIs (c ∷ d ∷ t)) (is_text (c ∷ d ∷ t) _) (λ e. tt)

pub op_back : (p : Operator) → operator_spelt (spell_operator p) ≡ Some p
op_back Add = refl
op_back Sub = refl
op_back Mul = refl
op_back Div = refl
op_back Rem = refl
op_back Less = refl
op_back Equal = refl
op_back And = refl

pub longer : (t : Text) → (length t ≢ 1) → double_of t ≡ operator_spelt t
longer [] h = refl
longer (c ∷ []) h = absurd (h refl)
longer (c ∷ d ∷ t) h = refl

-- labels: what is kept of one determines it
pub label_ext : (a b : Label) → a.letters ≡ b.letters → a.size ≡ b.size → a ≡ b
label_ext a b e s = λ i. record {
  letters = e i;
  size = s i;
  ok = is_prop→PathP (λ j. is_name (e j) (s j) ≡ true) (λ j. Bool-set (is_name (e j) (s j)) true) a.ok b.ok i;
}

pub record Name (l : Label) : Type 0 where
  pub some : 1 ≤ length (label_text l)
  pub most : length (label_text l) ≤ 8
  pub long : length (label_text l) ≡ l.size
  pub word : is_word (label_text l) ≡ true
  pub letters_are : only_letters (label_text l) ≡ true
  pub whole : l.letters ≡ padded (label_text l)

pub name_of : (l : Label) → Name l
name_of l =
    let t = label_text l in
    let a = and_parts (length t == l.size) (is_word t && bytes_eq l.letters (padded t)) l.ok in
    let b = and_parts (is_word t) (bytes_eq l.letters (padded t)) a.1 in
    let c = and_parts (nat_le 1 (length t)) (nat_le (length t) 8 && only_letters t) b.0 in
    let d = and_parts (nat_le (length t) 8) (only_letters t) c.1 in
    record {
      some = leb-true 1 (length t) c.0;
      most = leb-true (length t) 8 d.0;
      long = eqb-true (length t) l.size a.0;
      word = b.0;
      letters_are = d.1;
      whole = is_text l.letters (padded t) b.1;
    }

pub word_from : (t : Text) → (length t ≢ 0) → length t ≤ 8 → true ≡ only_letters t → is_word t ≡ true
word_from t h k e =
    and_from (nat_le 1 (length t)) (nat_le (length t) 8 && only_letters t) (le-leb 1 (length t) (omega arith))
    (and_from (nat_le (length t) 8) (only_letters t) (le-leb (length t) 8 k) (sym e))

-- a copy of t over the start of eight zeros
pub over_zeros : (t s : Text) → s ≡ t → s ++ drop (length t) zeros ≡ padded t
over_zeros t s e = ap (λ l. l ++ drop (length t) zeros) e

module _ (t : Text) (l : Label) (w : is_word t ≡ true) (e : l.letters ≡ padded t) (s : l.size ≡ length t) where
  made_by : (b : Bool) (q : is_word t ≡ b) → Some l ≡ label_by t b q
  made_by true q = ap Some (label_ext l (record { letters = padded t; size = length t; ok = kept t q }) e s)
  made_by false q = absurd (false≢true (sym q ∙ w))

  -- what is kept of a token of 1 to 8 letters is its label
  pub label_made : Some l ≡ label_of t
  label_made = made_by (is_word t) refl

pub label_back : (l : Label) → label_of (label_text l) ≡ Some l
label_back l = sym (label_made (label_text l) l (name_of l).word (name_of l).whole (sym (name_of l).long))

-- labels are equal if they have the same letters
pub label_decides : (a b : Label) → Decides (same_label a b) (a ≡ b)
label_decides a b =
    let d = bytes_eq-Decides (label_text a) (label_text b) in
    (λ t. some_same (sym (label_back a) ∙ ap label_of (d.0 t) ∙ label_back b), λ e. d.1 (ap label_text e))
  where
    some_same : Some a ≡ Some b → a ≡ b
    some_same e = cc

abbrev LabelIs : Text → Option Label → Type 0
LabelIs t (Some l) = label_text l ≡ t
LabelIs t None = Unit {0}

label_cases : (t : Text) (b : Bool) (q : is_word t ≡ b) → LabelIs t (label_by t b q)
label_cases t true q = take_at t (drop (length t) zeros) (length t) refl
label_cases t false q = tt

pub label_is : (t : Text) (l : Label) → label_of t ≡ Some l → label_text l ≡ t
label_is t l e = subst (LabelIs t) e (label_cases t (is_word t) refl)

-- variables
pub variable_ext : (a b : Variable) → a.letter ≡ b.letter → a ≡ b
variable_ext a b e = λ i. record {
  letter = e i;
  ok = is_prop→PathP (λ j. is_ascii_lowercase (e j) ≡ true) (λ j. Bool-set (is_ascii_lowercase (e j)) true) a.ok b.ok i;
}

variable_by_letter : (v : Variable) (b : Bool) (q : is_ascii_lowercase v.letter ≡ b) → variable_by v.letter b q ≡ Some v
variable_by_letter v true q = ap Some (variable_ext (record { letter = v.letter; ok = q }) v refl)
variable_by_letter v false q = absurd (false≢true (sym q ∙ v.ok))

pub variable_back : (v : Variable) → variable_of (variable_text v) ≡ Some v
variable_back v = variable_by_letter v (is_ascii_lowercase v.letter) refl

-- a token of one letter
pub variable_made : (t : Text) (v : Variable) → length t ≡ 1 → v.letter ≡ slice_index t 0 → Some v ≡ variable_of t
variable_made [] v h e = absurd (omega arith)
variable_made (c ∷ []) v h e = sym (ap (λ (k : ℕ). variable_of (k ∷ [])) (sym e) ∙ variable_back v)
variable_made (c ∷ d ∷ t) v h e = absurd (omega arith)

abbrev VariableIs : Text → Option Variable → Type 0
VariableIs t (Some v) = variable_text v ≡ t
VariableIs t None = Unit {0}

variable_letter : (c : ℕ) (b : Bool) (q : is_ascii_lowercase c ≡ b) → VariableIs (c ∷ []) (variable_by c b q)
variable_letter c true q = refl
variable_letter c false q = tt

variable_cases : (t : Text) → VariableIs t (variable_of t)
variable_cases [] = tt
variable_cases (c ∷ []) = variable_letter c (is_ascii_lowercase c) refl
variable_cases (c ∷ d ∷ t) = tt

pub variable_is : (t : Text) (v : Variable) → variable_of t ≡ Some v → variable_text v ≡ t
variable_is t v e = subst (VariableIs t) e (variable_cases t)

-- operands
pub record Operands (t : Text) (o : Operand ℤ) : Type 0 where
  pub short : EachOperand Short o
  pub text_is : spell_operand o ≡ t

abbrev OperandIs : Text → Option (Operand ℤ) → Type 0
OperandIs t (Some o) = Operands t o
OperandIs t None = Unit {0}

choose : (t : Text) (v : Option Variable) (z : Option ℤ) → VariableIs t v → Spelt t z → OperandIs t (or_number v z)
choose t (Some v) z p q = record { short = tt; text_is = p }
choose t None (Some z) p q = record { short = q.1; text_is = sym q.0 }
choose t None None p q = tt

pub operand_is : (t : Text) (o : Operand ℤ) → operand_spelt t ≡ Some o → Operands t o
operand_is t o e = subst (OperandIs t) e (choose t (variable_of t) (wide_of t) (variable_cases t) (wide_spelt t))

pub low_first : (t : Text) → Spelling t → slice_index t 0 ≤ 57
low_first t nought = omega arith
low_first t (plain d ds l) = l.high
low_first t (minus d ds l) = omega arith

unlettered : (b : ℕ) → b ≤ 57 → is_ascii_lowercase b ≡ false
unlettered b h = ap (λ x. x && nat_le b 122) (lt-leb 97 b (omega arith))

no_letter : (c : ℕ) (b : Bool) (q : is_ascii_lowercase c ≡ b) → is_ascii_lowercase c ≡ false → variable_by c b q ≡ None
no_letter c true q e = absurd (false≢true (sym e ∙ q))
no_letter c false q e = refl

no_variable : (t : Text) → slice_index t 0 ≤ 57 → variable_of t ≡ None
no_variable [] h = refl
no_variable (c ∷ []) h = no_letter c (is_ascii_lowercase c) refl (unlettered c h)
no_variable (c ∷ d ∷ t) h = refl

pub operand_back : (o : Operand ℤ) → EachOperand Short o → operand_spelt (spell_operand o) ≡ Some o
operand_back (Var v) p = ap (λ x. or_number x (wide_of (variable_text v))) (variable_back v)
operand_back (Num z) p =
    ap (λ x. or_number x (wide_of (signed_decimal z))) (no_variable (signed_decimal z) (low_first (signed_decimal z) (reads z p).spelt))
    ∙ ap (λ x. or_number None x) (wide_back z p)

-- a variable is no keyword
pub variable_keyword : (v : Variable) → keyword_of (variable_text v) ≡ None
variable_keyword v =
    let long : (w : Text) → (length w ≢ 1) → variable_text v ≡ w → ⊥ = λ w h q. h (sym (ap length q)) in
    let t : Text = variable_text v in
    sym (past t (codes "pass") (Some Pass) _ _ (long _ (λ q. omega arith)) (past t (codes "halt") (Some Halt) _ _ (long _ (λ q. omega arith)) (past t (codes "if") (Some If) _ _ (long _ (λ q. omega arith))
    (past t (codes "get") (Some Get) _ _ (long _ (λ q. omega arith)) (past t (codes "put") (Some Put) None _ (long _ (λ q. omega arith)) refl)))))

-- nor is a spelt operand
operand_not_get : (o : Operand ℤ) → EachOperand Short o → spell_operand o ≢ codes "get"
operand_not_get (Var v) p q = let f : ◌≡◌ {A = ℕ} 1 3 = ap length q in omega arith
operand_not_get (Num z) p q = let f : slice_index_or (signed_decimal z) 0 0 ≡ 103 = ap (λ (x : Text). slice_index x 0) q in omega (arith, low_first (signed_decimal z) (reads z p).spelt)

pub operand_keyword : (o : Operand ℤ) → EachOperand Short o → keyword_of (spell_operand o) ≢ Some Get
operand_keyword o p e = operand_not_get o p (subst (KeywordIs (spell_operand o)) e (keyword_is (spell_operand o)))
