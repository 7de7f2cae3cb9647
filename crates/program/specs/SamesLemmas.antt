-- Expressions are the same if their parts are equal. Assumes nothing.
use Rattle.std.specs.Prelude.{◌≡◌, ℕ, Bool, true, ◌&&◌, ℤ, Some, Decides}
use Rattle.std.proofs.Common.{sym, ap, ap₂, ◌∙◌, arith}
use Rattle.std.specs.Cmp.{decided}
use Rattle.std.specs.Str.{bytes_eq}
use Rattle.std.proofs.lemmas.Bool.Decides.{Decides-int_eq}
use Rattle.std.proofs.lemmas.Slice.Eq.{bytes_eq-Decides}
use Rattle.std.proofs.lemmas.Bool.{and_parts, and_from, false≢true, eqb-true, eq-eqb}
use Rattle.line.specs.declared.syntax.Operand.{Operand}
use Rattle.line.specs.declared.syntax.Operand.TheVariants.{Var, Num}
use Rattle.line.specs.declared.syntax.Operator.{Operator}
use Rattle.line.specs.declared.variable.Variable.{Variable}
use Rattle.line.specs.Grammar.{spell_operator}
use Rattle.line.specs.Words.{operator_spelt}
use Rattle.line.specs.Tokens.{op_back, variable_ext}
use Rattle.numbering.specs.Numbers.{Laws}
use Rattle.numbering.proofs.Deciding.{equivalence_laws}
use Rattle.program.specs.declared.expression.Expression.{Expression}
use Rattle.program.specs.Sames.{operands_same, same_expression}

operand_decides : (a b : Operand ℤ) → Decides (operands_same a b) (a ≡ b)
operand_decides (Var v) (Var w) = (λ t. ap Var (variable_ext v w (eqb-true v.letter w.letter t)), λ e. eq-eqb v.letter w.letter (let z : v ≡ w = cc in ap (λ (x : Variable). x.letter) z))
operand_decides (Var v) (Num b) = (λ t. absurd (false≢true t), λ e. absurd (let z : ◌≡◌ {A = ℕ} 0 1 = cc in omega arith))
operand_decides (Num a) (Var w) = (λ t. absurd (false≢true t), λ e. absurd (let z : ◌≡◌ {A = ℕ} 0 1 = cc in omega arith))
operand_decides (Num a) (Num b) = (λ t. ap Num ((Decides-int_eq a b).0 t), λ e. (Decides-int_eq a b).1 (let z : a ≡ b = cc in z))

pub operator_decides : (p q : Operator) → Decides (bytes_eq (spell_operator p) (spell_operator q)) (p ≡ q)
operator_decides p q =
    let d = bytes_eq-Decides (spell_operator p) (spell_operator q) in
    (λ t. let e : Some p ≡ Some q = sym (op_back p) ∙ ap operator_spelt (d.0 t) ∙ op_back q in cc, λ e. d.1 (ap spell_operator e))

pub expression_decides : (a b : Expression) → Decides (same_expression a b) (a ≡ b)
expression_decides a b = (
  (λ t.
      let p = and_parts (bytes_eq (spell_operator a.operator) (spell_operator b.operator)) (operands_same a.first b.first && operands_same a.second b.second) t in
      let q = and_parts (operands_same a.first b.first) (operands_same a.second b.second) p.1 in
      let o = (operator_decides a.operator b.operator).0 p.0 in
      let f = (operand_decides a.first b.first).0 q.0 in
      let s = (operand_decides a.second b.second).0 q.1 in
      λ i. record { operator = o i; first = f i; second = s i }),
  (λ e.
      and_from (bytes_eq (spell_operator a.operator) (spell_operator b.operator)) (operands_same a.first b.first && operands_same a.second b.second)
      ((operator_decides a.operator b.operator).1 (ap (λ (x : Expression). x.operator) e))
      (and_from (operands_same a.first b.first) (operands_same a.second b.second)
      ((operand_decides a.first b.first).1 (ap (λ (x : Expression). x.first) e))
      ((operand_decides a.second b.second).1 (ap (λ (x : Expression). x.second) e)))),
)

pub expression_laws : Laws same_expression
expression_laws = equivalence_laws (decided same_expression expression_decides)

-- the parts compared one after another
pub by_parts : (a b : Expression) → a.operator ≡ b.operator → operands_same a.first b.first ≡ true → same_expression a b ≡ operands_same a.second b.second
by_parts a b o f =
    ap₂ (λ (x y : Bool). x && (y && operands_same a.second b.second)) ((operator_decides a.operator b.operator).1 o) f
