-- The states that a list of tokens leads through, and the tokens of a line among them. Assumes nothing.
use Rattle.std.proofs.Common.{◌≡◌, ℕ, List, [], ◌∷◌, ◌++◌, ℤ, Some, None, Ok, codes, Option, refl, ap, ◌∙◌, arith}
use Rattle.std.specs.Option.{option_map}
use Rattle.numeral.specs.Numbers.{Short}
use Rattle.line.specs.declared.label.Label.{Label}
use Rattle.line.specs.declared.syntax.Action.{Action}
use Rattle.line.specs.declared.syntax.Action.TheVariants.{Pass, Set, Compute, Get, Put}
use Rattle.line.specs.declared.syntax.Line.{Line}
use Rattle.line.specs.declared.syntax.Operand.{Operand}
use Rattle.line.specs.declared.syntax.Statement.{Statement}
use Rattle.line.specs.declared.syntax.Statement.TheVariants.{Then, If, Halt}
use Rattle.line.specs.declared.variable.Variable.{Variable}
use Rattle.line.specs.Grammar.{spell, spell_action, spell_statement, spell_operand, spell_operator, Wide, EachOperand, EachAction, EachStatement}
use Rattle.line.specs.Pieces.{Piece}
use Rattle.line.specs.Readings.{texts}
use Rattle.line.specs.States.{State, start, named, setting, sourcing, held, joining, putting, testing, acted, tested, leading, branching, forking, done, line, begun, either_op, step, closed, run, follow}
use Rattle.line.specs.Words.{Text, exactly, label_text, variable_text, variable_of, label_of, operand_spelt, keyword_of}
use Rattle.line.proofs.Runs.{sourced_other}
use Rattle.line.specs.Tokens.{label_back, operand_back, operand_keyword, variable_back, variable_keyword, op_back}

abbrev pub on : Option State → (State → Option State) → Option State
on None f = None
on (Some s) f = f s

abbrev pub walk : State → List Text → Option State
walk s [] = Some s
walk s (t ∷ ts) = on (step s t) (λ u. walk u ts)

pub to : (s u : State) (t : Text) (ts : List Text) (r : Option State) → step s t ≡ Some u → walk u ts ≡ r → walk s (t ∷ ts) ≡ r
to s u t ts r e h = ap (λ o. on o (λ x. walk x ts)) e ∙ h

pub none_some : {A : Type 0} (a : A) → None ≡ Some a → ⊥
none_some a e = let z : ◌≡◌ {A = ℕ} 0 1 = cc in omega arith

-- a walk to a line is a run to it
pub run_walk : (s : State) (ps : List Piece) (x : Line ℤ) → walk s (texts ps) ≡ Some (done x) → run s ps ≡ Ok x
run_walk s [] x e = let same : s ≡ done x = cc in ap closed same
run_walk s (p ∷ ps) x e =
    (elim (step s p.text) as (λ o. on o (λ u. walk u (texts ps)) ≡ Some (done x) → follow p.column o (λ u. run u ps) ≡ Ok x)
    [ None ↦ λ q. absurd (none_some (done x) q) | Some u ↦ λ q. run_walk u ps x q ]) e

label_step : (k : Label → State) (a : Label) → option_map k (label_of (label_text a)) ≡ Some (k a)
label_step k a = ap (λ o. option_map k o) (label_back a)

operand_step : (k : Operand ℤ → State) (o : Operand ℤ) → EachOperand Short o → option_map k (operand_spelt (spell_operand o)) ≡ Some (k o)
operand_step k o p = ap (λ y. option_map k y) (operand_back o p)

-- after a statement with one successor
after_action : (l : Label) (a : Action ℤ) (n : Label) → walk (leading l a) (label_text n ∷ []) ≡ Some (done (line l (Then a n)))
after_action l a n = to (leading l a) (done (line l (Then a n))) (label_text n) [] _ (label_step (λ y. done (line l (Then a y))) n) refl

arrow_action : (l : Label) (a : Action ℤ) (n : Label) → walk (acted l a) (codes "->" ∷ label_text n ∷ []) ≡ Some (done (line l (Then a n)))
arrow_action l a n = to (acted l a) (leading l a) (codes "->") (label_text n ∷ []) _ refl (after_action l a n)

setting_step : (l : Label) (v : Variable) → step (named l) (variable_text v) ≡ Some (setting l v)
setting_step l v = ap (λ w. begun l w (variable_of (variable_text v))) (variable_keyword v) ∙ ap (λ y. option_map (setting l) y) (variable_back v)

-- v =
source_walk : (l : Label) (v : Variable) (ts : List Text) (r : Option State) → walk (sourcing l v) ts ≡ r → walk (named l) (variable_text v ∷ codes "=" ∷ ts) ≡ r
source_walk l v ts r h =
    to (named l) (setting l v) (variable_text v) (codes "=" ∷ ts) r (setting_step l v)
    (to (setting l v) (sourcing l v) (codes "=") ts r refl h)

-- v = o
held_walk : (l : Label) (v : Variable) (o : Operand ℤ) (ts : List Text) (r : Option State) → EachOperand Short o → walk (held l v o) ts ≡ r → walk (named l) (variable_text v ∷ codes "=" ∷ spell_operand o ∷ ts) ≡ r
held_walk l v o ts r p h =
    source_walk l v (spell_operand o ∷ ts) r
    (to (sourcing l v) (held l v o) (spell_operand o) ts r
    (sourced_other l v (keyword_of (spell_operand o)) (operand_spelt (spell_operand o)) (operand_keyword o p) ∙ operand_step (held l v) o p) h)

action_walk : (l : Label) (a : Action ℤ) (n : Label) → EachAction Short a → walk (named l) (spell_action a ++ codes "->" ∷ label_text n ∷ []) ≡ Some (done (line l (Then a n)))
action_walk l Pass n p = to (named l) (acted l Pass) (codes "pass") (codes "->" ∷ label_text n ∷ []) _ refl (arrow_action l Pass n)
action_walk l (Set v o) n p =
    held_walk l v o (codes "->" ∷ label_text n ∷ []) _ p
    (to (held l v o) (leading l (Set v o)) (codes "->") (label_text n ∷ []) _ refl (after_action l (Set v o) n))
action_walk l (Compute v a c b) n p =
    held_walk l v a (spell_operator c ∷ spell_operand b ∷ codes "->" ∷ label_text n ∷ []) _ p.0
    (to (held l v a) (joining l v a c) (spell_operator c) (spell_operand b ∷ codes "->" ∷ label_text n ∷ []) _ (ap (λ y. either_op y (joining l v a) (option_map (λ u. leading l (Set v a)) (exactly (codes "->") (spell_operator c)))) (op_back c))
    (to (joining l v a c) (acted l (Compute v a c b)) (spell_operand b) (codes "->" ∷ label_text n ∷ []) _ (operand_step (λ y. acted l (Compute v a c y)) b p.1) (arrow_action l (Compute v a c b) n)))
action_walk l (Get v) n p =
    source_walk l v (codes "get" ∷ codes "->" ∷ label_text n ∷ []) _
    (to (sourcing l v) (acted l (Get v)) (codes "get") (codes "->" ∷ label_text n ∷ []) _ refl (arrow_action l (Get v) n))
action_walk l (Put o) n p =
    to (named l) (putting l) (codes "put") (spell_operand o ∷ codes "->" ∷ label_text n ∷ []) _ refl
    (to (putting l) (acted l (Put o)) (spell_operand o) (codes "->" ∷ label_text n ∷ []) _ (operand_step (λ y. acted l (Put y)) o p) (arrow_action l (Put o) n))

statement_walk : (l : Label) (s : Statement ℤ) → EachStatement Short s → walk (named l) (spell_statement s) ≡ Some (done (line l s))
statement_walk l (Then a n) p = action_walk l a n p
statement_walk l (If o a b) p =
    to (named l) (testing l) (codes "if") (spell_operand o ∷ codes "->" ∷ label_text a ∷ label_text b ∷ []) _ refl
    (to (testing l) (tested l o) (spell_operand o) (codes "->" ∷ label_text a ∷ label_text b ∷ []) _ (operand_step (λ y. tested l y) o p)
    (to (tested l o) (branching l o) (codes "->") (label_text a ∷ label_text b ∷ []) _ refl
    (to (branching l o) (forking l o a) (label_text a) (label_text b ∷ []) _ (label_step (λ y. forking l o y) a)
    (to (forking l o a) (done (line l (If o a b))) (label_text b) [] _ (label_step (λ y. done (line l (If o a y))) b) refl))))
statement_walk l Halt p = refl

-- the tokens of a line lead to it
pub spell_walk : (x : Line ℤ) → Wide x → walk start (spell x) ≡ Some (done x)
spell_walk x p =
    to start (named x.label) (label_text x.label) (spell_statement x.statement) _ (label_step named x.label) (statement_walk x.label x.statement p)
