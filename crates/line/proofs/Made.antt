-- The tokens by which each state was come to, and that a run to a line has the tokens of that line. Assumes nothing.
use Rattle.std.proofs.Common.{◌≡◌, ℕ, List, [], ◌∷◌, ◌++◌, ℤ, Some, None, Ok, Err, codes, Option, Result, sym, refl, ap, ◌∙◌, subst, append_assoc, append-nil, arith}
use Rattle.std.specs.Option.{option_map}
use Rattle.numeral.specs.Numbers.{Short}
use Rattle.line.specs.declared.label.Label.{Label}
use Rattle.line.specs.declared.parse.Stop.{Stop}
use Rattle.line.specs.declared.parse.Stop.TheVariants.{At, TooEarly}
use Rattle.line.specs.declared.syntax.Action.TheVariants.{Pass, Set, Compute, Get, Put}
use Rattle.line.specs.declared.syntax.Line.{Line}
use Rattle.line.specs.declared.syntax.Operand.{Operand}
use Rattle.line.specs.declared.syntax.Operator.{Operator}
use Rattle.line.specs.declared.syntax.Statement.TheVariants.{Then, If, Halt}
use Rattle.line.specs.declared.variable.Variable.{Variable}
use Rattle.line.specs.declared.word.Keyword.{Keyword}
use Rattle.line.specs.declared.word.Keyword.TheVariants as word
use Rattle.line.specs.Grammar.{spell, spell_action, spell_operand, spell_operator, Wide, EachOperand, EachAction}
use Rattle.line.specs.Pieces.{Piece}
use Rattle.line.specs.Readings.{texts}
use Rattle.line.specs.States.{State, start, named, setting, sourcing, held, joining, putting, testing, acted, tested, leading, branching, forking, done, line, begun, sourced, either_op, step, closed, run, follow}
use Rattle.line.specs.Words.{Text, exactly, label_text, variable_text, keyword_of, variable_of, operator_spelt, label_of, operand_spelt}
use Rattle.line.specs.Tokens.{exactly_is, KeywordIs, keyword_is, OpIs, op_is, label_is, variable_is, operand_is}
use Rattle.line.proofs.Walks.{none_some}

abbrev pub Made : State → List Text → Type 0
Made start ts = ts ≡ []
Made (named l) ts = ts ≡ label_text l ∷ []
Made (setting l v) ts = ts ≡ label_text l ∷ variable_text v ∷ []
Made (sourcing l v) ts = ts ≡ label_text l ∷ variable_text v ∷ codes "=" ∷ []
Made (held l v o) ts = EachOperand Short o × (ts ≡ label_text l ∷ spell_action (Set v o))
Made (joining l v o p) ts = EachOperand Short o × (ts ≡ label_text l ∷ variable_text v ∷ codes "=" ∷ spell_operand o ∷ spell_operator p ∷ [])
Made (putting l) ts = ts ≡ label_text l ∷ codes "put" ∷ []
Made (testing l) ts = ts ≡ label_text l ∷ codes "if" ∷ []
Made (acted l a) ts = EachAction Short a × (ts ≡ label_text l ∷ spell_action a)
Made (tested l o) ts = EachOperand Short o × (ts ≡ label_text l ∷ codes "if" ∷ spell_operand o ∷ [])
Made (leading l a) ts = EachAction Short a × (ts ≡ label_text l ∷ (spell_action a ++ codes "->" ∷ []))
Made (branching l o) ts = EachOperand Short o × (ts ≡ label_text l ∷ codes "if" ∷ spell_operand o ∷ codes "->" ∷ [])
Made (forking l o a) ts = EachOperand Short o × (ts ≡ label_text l ∷ codes "if" ∷ spell_operand o ∷ codes "->" ∷ label_text a ∷ [])
Made (done x) ts = Wide x × (ts ≡ spell x)

grow : (ts xs : List Text) (t w : Text) → ts ≡ xs → t ≡ w → ts ++ t ∷ [] ≡ xs ++ w ∷ []
grow ts xs t w p q = ap (λ (x : List Text). x ++ t ∷ []) p ∙ ap (λ (y : Text). xs ++ y ∷ []) q

some_inv : (a u : State) (P : State → Type 0) → Some a ≡ Some u → P a → P u
some_inv a u P e h = let same : a ≡ u = cc in subst P same h

map_inv : {A : Type 0} (o : Option A) (k : A → State) (u : State) (P : State → Type 0) → option_map k o ≡ Some u → ((a : A) → o ≡ Some a → P (k a)) → P u
map_inv None k u P e f = absurd (none_some u e)
map_inv (Some a) k u P e f = some_inv (k a) u P e (f a refl)

-- one more token: a step from ts with the token t
module _ (t : Text) (u : State) (ts : List Text) where
  begun_made : (l : Label) (w : Option Keyword) → ts ≡ label_text l ∷ [] → KeywordIs t w → begun l w (variable_of t) ≡ Some u → Made u (ts ++ t ∷ [])
  begun_made l (Some word.Pass) m i e = some_inv (acted l Pass) u (λ s. Made s (ts ++ t ∷ [])) e (tt, grow ts _ t _ m i)
  begun_made l (Some word.Halt) m i e = some_inv (done (line l Halt)) u (λ s. Made s (ts ++ t ∷ [])) e (tt, grow ts _ t _ m i)
  begun_made l (Some word.If) m i e = some_inv (testing l) u (λ s. Made s (ts ++ t ∷ [])) e (grow ts _ t _ m i)
  begun_made l (Some word.Put) m i e = some_inv (putting l) u (λ s. Made s (ts ++ t ∷ [])) e (grow ts _ t _ m i)
  begun_made l (Some word.Get) m i e = absurd (none_some u e)
  begun_made l None m i e =
      map_inv (variable_of t) (setting l) u (λ s. Made s (ts ++ t ∷ [])) e (λ v q. grow ts (label_text l ∷ []) t (variable_text v) m (sym (variable_is t v q)))

  source_made : (l : Label) (v : Variable) → Made (sourcing l v) ts → option_map (held l v) (operand_spelt t) ≡ Some u → Made u (ts ++ t ∷ [])
  source_made l v m e =
      map_inv (operand_spelt t) (held l v) u (λ s. Made s (ts ++ t ∷ [])) e (λ o q. let i = operand_is t o q in (i.short, grow ts _ t _ m (sym i.text_is)))

  sourced_made : (l : Label) (v : Variable) (w : Option Keyword) → Made (sourcing l v) ts → KeywordIs t w → sourced l v w (operand_spelt t) ≡ Some u → Made u (ts ++ t ∷ [])
  sourced_made l v (Some word.Get) m i e = some_inv (acted l (Get v)) u (λ s. Made s (ts ++ t ∷ [])) e (tt, grow ts _ t _ m i)
  sourced_made l v (Some word.Pass) m i e = source_made l v m e
  sourced_made l v (Some word.Halt) m i e = source_made l v m e
  sourced_made l v (Some word.If) m i e = source_made l v m e
  sourced_made l v (Some word.Put) m i e = source_made l v m e
  sourced_made l v None m i e = source_made l v m e

  held_made : (l : Label) (v : Variable) (o : Operand ℤ) (op : Option Operator) → Made (held l v o) ts → OpIs t op → either_op op (joining l v o) (option_map (λ x. leading l (Set v o)) (exactly (codes "->") t)) ≡ Some u → Made u (ts ++ t ∷ [])
  held_made l v o (Some p) m i e = some_inv (joining l v o p) u (λ s. Made s (ts ++ t ∷ [])) e (m.0, grow ts _ t _ m.1 i)
  held_made l v o None m i e =
      map_inv (exactly (codes "->") t) (λ x. leading l (Set v o)) u (λ s. Made s (ts ++ t ∷ [])) e (λ x q. (m.0, grow ts _ t _ m.1 (exactly_is (codes "->") t x q)))

-- one token after the arrow
arrowed : (l : Text) (ss ws : List Text) (t a : Text) (ts : List Text) → ts ≡ l ∷ (ss ++ ws) → t ≡ a → ts ++ t ∷ [] ≡ l ∷ (ss ++ (ws ++ a ∷ []))
arrowed l ss ws t a ts m q = grow ts _ t a m q ∙ ap (λ (x : List Text). l ∷ x) (append_assoc ss ws (a ∷ []))

pub step_made : (s u : State) (t : Text) (ts : List Text) → Made s ts → step s t ≡ Some u → Made u (ts ++ t ∷ [])
step_made start u t ts m e = map_inv (label_of t) named u (λ s. Made s (ts ++ t ∷ [])) e (λ l q. grow ts [] t (label_text l) m (sym (label_is t l q)))
step_made (named l) u t ts m e = begun_made t u ts l (keyword_of t) m (keyword_is t) e
step_made (setting l v) u t ts m e =
    map_inv (exactly (codes "=") t) (λ x. sourcing l v) u (λ s. Made s (ts ++ t ∷ [])) e (λ x q. grow ts _ t _ m (exactly_is (codes "=") t x q))
step_made (sourcing l v) u t ts m e = sourced_made t u ts l v (keyword_of t) m (keyword_is t) e
step_made (held l v o) u t ts m e = held_made t u ts l v o (operator_spelt t) m (op_is t) e
step_made (joining l v o p) u t ts m e =
    map_inv (operand_spelt t) (λ b. acted l (Compute v o p b)) u (λ s. Made s (ts ++ t ∷ [])) e (λ b q. let i = operand_is t b q in ((m.0, i.short), grow ts _ t _ m.1 (sym i.text_is)))
step_made (putting l) u t ts m e =
    map_inv (operand_spelt t) (λ o. acted l (Put o)) u (λ s. Made s (ts ++ t ∷ [])) e (λ o q. let i = operand_is t o q in (i.short, grow ts _ t _ m (sym i.text_is)))
step_made (testing l) u t ts m e =
    map_inv (operand_spelt t) (λ o. tested l o) u (λ s. Made s (ts ++ t ∷ [])) e (λ o q. let i = operand_is t o q in (i.short, grow ts _ t _ m (sym i.text_is)))
step_made (acted l a) u t ts m e =
    map_inv (exactly (codes "->") t) (λ x. leading l a) u (λ s. Made s (ts ++ t ∷ [])) e (λ x q. (m.0, grow ts (label_text l ∷ spell_action a) t (codes "->") m.1 (exactly_is (codes "->") t x q)))
step_made (tested l o) u t ts m e =
    map_inv (exactly (codes "->") t) (λ x. branching l o) u (λ s. Made s (ts ++ t ∷ [])) e (λ x q. (m.0, grow ts _ t _ m.1 (exactly_is (codes "->") t x q)))
step_made (leading l a) u t ts m e =
    map_inv (label_of t) (λ n. done (line l (Then a n))) u (λ s. Made s (ts ++ t ∷ [])) e
    (λ n q. (m.0, arrowed (label_text l) (spell_action a) (codes "->" ∷ []) t (label_text n) ts m.1 (sym (label_is t n q))))
step_made (branching l o) u t ts m e =
    map_inv (label_of t) (λ a. forking l o a) u (λ s. Made s (ts ++ t ∷ [])) e (λ a q. (m.0, grow ts _ t _ m.1 (sym (label_is t a q))))
step_made (forking l o a) u t ts m e =
    map_inv (label_of t) (λ b. done (line l (If o a b))) u (λ s. Made s (ts ++ t ∷ [])) e (λ b q. (m.0, grow ts _ t _ m.1 (sym (label_is t b q))))
step_made (done x) u t ts m e = absurd (none_some u e)

err_ok : (c : Stop) (x : Line ℤ) → ◌≡◌ {A = Result (Line ℤ) Stop} (Err c) (Ok x) → ⊥
err_ok c x e = let z : ◌≡◌ {A = ℕ} 0 1 = cc in omega arith

closed_ok : (s : State) (x : Line ℤ) → closed s ≡ Ok x → s ≡ done x
closed_ok (done y) x e = let same : y ≡ x = cc in ap done same
closed_ok start x e = absurd (err_ok TooEarly x e)
closed_ok (named l) x e = absurd (err_ok TooEarly x e)
closed_ok (setting l v) x e = absurd (err_ok TooEarly x e)
closed_ok (sourcing l v) x e = absurd (err_ok TooEarly x e)
closed_ok (held l v o) x e = absurd (err_ok TooEarly x e)
closed_ok (joining l v o p) x e = absurd (err_ok TooEarly x e)
closed_ok (putting l) x e = absurd (err_ok TooEarly x e)
closed_ok (testing l) x e = absurd (err_ok TooEarly x e)
closed_ok (acted l a) x e = absurd (err_ok TooEarly x e)
closed_ok (tested l o) x e = absurd (err_ok TooEarly x e)
closed_ok (leading l a) x e = absurd (err_ok TooEarly x e)
closed_ok (branching l o) x e = absurd (err_ok TooEarly x e)
closed_ok (forking l o a) x e = absurd (err_ok TooEarly x e)

-- a run to a line has its tokens
pub run_made : (s : State) (ps : List Piece) (x : Line ℤ) (ts : List Text) → Made s ts → run s ps ≡ Ok x → Made (done x) (ts ++ texts ps)
run_made s [] x ts m e = subst (λ (l : List Text). Made (done x) l) (sym (append-nil ts)) (subst (λ (u : State). Made u ts) (closed_ok s x e) m)
run_made s (p ∷ ps) x ts m e =
    (elim (step s p.text) as (λ o. step s p.text ≡ o → follow p.column o (λ u. run u ps) ≡ Ok x → Made (done x) (ts ++ texts (p ∷ ps))) [
      | None ↦ λ q h. absurd (err_ok (At p.column) x h)
      | Some u ↦ λ q h. subst (λ (l : List Text). Made (done x) l) (append_assoc ts (p.text ∷ []) (texts ps)) (run_made u ps x (ts ++ p.text ∷ []) (step_made s u p.text ts m q) h)
    ]) refl e
