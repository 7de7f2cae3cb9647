-- Where a run stops: every state leads on to some line, so a token that it refuses is one that no line has there. Assumes nothing.
use Rattle.std.proofs.Common.{◌≡◌, ℕ, ◌+◌, ◌⊎◌, List, [], ◌∷◌, ◌++◌, length, ℤ, Some, None, Ok, Err, codes, Option, Result, sym, refl, ap, ◌∙◌, subst, inl, inr, ⊎_elim, append_assoc, append-nil, arith}
use Rattle.numeral.specs.Numbers.{Short}
use Rattle.line.specs.declared.label.Label.{Label}
use Rattle.line.specs.declared.parse.Stop.{Stop}
use Rattle.line.specs.declared.parse.Stop.TheVariants.{At, TooEarly}
use Rattle.line.specs.declared.syntax.Action.TheVariants.{Set, Compute, Get, Put}
use Rattle.line.specs.declared.syntax.Operand.TheVariants.{Var}
use Rattle.line.specs.declared.syntax.Line.{Line}
use Rattle.line.specs.declared.syntax.Statement.{Statement}
use Rattle.line.specs.declared.syntax.Statement.TheVariants.{Then, If, Halt}
use Rattle.line.specs.declared.variable.Variable.{Variable}
use Rattle.line.specs.Grammar.{spell, spell_action, spell_operand, spell_operator, EachStatement}
use Rattle.line.specs.Names.{padded, kept}
use Rattle.line.specs.Pieces.{Piece, pieces}
use Rattle.line.specs.Readings.{texts, Begins, AtToken, AtEnd}
use Rattle.line.specs.States.{State, start, named, setting, sourcing, held, joining, putting, testing, acted, tested, leading, branching, forking, done, line, step, closed, run, follow, column_of, placed, parsed}
use Rattle.line.specs.Words.{Text, label_text, variable_text}
use Rattle.line.proofs.Made.{Made, step_made}
use Rattle.line.proofs.Walks.{on, walk, none_some, spell_walk}

-- the label `a` and the variable `a`
abbrev some_label : Label
some_label = record { letters = padded (97 ∷ []); size = 1; ok = kept (97 ∷ []) refl }

abbrev some_variable : Variable
some_variable = record { letter = 97; ok = refl }

begin : (ts xs more : List Text) (l : Label) (s : Statement ℤ) → EachStatement Short s → ts ≡ xs → spell (line l s) ≡ xs ++ more → Begins ts
begin ts xs more l s q m e = record { whole = line l s; wide = q; more = more; goes_on = e ∙ ap (λ (x : List Text). x ++ more) (sym m) }

abbrev one : List Text
one = codes "->" ∷ (97 ∷ []) ∷ []

pub viable : (s : State) (ts : List Text) → Made s ts → Begins ts
viable start ts m = begin ts [] (spell (line some_label Halt)) some_label Halt tt m refl
viable (named l) ts m = begin ts (label_text l ∷ []) (codes "halt" ∷ []) l Halt tt m refl
viable (setting l v) ts m = begin ts (label_text l ∷ variable_text v ∷ []) (codes "=" ∷ codes "get" ∷ one) l (Then (Get v) some_label) tt m refl
viable (sourcing l v) ts m = begin ts (label_text l ∷ variable_text v ∷ codes "=" ∷ []) (codes "get" ∷ one) l (Then (Get v) some_label) tt m refl
viable (held l v o) ts m = begin ts (label_text l ∷ spell_action (Set v o)) one l (Then (Set v o) some_label) m.0 m.1 refl
viable (joining l v o p) ts m =
    begin ts (label_text l ∷ variable_text v ∷ codes "=" ∷ spell_operand o ∷ spell_operator p ∷ []) ((97 ∷ []) ∷ one) l (Then (Compute v o p (Var some_variable)) some_label) (m.0, tt) m.1 refl
viable (putting l) ts m = begin ts (label_text l ∷ codes "put" ∷ []) ((97 ∷ []) ∷ one) l (Then (Put (Var some_variable)) some_label) tt m refl
viable (testing l) ts m =
    begin ts (label_text l ∷ codes "if" ∷ []) ((97 ∷ []) ∷ codes "->" ∷ (97 ∷ []) ∷ (97 ∷ []) ∷ []) l (If (Var some_variable) some_label some_label) tt m refl
viable (acted l a) ts m = begin ts (label_text l ∷ spell_action a) one l (Then a some_label) m.0 m.1 refl
viable (tested l o) ts m =
    begin ts (label_text l ∷ codes "if" ∷ spell_operand o ∷ []) (codes "->" ∷ (97 ∷ []) ∷ (97 ∷ []) ∷ []) l (If o some_label some_label) m.0 m.1 refl
viable (leading l a) ts m =
    begin ts (label_text l ∷ (spell_action a ++ codes "->" ∷ [])) ((97 ∷ []) ∷ []) l (Then a some_label) m.0 m.1
    (ap (λ (x : List Text). label_text l ∷ x) (sym (append_assoc (spell_action a) (codes "->" ∷ []) ((97 ∷ []) ∷ []))))
viable (branching l o) ts m =
    begin ts (label_text l ∷ codes "if" ∷ spell_operand o ∷ codes "->" ∷ []) ((97 ∷ []) ∷ (97 ∷ []) ∷ []) l (If o some_label some_label) m.0 m.1 refl
viable (forking l o a) ts m =
    begin ts (label_text l ∷ codes "if" ∷ spell_operand o ∷ codes "->" ∷ label_text a ∷ []) ((97 ∷ []) ∷ []) l (If o a some_label) m.0 m.1 refl
viable (done x) ts m = record { whole = x; wide = m.0; more = []; goes_on = sym m.1 ∙ sym (append-nil ts) }

walk_append : (s u : State) (a b : List Text) → walk s a ≡ Some u → walk s (a ++ b) ≡ walk u b
walk_append s u [] b e = let same : s ≡ u = cc in ap (λ (x : State). walk x b) same
walk_append s u (t ∷ a) b e =
    (elim (step s t) as (λ o. on o (λ x. walk x a) ≡ Some u → on o (λ x. walk x (a ++ b)) ≡ walk u b)
    [ None ↦ λ q. absurd (none_some u q) | Some v ↦ λ q. walk_append v u a b q ]) e

-- a run stops at a token that the state before it refuses, or at the end
pub record Token (s : State) (ts : List Text) (ps : List Piece) (c : Stop) : Type 0 where
  pub front : List Piece
  pub bad : Piece
  pub back : List Piece
  pub split : ps ≡ front ++ bad ∷ back
  pub stops_at : c ≡ At bad.column
  pub at : State
  pub made : Made at (ts ++ texts front)
  pub walked : walk s (texts front) ≡ Some at
  pub refused : step at bad.text ≡ None

pub record End (s : State) (ts : List Text) (ps : List Piece) (c : Stop) : Type 0 where
  pub too_early : c ≡ TooEarly
  pub at : State
  pub made : Made at (ts ++ texts ps)
  pub walked : walk s (texts ps) ≡ Some at
  pub open_is : closed at ≡ Err c

closed_err : (s : State) (c : Stop) → closed s ≡ Err c → c ≡ TooEarly
closed_err (done y) c e = let z : ◌≡◌ {A = ℕ} 0 1 = cc in absurd (omega arith)
closed_err start c e = cc
closed_err (named l) c e = cc
closed_err (setting l v) c e = cc
closed_err (sourcing l v) c e = cc
closed_err (held l v o) c e = cc
closed_err (joining l v o p) c e = cc
closed_err (putting l) c e = cc
closed_err (testing l) c e = cc
closed_err (acted l a) c e = cc
closed_err (tested l o) c e = cc
closed_err (leading l a) c e = cc
closed_err (branching l o) c e = cc
closed_err (forking l o a) c e = cc

more_token : (s u : State) (p : Piece) (ps : List Piece) (ts : List Text) (c : Stop) → step s p.text ≡ Some u → Token u (ts ++ p.text ∷ []) ps c → Token s ts (p ∷ ps) c
more_token s u p ps ts c e k =
    record {
      front = p ∷ k.front;
      bad = k.bad;
      back = k.back;
      split = ap (λ (x : List Piece). p ∷ x) k.split;
      stops_at = k.stops_at;
      at = k.at;
      made = subst (λ (l : List Text). Made k.at l) (append_assoc ts (p.text ∷ []) (texts k.front)) k.made;
      walked = ap (λ (o : Option State). on o (λ x. walk x (texts k.front))) e ∙ k.walked;
      refused = k.refused;
    }

more_end : (s u : State) (p : Piece) (ps : List Piece) (ts : List Text) (c : Stop) → step s p.text ≡ Some u → End u (ts ++ p.text ∷ []) ps c → End s ts (p ∷ ps) c
more_end s u p ps ts c e k =
    record {
      too_early = k.too_early;
      at = k.at;
      made = subst (λ (l : List Text). Made k.at l) (append_assoc ts (p.text ∷ []) (texts ps)) k.made;
      walked = ap (λ (o : Option State). on o (λ x. walk x (texts ps))) e ∙ k.walked;
      open_is = k.open_is;
    }

pub stops : (s : State) (ps : List Piece) (c : Stop) (ts : List Text) → Made s ts → run s ps ≡ Err c → Token s ts ps c ⊎ End s ts ps c
stops s [] c ts m e =
    inr (record { too_early = closed_err s c e; at = s; made = subst (λ (l : List Text). Made s l) (sym (append-nil ts)) m; walked = refl; open_is = e })
stops s (p ∷ ps) c ts m e =
    (elim (step s p.text) as (λ o. step s p.text ≡ o → follow p.column o (λ u. run u ps) ≡ Err c → Token s ts (p ∷ ps) c ⊎ End s ts (p ∷ ps) c) [
      | None ↦ λ q h. inl (record { front = []; bad = p; back = ps; split = refl; stops_at = cc; at = s; made = subst (λ (l : List Text). Made s l) (sym (append-nil ts)) m; walked = refl; refused = q })
      | Some u ↦ λ q h. ⊎_elim (λ k. inl (more_token s u p ps ts c q k)) (λ k. inr (more_end s u p ps ts c q k)) (stops u ps c (ts ++ p.text ∷ []) (step_made s u p.text ts m q) h)
    ]) refl e

pub at_token : (end : ℕ) (ps : List Piece) (c : Stop) → Token start [] ps c → AtToken ps (column_of end c)
at_token end ps c k =
    record {
      front = k.front;
      bad = k.bad;
      back = k.back;
      split = k.split;
      column_is = ap (column_of end) k.stops_at;
      viable = viable k.at (texts k.front) k.made;
      stuck = λ b.
          let whole = spell_walk b.whole b.wide in
          let ahead : walk start (spell b.whole) ≡ walk k.at (k.bad.text ∷ b.more) =
          ap (walk start) (b.goes_on ∙ append_assoc (texts k.front) (k.bad.text ∷ []) b.more) ∙ walk_append start k.at (texts k.front) (k.bad.text ∷ b.more) k.walked in
          none_some (done b.whole) (sym (ahead ∙ ap (λ (o : Option State). on o (λ x. walk x b.more)) k.refused) ∙ whole);
    }

pub at_end : (end : ℕ) (ps : List Piece) (c : Stop) → End start [] ps c → AtEnd end ps (column_of end c)
at_end end ps c k =
    record {
      column_is = ap (column_of end) k.too_early;
      viable = viable k.at (texts ps) k.made;
      short = λ x p e.
          let whole : Some k.at ≡ Some (done x) = sym k.walked ∙ ap (walk start) (sym e) ∙ spell_walk x p in
          let same : k.at ≡ done x = cc in
          let clash : Err c ≡ Ok x = sym k.open_is ∙ ap closed same in
          let z : ◌≡◌ {A = ℕ} 0 1 = cc in omega arith;
    }

-- what stops a reading
module _ (bs : Text) (c : ℕ) where
  stopped_by : (r : Result (Line ℤ) Stop) → run start (pieces 1 bs) ≡ r → placed (1 + length bs) r ≡ Err c → AtToken (pieces 1 bs) c ⊎ AtEnd (1 + length bs) (pieces 1 bs) c
  stopped_by (Ok x) e q = cc
  stopped_by (Err s) e q =
      let same : column_of (1 + length bs) s ≡ c = cc in
      subst (λ k. AtToken (pieces 1 bs) k ⊎ AtEnd (1 + length bs) (pieces 1 bs) k) same
      (⊎_elim (λ k. inl (at_token (1 + length bs) (pieces 1 bs) s k)) (λ k. inr (at_end (1 + length bs) (pieces 1 bs) s k)) (stops start (pieces 1 bs) s [] refl e))

  pub stopped : parsed bs ≡ Err c → AtToken (pieces 1 bs) c ⊎ AtEnd (1 + length bs) (pieces 1 bs) c
  stopped = stopped_by (run start (pieces 1 bs)) refl
