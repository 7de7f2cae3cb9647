-- How one token moves a run on. Assumes nothing.
use Rattle.std.proofs.Common.{◌≡◌, List, [], ◌∷◌, ℤ, Some, None, Ok, Err, codes, Option, Result, sym, refl, ap, ◌∙◌}
use Rattle.std.specs.Option.{option_map}
use Rattle.line.specs.declared.cursor.Token.{Token}
use Rattle.line.specs.declared.label.Label.{Label}
use Rattle.line.specs.declared.parse.Stop.{Stop}
use Rattle.line.specs.declared.parse.Stop.TheVariants.{At}
use Rattle.line.specs.declared.syntax.Action.{Action}
use Rattle.line.specs.declared.syntax.Operand.{Operand}
use Rattle.line.specs.declared.variable.Variable.{Variable}
use Rattle.line.specs.declared.word.Keyword.{Keyword}
use Rattle.line.specs.declared.word.Keyword.TheVariants.{Pass, Halt, If, Get, Put}
use Rattle.line.specs.Pieces.{Piece}
use Rattle.line.specs.Words.{Text, exactly, keyword_of, variable_of, operand_spelt}
use Rattle.line.specs.States.{State, held, named, sourcing, setting, Joined, Assigned, Gave, TookBy, Takes, Took, run, step, follow, begun, sourced}

-- a token read by a test that gives what f gives
took_by : {A : Type 0} (f : Text → Option A) (R : Text → Option A → Type 0) (ps : List Piece) (r : Result A Stop) (after : List Piece) → TookBy R ps r after → ((t : Text) (o : Option A) → R t o → f t ≡ o) → Took f ps r after
took_by f R [] (Ok a) after g h = g
took_by f R [] (Err s) after g h = g
took_by f R (p ∷ ps) (Ok a) after g h = (h p.text (Some a) g.0, g.1)
took_by f R (p ∷ ps) (Err s) after g h = (h p.text None g.0, g.1)

pub took : {A : Type 0} (f : Text → Option A) {R : Text → Option A → Type 0} {ps : List Piece} {r : Result A Stop} {after : List Piece} → Takes R ps r after → ((t : Text) (o : Option A) → R t o → f t ≡ o) → Took f ps r after
took f {R} {ps} {r} {after} g h = took_by f R ps r after g.first h

-- a token that the test f takes leads from s where s asks for f
pub took_run : {A : Type 0} (f : Text → Option A) (ps : List Piece) (a : A) (after : List Piece) (s : State) (k : A → State) → ((t : Text) → step s t ≡ option_map k (f t)) → Took f ps (Ok a) after → run s ps ≡ run (k a) after
took_run f [] a after s k h g = absurd g
took_run f (p ∷ ps) a after s k h g =
    ap (λ o. follow p.column o (λ u. run u ps)) (h p.text ∙ ap (λ o. option_map k o) g.0) ∙ ap (run (k a)) (sym g.1)

-- after `v =`, a token other than `get` is an operand
pub sourced_other : (l : Label) (v : Variable) (w : Option Keyword) (o : Option (Operand ℤ)) → (w ≡ Some Get → ⊥) → sourced l v w o ≡ option_map (held l v) o
sourced_other l v (Some Get) o h = absurd (h refl)
sourced_other l v (Some Pass) o h = refl
sourced_other l v (Some Halt) o h = refl
sourced_other l v (Some If) o h = refl
sourced_other l v (Some Put) o h = refl
sourced_other l v None o h = refl

pub source_step : (l : Label) (v : Variable) (t : Text) (o : Option (Operand ℤ)) → (keyword_of t ≡ Some Get → ⊥) → operand_spelt t ≡ o → step (sourcing l v) t ≡ option_map (held l v) o
source_step l v t o h e = sourced_other l v (keyword_of t) (operand_spelt t) h ∙ ap (λ x. option_map (held l v) x) e

-- a keyword, and then an operand
pub worded : (ps mid after : List Piece) (t : Token) (w : Option Keyword) (o : Operand ℤ) (l : Label) (s : State) (k : Operand ℤ → State) → Gave ps (Ok t) mid → w ≡ keyword_of t.text.now → begun l w (variable_of t.text.now) ≡ Some s → ((x : Text) → step s x ≡ option_map k (operand_spelt x)) → Took operand_spelt mid (Ok o) after → run (named l) ps ≡ run (k o) after
worded [] mid after t w o l s k n e b h g = absurd n
worded (p ∷ ps) mid after t w o l s k n e b h g =
    ap (λ (x : Piece). follow p.column (begun l (keyword_of x.text) (variable_of x.text)) (λ u. run u ps)) n.0
    ∙ ap (λ x. follow p.column (begun l x (variable_of t.text.now)) (λ u. run u ps)) (sym e)
    ∙ ap (λ o. follow p.column o (λ u. run u ps)) b
    ∙ ap (run s) (sym n.1)
    ∙ took_run operand_spelt mid o after s k h g

-- `=` and then a token other than `get`
module _ (ps mid rest : List Piece) (t : Token) (u : Unit {0}) (v : Variable) (first : Took (exactly (codes "=")) ps (Ok u) mid) (next : Gave mid (Ok t) rest) (other : keyword_of t.text.now ≡ Some Get → ⊥) where
  after_equals : (l : Label) → run (setting l v) ps ≡ run (sourcing l v) mid
  after_equals l = took_run (exactly (codes "=")) ps u mid (setting l v) (λ x. sourcing l v) (λ x. refl) first

  sourcing_step : (m : List Piece) → Gave m (Ok t) rest → (l : Label) (o : Option (Operand ℤ)) → o ≡ operand_spelt t.text.now → run (sourcing l v) m ≡ follow t.column (option_map (held l v) o) (λ x. run x rest)
  sourcing_step [] g l o e = absurd g
  sourcing_step (p ∷ m) g l o e =
      ap (λ (x : Piece). follow x.column (step (sourcing l v) x.text) (λ y. run y m)) g.0
      ∙ ap (λ y. follow t.column y (λ x. run x m)) (source_step l v t.text.now o other (sym e))
      ∙ ap (λ (m : List Piece). follow t.column (option_map (held l v) o) (λ x. run x m)) (sym g.1)

  pub assigned_none : None ≡ operand_spelt t.text.now → (l : Label) → run (setting l v) ps ≡ Err (At t.column)
  assigned_none e l = after_equals l ∙ sourcing_step mid next l None e

  pub assigned : (o : Operand ℤ) (r : Result (Action ℤ) Stop) (after : List Piece) → Some o ≡ operand_spelt t.text.now → Joined v o rest r after → Assigned v ps r after
  assigned o (Ok a) after e j = λ l. after_equals l ∙ sourcing_step mid next l (Some o) e ∙ j l
  assigned o (Err c) after e j = λ l. after_equals l ∙ sourcing_step mid next l (Some o) e ∙ j l
