-- The states that the tokens of a line lead through, and what each reader of a part does to them. Assumes nothing.
use Rattle.std.specs.Prelude.{◌≡◌, ℕ, ◌+◌, List, [], ◌∷◌, length, ℤ, Some, None, Ok, Err, codes, Option, Result}
use Rattle.std.specs.Option.{option_map}
use Rattle.line.specs.declared.cursor.Token.{Token}
use Rattle.line.specs.declared.label.Label.{Label}
use Rattle.line.specs.declared.parse.Head.{Head}
use Rattle.line.specs.declared.parse.Head.TheVariants as head
use Rattle.line.specs.declared.parse.Stop.{Stop}
use Rattle.line.specs.declared.parse.Stop.TheVariants.{At, TooEarly}
use Rattle.line.specs.declared.syntax.Action.{Action}
use Rattle.line.specs.declared.syntax.Action.TheVariants as act
use Rattle.line.specs.declared.syntax.Line.{Line}
use Rattle.line.specs.declared.syntax.Operand.{Operand}
use Rattle.line.specs.declared.syntax.Operator.{Operator}
use Rattle.line.specs.declared.syntax.Statement.{Statement}
use Rattle.line.specs.declared.syntax.Statement.TheVariants as says
use Rattle.line.specs.declared.variable.Variable.{Variable}
use Rattle.line.specs.declared.word.Keyword.{Keyword}
use Rattle.line.specs.declared.word.Keyword.TheVariants.{Pass, Halt, If, Get, Put}
use Rattle.line.specs.Cursors.{piece_of}
use Rattle.line.specs.Pieces.{Piece, pieces}
use Rattle.line.specs.Words.{Text, exactly, keyword_of, operator_spelt, label_of, variable_of, operand_spelt}

-- what the tokens so far have said, with an example of each
pub data State : Type 0 where
  -- nothing
  start : State
  -- join
  named : Label → State
  -- join e
  setting : Label → Variable → State
  -- join e =
  sourcing : Label → Variable → State
  -- join e = n
  held : Label → Variable → Operand ℤ → State
  -- join e = n -
  joining : Label → Variable → Operand ℤ → Operator → State
  -- out put
  putting : Label → State
  -- test if
  testing : Label → State
  -- join e = n - s, and no more can follow but the arrow
  acted : Label → Action ℤ → State
  -- test if n
  tested : Label → Operand ℤ → State
  -- join e = n - s ->
  leading : Label → Action ℤ → State
  -- test if n ->
  branching : Label → Operand ℤ → State
  -- test if n -> left
  forking : Label → Operand ℤ → Label → State
  -- a whole line
  done : Line ℤ → State

abbrev pub line : Label → Statement ℤ → Line ℤ
line l s = record { label = l; statement = s }

-- the first token of a statement
abbrev pub begun : Label → Option Keyword → Option Variable → Option State
begun l (Some Pass) v = Some (acted l act.Pass)
begun l (Some Halt) v = Some (done (line l says.Halt))
begun l (Some If) v = Some (testing l)
begun l (Some Put) v = Some (putting l)
begun l (Some Get) v = None
begun l None v = option_map (setting l) v

-- the token after `v =`
abbrev pub sourced : Label → Variable → Option Keyword → Option (Operand ℤ) → Option State
sourced l v (Some Get) o = Some (acted l (act.Get v))
sourced l v (Some Pass) o = option_map (held l v) o
sourced l v (Some Halt) o = option_map (held l v) o
sourced l v (Some If) o = option_map (held l v) o
sourced l v (Some Put) o = option_map (held l v) o
sourced l v None o = option_map (held l v) o

abbrev pub either_op : Option Operator → (Operator → State) → Option State → Option State
either_op (Some p) f s = Some (f p)
either_op None f s = s

-- where a token leads, if any line has it there
abbrev pub step : State → Text → Option State
step start t = option_map named (label_of t)
step (named l) t = begun l (keyword_of t) (variable_of t)
step (setting l v) t = option_map (λ u. sourcing l v) (exactly (codes "=") t)
step (sourcing l v) t = sourced l v (keyword_of t) (operand_spelt t)
step (held l v o) t = either_op (operator_spelt t) (joining l v o) (option_map (λ u. leading l (act.Set v o)) (exactly (codes "->") t))
step (joining l v o p) t = option_map (λ b. acted l (act.Compute v o p b)) (operand_spelt t)
step (putting l) t = option_map (λ o. acted l (act.Put o)) (operand_spelt t)
step (testing l) t = option_map (λ o. tested l o) (operand_spelt t)
step (acted l a) t = option_map (λ u. leading l a) (exactly (codes "->") t)
step (tested l o) t = option_map (λ u. branching l o) (exactly (codes "->") t)
step (leading l a) t = option_map (λ n. done (line l (says.Then a n))) (label_of t)
step (branching l o) t = option_map (λ a. forking l o a) (label_of t)
step (forking l o a) t = option_map (λ b. done (line l (says.If o a b))) (label_of t)
step (done x) t = None

-- where the tokens end
abbrev pub closed : State → Result (Line ℤ) Stop
closed (done x) = Ok x
closed start = Err TooEarly
closed (named l) = Err TooEarly
closed (setting l v) = Err TooEarly
closed (sourcing l v) = Err TooEarly
closed (held l v o) = Err TooEarly
closed (joining l v o p) = Err TooEarly
closed (putting l) = Err TooEarly
closed (testing l) = Err TooEarly
closed (acted l a) = Err TooEarly
closed (tested l o) = Err TooEarly
closed (leading l a) = Err TooEarly
closed (branching l o) = Err TooEarly
closed (forking l o a) = Err TooEarly

abbrev pub follow : ℕ → Option State → (State → Result (Line ℤ) Stop) → Result (Line ℤ) Stop
follow c None f = Err (At c)
follow c (Some s) f = f s

-- the line that the tokens spell, or the first token that no line has there, or that they stop too early
abbrev pub run : State → List Piece → Result (Line ℤ) Stop
run s [] = closed s
run s (p ∷ ps) = follow p.column (step s p.text) (λ t. run t ps)

-- a stop as a column, at a text that ends before the column `end`
abbrev pub column_of : ℕ → Stop → ℕ
column_of end (At c) = c
column_of end TooEarly = end

abbrev pub placed : ℕ → Result (Line ℤ) Stop → Result (Line ℤ) ℕ
placed end (Ok x) = Ok x
placed end (Err s) = Err (column_of end s)

-- the answer at a whole text
abbrev pub parsed : Text → Result (Line ℤ) ℕ
parsed bs = placed (1 + length bs) (run start (pieces 1 bs))

-- the first token ahead
abbrev pub Gave : List Piece → Result Token Stop → List Piece → Type 0
Gave [] (Ok t) after = ⊥
Gave [] (Err s) after = (s ≡ TooEarly) × (after ≡ [])
Gave (p ∷ ps) (Ok t) after = (p ≡ piece_of t) × (after ≡ ps)
Gave (p ∷ ps) (Err s) after = ⊥

-- what the first token ahead is by a test that gives the results in R
abbrev pub TookBy : {A : Type 0} → (Text → Option A → Type 0) → List Piece → Result A Stop → List Piece → Type 0
TookBy R [] (Ok a) after = ⊥
TookBy R [] (Err s) after = s ≡ TooEarly
TookBy R (p ∷ ps) (Ok a) after = R p.text (Some a) × (after ≡ ps)
TookBy R (p ∷ ps) (Err s) after = R p.text None × (s ≡ At p.column)

pub record Takes {A : Type 0} (R : Text → Option A → Type 0) (ps : List Piece) (r : Result A Stop) (after : List Piece) : Type 0 where
  pub first : TookBy R ps r after

-- what it is by the test f
abbrev pub Took : {A : Type 0} → (Text → Option A) → List Piece → Result A Stop → List Piece → Type 0
Took f ps r after = TookBy (λ t o. f t ≡ o) ps r after

-- after a statement, before its successors
abbrev pub afterwards : Label → Head → State
afterwards l (head.Act a) = acted l a
afterwards l (head.Test o) = tested l o
afterwards l head.Halt = done (line l says.Halt)

-- the tokens lead from one state to another, whatever the label, or to a refusal
abbrev pub Leads : {A : Type 0} → (Label → State) → (A → Label → State) → List Piece → Result A Stop → List Piece → Type 0
Leads from to ps (Ok a) after = (l : Label) → run (from l) ps ≡ run (to a l) after
Leads from to ps (Err s) after = (l : Label) → run (from l) ps ≡ Err s

abbrev pub Stated : List Piece → Result Head Stop → List Piece → Type 0
Stated ps r after = Leads named (λ h l. afterwards l h) ps r after

abbrev pub Assigned : Variable → List Piece → Result (Action ℤ) Stop → List Piece → Type 0
Assigned v ps r after = Leads (λ l. setting l v) (λ a l. acted l a) ps r after

abbrev pub Joined : Variable → Operand ℤ → List Piece → Result (Action ℤ) Stop → List Piece → Type 0
Joined v o ps r after = Leads (λ l. held l v o) (λ a l. acted l a) ps r after

abbrev pub Pointed : Head → List Piece → Result (Statement ℤ) Stop → List Piece → Type 0
Pointed h ps r after = Leads (λ l. afterwards l h) (λ s l. done (line l s)) ps r after
