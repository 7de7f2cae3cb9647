-- What is answered to a text: a line, or the first refusal that fits. Assumes nothing.
use Rattle.std.specs.Prelude.{◌≡◌, ℕ, ◌+◌, ◌<◌, ◌≤◌, cond, ◌⊎◌, List, [], ◌∷◌, ◌++◌, map, length, ℤ, Some, None, Ok, Err, Option, Result, ◌≢◌, nat_lt}
use Rattle.fault.specs.declared.Flaw.{Flaw}
use Rattle.fault.specs.Table.{flaw_at}
use Rattle.fault.specs.declared.Kind.TheVariants.{TooLong, ForeignByte, NotALine, OutOfRange}
use Rattle.line.specs.declared.syntax.Line.{Line}
use Rattle.line.specs.Classes.{foreign_at}
use Rattle.line.specs.Grammar.{spell, Wide, Proper}
use Rattle.line.specs.Pieces.{Piece, pieces}
use Rattle.line.specs.Ranges.{beyond_at}
use Rattle.line.specs.States.{parsed}
use Rattle.line.specs.Words.{Text}

-- a text that has the shape of a line, by the column of the first number out of range
abbrev pub ranged : Line ℤ → Option ℕ → Result (Line ℤ) Flaw
ranged x None = Ok x
ranged x (Some c) = Err (flaw_at OutOfRange c)

-- a clean text, by what its tokens spell or where they stop to begin a line
abbrev pub spelt : Text → Result (Line ℤ) ℕ → Result (Line ℤ) Flaw
spelt bs (Err c) = Err (flaw_at NotALine c)
spelt bs (Ok x) = ranged x (beyond_at (pieces 1 bs))

-- a text of at most 80 bytes, by the column of the first foreign byte
abbrev pub clean : Text → Option ℕ → Result (Line ℤ) Flaw
clean bs (Some c) = Err (flaw_at ForeignByte c)
clean bs None = spelt bs (parsed bs)

-- too long, then a foreign byte, then not a line, then a number out of range, then a line
abbrev pub reading : Text → Result (Line ℤ) Flaw
reading bs = cond (nat_lt 80 (length bs)) (Err (flaw_at TooLong 81)) (clean bs (foreign_at 1 bs))

-- The same in the grammar's own words.

-- the tokens of a text: its longest runs without spaces
abbrev pub texts : List Piece → List Text
texts ps = map (λ p. p.text) ps

abbrev pub tokens : Text → List Text
tokens bs = texts (pieces 1 bs)

-- at most 80 bytes, none foreign
abbrev pub Clean : Text → Type 0
Clean bs = (length bs ≤ 80) × (foreign_at 1 bs ≡ None)

-- the tokens begin some line, if every number of at most ten digits counts as one
pub record Begins (ts : List Text) : Type 0 where
  pub whole : Line ℤ
  pub wide : Wide whole
  pub more : List Text
  pub goes_on : spell whole ≡ ts ++ more

-- the tokens before this one begin a line, and with it they begin none
pub record AtToken (ps : List Piece) (c : ℕ) : Type 0 where
  pub front : List Piece
  pub bad : Piece
  pub back : List Piece
  pub split : ps ≡ front ++ bad ∷ back
  pub column_is : c ≡ bad.column
  pub viable : Begins (texts front)
  pub stuck : Begins (texts front ++ bad.text ∷ []) → ⊥

-- all the tokens begin a line, and they spell none
pub record AtEnd (end : ℕ) (ps : List Piece) (c : ℕ) : Type 0 where
  pub column_is : c ≡ end
  pub viable : Begins (texts ps)
  pub short : (x : Line ℤ) → Wide x → spell x ≢ texts ps

-- the tokens spell a line, if every number of at most ten digits counts as one
pub record Shaped (ts : List Text) : Type 0 where
  pub whole : Line ℤ
  pub wide : Wide whole
  pub spelt_by : ts ≡ spell whole

-- what each refusal says of the text
pub data Refused (bs : Text) (f : Flaw) : Type 0 where
  too_long : f ≡ flaw_at TooLong 81 → 80 < length bs → Refused bs f
  foreign : (c : ℕ) → f ≡ flaw_at ForeignByte c → length bs ≤ 80 → foreign_at 1 bs ≡ Some c → Refused bs f
  not_a_line : (c : ℕ) → f ≡ flaw_at NotALine c → Clean bs → AtToken (pieces 1 bs) c ⊎ AtEnd (1 + length bs) (pieces 1 bs) c → Refused bs f
  out_of_range : (c : ℕ) → f ≡ flaw_at OutOfRange c → Clean bs → Shaped (tokens bs) → beyond_at (pieces 1 bs) ≡ Some c → Refused bs f

-- the line is one whose numbers are in range, and whose tokens these are
abbrev pub Spells : Text → Line ℤ → Type 0
Spells bs x = Clean bs × Proper x × (tokens bs ≡ spell x)

abbrev pub Answers : Text → Result (Line ℤ) Flaw → Type 0
Answers bs (Ok x) = Spells bs x
Answers bs (Err f) = Refused bs f

-- a line is answered if and only if the tokens spell it; else the first refusal that fits
pub record Reads (bs : Text) (r : Result (Line ℤ) Flaw) : Type 0 where
  pub answers : Answers bs r
  pub complete : (x : Line ℤ) → Spells bs x → r ≡ Ok x

-- a text is clean, or its flaw is the answer to it
abbrev pub Sorts : Text → Result (Unit {0}) Flaw → Type 0
Sorts bs (Ok u) = Clean bs
Sorts bs (Err f) = (Err f ≡ reading bs) × Reads bs (Err f)
