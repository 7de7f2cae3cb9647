-- A sealed program by its lines, and what sealing does to it. Assumes nothing.
use Rattle.std.specs.Prelude.{◌≡◌, ℕ, [], ◌∷◌, ℤ, Some, None, Ok, Err, vec_items, codes, Option, Result}
use Rattle.std.specs.List.{slice_get}
use Rattle.fault.specs.declared.Fault.{Fault}
use Rattle.fault.specs.Table.{plain_fault}
use Rattle.graph.specs.Shapes.{Shape}
use Rattle.line.specs.declared.syntax.Line.{Line}
use Rattle.line.specs.Readings.{reading}
use Rattle.wellformed.specs.Faults.{Faultless}
use Rattle.wellformed.specs.Lines.{graph_of}
use Rattle.wellformed.specs.Programs.{Sound}
use Rattle.wellformed.specs.Verdicts.{Refusal, verdict}
use Rattle.program.specs.declared.sealed.Sealed.{Sealed}
use Rattle.program.specs.Asked.{asks}
use Rattle.program.specs.Refusals.{kind_of, Refused}
use Rattle.program.specs.Written.{Lines, numbers_in}

-- the lines of a program
abbrev pub lines_of : Sealed → Lines
lines_of p = vec_items p.lines

-- the one line that `end halt` reads as
pub record EndHalt (ls : Lines) : Type 0 where
  pub line : Line ℤ
  pub reads : reading (codes "end halt") ≡ Ok line
  pub only : ls ≡ line ∷ []

-- the graph of a program: each successor label is an edge to the line that has it
abbrev pub shape_of : Sealed → Shape
shape_of p = graph_of asks (lines_of p)

-- the number of the expression that line k computes
abbrev pub flat : Option (Option ℕ) → Option ℕ
flat None = None
flat (Some n) = n

abbrev pub number_at : Lines → ℕ → Option ℕ
number_at ls k = flat (slice_get (numbers_in ls) k)

-- what sealing answers, and the lines of the program after
pub record Outcome : Type 0 where
  pub answer : Result (Unit {0}) Fault
  pub lines : Lines

-- the draft's lines, or a refusal that leaves the program as it was
abbrev pub sealed_by : Option Refusal → Lines → Lines → Outcome
sealed_by None ls before = record { answer = Ok tt; lines = ls }
sealed_by (Some r) ls before = record { answer = Err (plain_fault (kind_of r.fault) r.line); lines = before }

abbrev pub sealing : Lines → Lines → Outcome
sealing ls before = sealed_by (verdict asks ls) ls before

abbrev pub Answered : Outcome → Result (Unit {0}) Fault → Lines → Type 0
Answered o r after = (r ≡ o.answer) × (after ≡ o.lines)

-- sealing is refused with the first fault that fits the draft's lines; or no fault fits them, they are a sound program, and they are the program now
abbrev pub Seals : Lines → Lines → Result (Unit {0}) Fault → Lines → Type 0
Seals ls before (Ok u) after = Faultless asks ls × Sound asks ls × (after ≡ ls)
Seals ls before (Err f) after = Refused ls f × (after ≡ before)
