-- The plain list of lines, and what each call does to it. Assumes nothing.
use Rattle.std.specs.Prelude.{◌≡◌, ℕ, ◌+◌, ◌-◌, ◌≤◌, Bool, cond, ◌||◌, List, [], ◌∷◌, ◌++◌, length, take, drop, ℤ, Some, None, Ok, Err, Option, Result, ◌==◌, nat_le, nat_lt, slice_set}
use Rattle.std.specs.List.{slice_get}
use Rattle.fault.specs.declared.Fault.{Fault}
use Rattle.fault.specs.declared.Flaw.{Flaw}
use Rattle.fault.specs.declared.Kind.TheVariants.{DraftFull, NoSuchLine, ShortBuffer}
use Rattle.fault.specs.Table.{placed, plain_fault}
use Rattle.line.specs.declared.syntax.Line.{Line}
use Rattle.line.specs.Grammar.{printed}
use Rattle.line.specs.Readings.{reading}
use Rattle.line.specs.Words.{Text}

abbrev pub Lines : Type 0
Lines = List (Line ℤ)

-- what a call answers, and the lines that it leaves
pub record Outcome : Type 0 where
  pub answer : Result ℕ Fault
  pub lines : Lines

abbrev pub accepts : ℕ → Lines → Outcome
accepts k after = record { answer = Ok k; lines = after }

-- a refusal leaves the lines as they were
abbrev pub refuses : Fault → Lines → Outcome
refuses f ls = record { answer = Err f; lines = ls }

-- where the text reads as a line, go on with it; else the flaw, as one of line n
abbrev pub with_line : ℕ → Lines → Result (Line ℤ) Flaw → (Line ℤ → Outcome) → Outcome
with_line n ls (Err f) k = refuses (placed f n) ls
with_line n ls (Ok x) k = k x

-- there is no line of that number
abbrev pub absent : ℕ → Lines → Bool
absent n ls = n == 0 || nat_lt (length ls) n

-- add: a flaw of the text, else a full draft, else the line goes last
abbrev pub added : Text → Lines → Outcome
added t ls =
    with_line (length ls + 1) ls (reading t) (λ x. cond (nat_le 96 (length ls)) (refuses (plain_fault DraftFull (length ls + 1)) ls) (accepts (length ls + 1) (ls ++ x ∷ [])))

-- mend: no such line, else a flaw of the text, else the new line stands there
abbrev pub mended : ℕ → Text → Lines → Outcome
mended n t ls = cond (absent n ls) (refuses (plain_fault NoSuchLine n) ls) (with_line n ls (reading t) (λ x. accepts n (slice_set ls (n - 1) x)))

-- strike: no line, else the last line goes
abbrev pub struck : Lines → Outcome
struck ls = cond (length ls == 0) (refuses (plain_fault NoSuchLine 0) ls) (accepts (length ls) (take (length ls - 1) ls))

-- the call answered and left what the plain list does
abbrev pub Answered : Outcome → Result ℕ Fault → Lines → Type 0
Answered o r after = (r ≡ o.answer) × (after ≡ o.lines)

-- printing line n: no such line, else too short a buffer, else its text at the buffer's start
abbrev pub printing : ℕ → Option (Line ℤ) → Text → Result ℕ Fault × Text
printing n None before = (Err (plain_fault NoSuchLine n), before)
printing n (Some x) before = cond (nat_lt (length before) (length (printed x))) (Err (plain_fault ShortBuffer n), before) (Ok (length (printed x)), printed x ++ drop (length (printed x)) before)

-- the line of that number, counted from 1
abbrev pub line_at : ℕ → Lines → Option (Line ℤ)
line_at n ls = cond (absent n ls) None (slice_get ls (n - 1))

-- the call answered that, and left that in the buffer
abbrev pub PrintsLine : ℕ → Lines → Text → Result ℕ Fault → Text → Type 0
PrintsLine n ls before r after = (r ≡ (printing n (line_at n ls) before).0) × (after ≡ (printing n (line_at n ls) before).1)

-- a line that is printed has at most 51 bytes, and reads back as that line
abbrev pub ReadsBack : Line ℤ → Type 0
ReadsBack x = (length (printed x) ≤ 51) × (reading (printed x) ≡ Ok x)
