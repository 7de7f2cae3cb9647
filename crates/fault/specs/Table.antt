-- The table of refusals: the layer and the number of each. Assumes nothing.
use Rattle.std.specs.Prelude.{ℕ}
use Rattle.fault.specs.declared.Fault.{Fault}
use Rattle.fault.specs.declared.Flaw.{Flaw}
use Rattle.fault.specs.declared.Kind.{Kind}
use Rattle.fault.specs.declared.Kind.TheVariants.{TooLong, ForeignByte, NotALine, OutOfRange, DraftFull, NoSuchLine, NoLines, RepeatedLabel, UnknownSuccessor, NotOneHalt, EdgeToEntry, Unreachable, DeadEnd, TooManyExpressions, ShortBuffer}
use Rattle.fault.specs.declared.Layer.{Layer}
use Rattle.fault.specs.declared.Layer.TheVariants.{Text, Draft, Seal}

abbrev pub number_of : Kind → ℕ
number_of TooLong = 1
number_of ForeignByte = 2
number_of NotALine = 3
number_of OutOfRange = 4
number_of DraftFull = 5
number_of NoSuchLine = 6
number_of NoLines = 7
number_of RepeatedLabel = 8
number_of UnknownSuccessor = 9
number_of NotOneHalt = 10
number_of EdgeToEntry = 11
number_of Unreachable = 12
number_of DeadEnd = 13
number_of TooManyExpressions = 14
number_of ShortBuffer = 16

abbrev pub layer_of : Kind → Layer
layer_of TooLong = Text
layer_of ForeignByte = Text
layer_of NotALine = Text
layer_of OutOfRange = Text
layer_of DraftFull = Draft
layer_of NoSuchLine = Draft
layer_of NoLines = Seal
layer_of RepeatedLabel = Seal
layer_of UnknownSuccessor = Seal
layer_of NotOneHalt = Seal
layer_of EdgeToEntry = Seal
layer_of Unreachable = Seal
layer_of DeadEnd = Seal
layer_of TooManyExpressions = Seal
layer_of ShortBuffer = Text

-- what is wrong in one text, at a column of it
abbrev pub flaw_at : Kind → ℕ → Flaw
flaw_at k n = record { kind = k; column = n }

-- a flaw of the text on a line
abbrev pub placed : Flaw → ℕ → Fault
placed f n = record { kind = f.kind; line = n; column = f.column }

-- a refusal where no column has a meaning
abbrev pub plain_fault : Kind → ℕ → Fault
plain_fault k n = record { kind = k; line = n; column = 0 }
