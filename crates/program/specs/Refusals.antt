-- What sealing answers. Assumes nothing.
use Rattle.std.specs.Prelude.{◌≡◌, ℕ, zero, suc, ◌<◌, Bool, true, false, ◌&&◌, ◌||◌, T, List, [], ◌∷◌, map, Some, None, Option, ◌==◌}
use Rattle.fault.specs.declared.Fault.{Fault}
use Rattle.fault.specs.declared.Kind.{Kind}
use Rattle.fault.specs.declared.Kind.TheVariants.{NoLines, RepeatedLabel, UnknownSuccessor, NotOneHalt, EdgeToEntry, Unreachable, DeadEnd, TooManyExpressions}
use Rattle.fault.specs.Table.{plain_fault}
use Rattle.line.specs.declared.label.Label.{Label}
use Rattle.line.specs.Words.{same_label}
use Rattle.numbering.specs.Numbers.{known, number, number_in}
use Rattle.wellformed.specs.Faults.{Fault as SealFault, Empty, Repeated, Dangling, Halts, Enters, Unreached, Stuck, Crowded, First}
use Rattle.wellformed.specs.Lines.{at}
use Rattle.program.specs.Asked.{asks, nexts}
use Rattle.program.specs.Written.{Lines}

abbrev pub kind_of : SealFault → Kind
kind_of Empty = NoLines
kind_of Repeated = RepeatedLabel
kind_of Dangling = UnknownSuccessor
kind_of Halts = NotOneHalt
kind_of Enters = EdgeToEntry
kind_of Unreached = Unreachable
kind_of Stuck = DeadEnd
kind_of Crowded = TooManyExpressions

-- the refusal is the first fault that fits the lines, at the lowest line; it has no column
pub record Refused (ls : Lines) (f : Fault) : Type 0 where
  pub fault : SealFault
  pub line : ℕ
  pub first : First asks ls fault line
  pub named : f ≡ plain_fault (kind_of fault) line

-- the lowest k such that F holds of line k + 1, if there is one
abbrev pub LowestLine : (ℕ → Type 0) → Option ℕ → Type 0
LowestLine F None = (k : ℕ) → F (suc k) → ⊥
LowestLine F (Some k) = F (suc k) × ((m : ℕ) → m < k → F (suc m) → ⊥)

-- the labels of the lines
abbrev pub labels_of : Lines → List Label
labels_of ls = map (λ x. x.label) ls

abbrev pub same_line_number : Option ℕ → Option ℕ → Bool
same_line_number None None = true
same_line_number None (Some n) = false
same_line_number (Some m) None = false
same_line_number (Some m) (Some n) = m == n

-- one of the labels stands on the line `to`, or on none
abbrev pub one_leads : Lines → Option ℕ → List Label → Bool
one_leads ls to [] = false
one_leads ls to (a ∷ rest) = same_line_number (number_in same_label a (labels_of ls)) to || one_leads ls to rest

-- so does a successor label of line n, counted from 1
abbrev pub Leads : Lines → Option ℕ → ℕ → Type 0
Leads ls to zero = ⊥
Leads ls to (suc k) = T (at (λ x. one_leads ls to (nexts x)) ls k)

-- each of the labels is one of the items
abbrev pub every_known : List Label → List Label → Bool
every_known items [] = true
every_known items (a ∷ rest) = known same_label a items && every_known items rest

-- the places of the labels among the items
abbrev pub places_of : List Label → List Label → List ℕ
places_of items ks = map (λ a. number same_label a items) ks
