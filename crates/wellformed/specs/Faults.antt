-- What sealing refuses. Assumes nothing.
use Rattle.std.specs.Prelude.{◌≡◌, ℕ, zero, suc, ◌<◌, ◌&&◌, T, List, length, take}
use Rattle.graph.specs.Paths.{member, Reaches}
use Rattle.wellformed.specs.Lines.{Questions, at, labelled, dangles, halting, nexts_at, targets, exit_of, graph_of, expressions_of}

pub data Fault : Type 0 where
  Empty Repeated Dangling Halts Enters Unreached Stuck Crowded : Fault

-- the number of each
abbrev pub code : Fault → ℕ
code Empty = 7
code Repeated = 8
code Dangling = 9
code Halts = 10
code Enters = 11
code Unreached = 12
code Stuck = 13
code Crowded = 14

module _ {X L E : Type 0} (q : Questions X L E) where
  -- a fault fits the lines d, with the line that it names: lines are counted from 1 here, and 0 names none
  abbrev pub Fits : List X → Fault → ℕ → Type 0
  -- there are no lines
  Fits d Empty zero = length d ≡ 0
  Fits d Empty (suc k) = ⊥
  -- a label that an earlier line has
  Fits d Repeated zero = ⊥
  Fits d Repeated (suc k) = T (at (λ x. labelled q (q.label x) (take k d)) d k)
  -- a successor label that stands on no line
  Fits d Dangling zero = ⊥
  Fits d Dangling (suc k) = T (at (λ x. dangles q d (q.nexts x)) d k)
  -- no line halts; or this one does, and an earlier one
  Fits d Halts zero = T (halting q d) → ⊥
  Fits d Halts (suc k) = T (at (λ x. q.halts x && halting q (take k d)) d k)
  -- an edge leads to the first line
  Fits d Enters zero = ⊥
  Fits d Enters (suc k) = T (member 0 (targets q d (nexts_at q d k)))
  -- the first line cannot reach it
  Fits d Unreached zero = ⊥
  Fits d Unreached (suc k) = (k < length d) × (Reaches (graph_of q d) 0 k → ⊥)
  -- it cannot reach the halt
  Fits d Stuck zero = ⊥
  Fits d Stuck (suc k) = (k < length d) × (Reaches (graph_of q d) k (exit_of q d) → ⊥)
  -- it brings the 65th expression
  Fits d Crowded zero = ⊥
  Fits d Crowded (suc k) = (length (expressions_of q (take k d)) ≡ 64) × (length (expressions_of q (take (suc k) d)) ≡ 65)

  -- no fault of a lower number than c fits
  abbrev pub Clean : List X → ℕ → Type 0
  Clean d c = (g : Fault) (m : ℕ) → code g < c → Fits d g m → ⊥

  -- the fault that is answered: it fits, none of a lower number does, and it fits at no lower line
  pub record First (d : List X) (f : Fault) (n : ℕ) : Type 0 where
    pub fits : Fits d f n
    pub rising : Clean d (code f)
    pub lowest : (m : ℕ) → m < n → Fits d f m → ⊥

  abbrev pub Faultless : List X → Type 0
  Faultless d = (f : Fault) (n : ℕ) → Fits d f n → ⊥
