-- The answer of sealing as a computed function of the lines. Assumes nothing.
use Rattle.std.specs.Prelude.{◌≡◌, ℕ, zero, suc, Bool, true, false, not, ◌&&◌, List, length, take, Some, None, Option, ◌==◌}
use Rattle.graph.specs.Paths.{member}
use Rattle.graph.specs.Shapes.{turned}
use Rattle.reach.specs.Near.{near}
use Rattle.wellformed.specs.Faults.{Fault, Empty, Repeated, Dangling, Halts, Enters, Unreached, Stuck, Crowded, First, Faultless}
use Rattle.wellformed.specs.Programs.{Sound}
use Rattle.wellformed.specs.Lines.{Questions, Lawful, at, labelled, dangles, halting, nexts_at, targets, graph_of, expressions_of}

-- a fault with the line that it names
pub record Refusal : Type 0 where
  pub fault : Fault
  pub line : ℕ

-- the first of k numbers from i on that passes
abbrev pub keep : Bool → ℕ → Option ℕ → Option ℕ
keep true i r = Some i
keep false i r = r

abbrev pub scan : (ℕ → Bool) → ℕ → ℕ → Option ℕ
scan p i zero = None
scan p i (suc k) = keep (p i) i (scan p (suc i) k)

abbrev pub found : Fault → Option ℕ → Option Refusal → Option Refusal
found f (Some n) rest = Some (record { fault = f; line = n })
found f None rest = rest

module _ {X L E : Type 0} (q : Questions X L E) where
  -- the test of each fault, where no fault of a lower number fits
  abbrev pub fitting : List X → Fault → ℕ → Bool
  fitting d Empty zero = length d == 0
  fitting d Empty (suc k) = false
  fitting d Repeated zero = false
  fitting d Repeated (suc k) = at (λ x. labelled q (q.label x) (take k d)) d k
  fitting d Dangling zero = false
  fitting d Dangling (suc k) = at (λ x. dangles q d (q.nexts x)) d k
  fitting d Halts zero = not (halting q d)
  fitting d Halts (suc k) = at (λ x. q.halts x && halting q (take k d)) d k
  fitting d Enters zero = false
  fitting d Enters (suc k) = member 0 (targets q d (nexts_at q d k))
  fitting d Unreached zero = false
  fitting d Unreached (suc k) = not (near (graph_of q d) (length d) k)
  fitting d Stuck zero = false
  fitting d Stuck (suc k) = not (near (turned (graph_of q d)) (length d) k)
  fitting d Crowded zero = false
  fitting d Crowded (suc k) = length (expressions_of q (take k d)) == 64 && length (expressions_of q (take (suc k) d)) == 65

  -- by rising number, each from the lowest line on
  abbrev pub pick : List X → Fault → Option Refusal → Option Refusal
  pick d f rest = found f (scan (fitting d f) 0 (suc (length d))) rest

  abbrev pub verdict : List X → Option Refusal
  verdict d = pick d Empty (pick d Repeated (pick d Dangling (pick d Halts (pick d Enters (pick d Unreached (pick d Stuck (pick d Crowded None)))))))

  -- what an answer says
  abbrev pub Answers : List X → Option Refusal → Type 0
  Answers d None = Faultless q d
  Answers d (Some r) = First q d r.fault r.line

-- theorem: the computed answer is the first fault that fits, and none if none does; and no other answer is. Lines that no fault fits are a sound program
pub record Right {X L E : Type 0} (q : Questions X L E) (d : List X) : Type 0 where
  pub answers : Answers q d (verdict q d)
  pub only : (r : Option Refusal) → Answers q d r → r ≡ verdict q d
  pub sound : Faultless q d → Sound q d

abbrev pub VerdictRight : Type 0 → Type 0 → Type 0 → Type 0
VerdictRight X L E = (q : Questions X L E) → Lawful q → (d : List X) → Right q d
