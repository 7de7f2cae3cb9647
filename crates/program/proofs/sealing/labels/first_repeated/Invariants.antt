use Rattle.std.proofs.Common.{◌≡◌, ℕ, suc, ◌<◌, take}
use Rattle.wellformed.specs.Faults.{Repeated, Fits}
use Rattle.program.specs.Asked.{asks}
use Rattle.program.specs.Refusals.{labels_of}
use Rattle.program.proofs.sealing.labels.first_repeated.Given as goal

abbrev pub invariant-loop-number : goal.invariant-loop-number
invariant-loop-number l =
    (l.labels.items ≡ labels_of (take l.number l.lines))
    × (l.labels.room ≡ l.initial.labels.room)
    × ((k : ℕ) → k < l.number → Fits asks l.lines Repeated (suc k) → ⊥)
