use Rattle.std.proofs.Common.{◌≡◌, ℕ, suc, ◌<◌, take}
use Rattle.wellformed.specs.Faults.{Crowded, Fits}
use Rattle.program.specs.Asked.{asks}
use Rattle.program.specs.Written.{expressions_in}
use Rattle.program.proofs.sealing.expressions.first_crowding.Given as goal

abbrev pub invariant-loop-number : goal.invariant-loop-number
invariant-loop-number l =
    (l.table.items ≡ expressions_in (take l.number l.lines))
    × (l.table.room ≡ 64)
    × ((k : ℕ) → k < l.number → Fits asks l.lines Crowded (suc k) → ⊥)
