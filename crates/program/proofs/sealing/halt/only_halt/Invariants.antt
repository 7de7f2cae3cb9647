use Rattle.std.proofs.Common.{◌≡◌, take}
use Rattle.program.proofs.Halting.{halt_of, Passed}
use Rattle.program.proofs.sealing.halt.only_halt.Given as goal

abbrev pub invariant-loop-number : goal.invariant-loop-number
invariant-loop-number l = (l.halt ≡ halt_of (take l.number l.lines)) × Passed l.lines l.number
