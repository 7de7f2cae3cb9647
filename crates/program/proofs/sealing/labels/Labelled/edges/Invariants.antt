use Rattle.std.proofs.Common.{◌≡◌, take}
use Rattle.wellformed.specs.Lines.{edges_from}
use Rattle.program.specs.Asked.{asks}
use Rattle.program.proofs.sealing.labels.Labelled.edges.Given as goal

abbrev pub invariant-loop-number : goal.invariant-loop-number
invariant-loop-number l = l.edges.items ≡ edges_from asks l.self.lines.now 0 (take l.number l.self.lines.now)
