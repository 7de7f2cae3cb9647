use Rattle.std.proofs.Common.{◌≡◌, ◌++◌, take}
use Rattle.wellformed.specs.Lines.{fan}
use Rattle.program.specs.Refusals.{places_of}
use Rattle.program.proofs.sealing.labels.Labelled.put_edges.Given as goal

abbrev pub invariant-loop-label : goal.invariant-loop-label
invariant-loop-label l = l.edges.items ≡ l.initial.edges.items ++ fan l.number (places_of l.self.labels.items (take l.label-index l.label-items))
