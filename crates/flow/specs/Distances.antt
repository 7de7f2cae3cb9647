-- Depths of nodes: 0 at the entry, one more an edge, and no more than 1,000. Assumes nothing.
use Rattle.std.specs.Prelude.{◌+◌, min, Some, None}
use Rattle.std.proofs.Math.Nat.{min-le_right}
use Rattle.std.proofs.Common.{lit≤}
use Rattle.facts.specs.declared.depth.Level.{Level}
use Rattle.facts.specs.Depths.{Depth}

abbrev pub at_entry : Depth
at_entry = Some (record { at = 0; ok = lit≤ tt })

abbrev pub deeper : Level → Level
deeper l = record { at = min (l.at + 1) 1000; ok = min-le_right (l.at + 1) 1000 }

abbrev pub further : Depth → Depth
further (Some l) = Some (deeper l)
further None = None
