-- The labels of successors. Assumes nothing.
use Rattle.std.specs.Prelude.{List, []}
use Rattle.line.specs.declared.label.Label.{Label}
use Rattle.program.specs.declared.successors.Successors.{Successors}
use Rattle.program.specs.declared.successors.Successors.TheVariants.{Nowhere, One, Two}

abbrev pub labels_in : Successors → List Label
labels_in Nowhere = []
labels_in (One ls) = ls
labels_in (Two ls) = ls
