use Rattle.std.proofs.Common.{Some, refl, ap}
use Rattle.facts.specs.Levels.{level_ext}
use Rattle.flow.proofs.distance.DistanceProblem.at_entry.Goals as goal

pub returns : goal.returns
returns c = ap Some (level_ext _ _ refl)
