use Rattle.wellformed.proofs.Verdict.{right}
use Rattle.wellformed.proofs.verdict_right.Goals as goal

pub returns : goal.returns
returns g c q laws d = right q laws d
