use Rattle.std.proofs.Common.{◌≡◌, subst, rules}
use Rattle.line.specs.Words.{label_of}
use Rattle.line.proofs.Runs.{took}
use Rattle.line.proofs.parse.take_label.Goals as goal

pub returns : goal.returns
returns c = took label_of c.take.ensures (λ t o k. subst (λ u. label_of u ≡ o) k.2 (search rules))
