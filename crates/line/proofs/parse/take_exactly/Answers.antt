use Rattle.std.proofs.Common.{rules}
use Rattle.line.specs.Words.{exactly}
use Rattle.line.proofs.Runs.{took}
use Rattle.line.proofs.parse.take_exactly.Goals as goal

pub returns : goal.returns
returns c = took (exactly c.args.spelling.now) c.take.ensures (λ t o k. search rules)
