use Rattle.std.proofs.lemmas.Nat.{one_shl}
use Rattle.facts.specs.Bitsets.{single_bit}
use Rattle.facts.proofs.set.Set64.single.Goals as goal

pub returns : goal.returns
returns c = (c.if-k-ge64.false, single_bit _ c.args.k (one_shl c.args.k 64 c.if-k-ge64.false))
