use lib.Bits.{or_lt}
use Rattle.facts.proofs.set.Set64.union.Goals as goal

pub invariant_of-result : goal.invariant_of-result
invariant_of-result c = record { ok = or_lt 64 c.args.self.bits c.args.other.bits c.args.self.ok c.args.other.ok }
