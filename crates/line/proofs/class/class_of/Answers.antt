use Rattle.std.proofs.Common.{refl, rules}
use Rattle.line.specs.Classes.{class_by_rule}
use Rattle.line.specs.declared.class.Class.TheVariants.{Space}
use Rattle.line.proofs.Table.{at}
use Rattle.line.proofs.class.class_of.Goals as goal

pub returns : goal.returns
returns c = at class_by_rule Space 256 refl c.args.byte (search rules)
