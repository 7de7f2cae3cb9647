-- What nodes do to sets. Assumes nothing.
use Rattle.facts.specs.declared.set.Set64.{Set64}
use Rattle.facts.specs.Sets.{everything, common, either}
use Rattle.flow.specs.declared.gen_kill.Effect.{Effect}

-- some members are kept, and then some are added
abbrev pub affected : Effect → Set64 → Set64
affected e a = either (common a e.kept) e.added

-- the effect of what is no node
abbrev pub filling : Effect
filling = record { kept = everything; added = everything }
