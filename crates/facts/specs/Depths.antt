-- Depths, by the smaller. Assumes nothing.
use Rattle.std.specs.Prelude.{Some, None, Option, cond, nat_lt}
use Rattle.facts.specs.declared.depth.Level.{Level}

-- a depth, or none where the node is not reached
abbrev pub Depth : Type 0
Depth = Option Level

abbrev pub lesser : Level → Level → Level
lesser a b = cond (nat_lt a.at b.at) a b

abbrev pub shallower : Depth → Depth → Depth
shallower (Some a) (Some b) = Some (lesser a b)
shallower (Some a) None = Some a
shallower None b = b
