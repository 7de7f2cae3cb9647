-- What is left of a node's neighbours. Assumes nothing.
use Rattle.std.specs.Prelude.{ℕ, List, drop}
use Rattle.graph.specs.declared.neighbours.Neighbours.{Neighbours}
use Rattle.graph.specs.declared.neighbours.Direction.{Direction}
use Rattle.graph.specs.declared.neighbours.Direction.TheVariants.{Outgoing, Incoming}
use Rattle.graph.specs.Shapes.{Shape}

-- the neighbours of node n in that direction
abbrev pub listed : Shape → Direction → ℕ → List ℕ
listed s Outgoing n = s.succs n
listed s Incoming n = s.preds n

-- what is still to come, where the graph has that shape
abbrev pub ahead : {G : Type 0} → (G → Shape) → Neighbours G → List ℕ
ahead shape it = drop it.place (listed (shape it.graph.now) it.direction it.node)
