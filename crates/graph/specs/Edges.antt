-- Lists of edges, and the graph of one. Assumes nothing.
use Rattle.std.specs.Prelude.{ℕ, Bool, true, false, ◌&&◌, List, [], ◌∷◌, ◌==◌, nat_lt}
use Rattle.graph.specs.declared.edge.Edge.{Edge}
use Rattle.graph.specs.Shapes.{Shape}

-- x goes in front, if b
abbrev pub put : {A : Type 0} → Bool → A → List A → List A
put true x l = x ∷ l
put false x l = l

-- the heads of the edges from m, and the tails of those to n, one for each edge
abbrev pub heads_from : ℕ → List Edge → List ℕ
heads_from m [] = []
heads_from m (e ∷ es) = put (e.tail == m) e.head (heads_from m es)

abbrev pub tails_to : ℕ → List Edge → List ℕ
tails_to n [] = []
tails_to n (e ∷ es) = put (e.head == n) e.tail (tails_to n es)

abbrev pub turned_edge : Edge → Edge
turned_edge e = record { tail = e.head; head = e.tail }

-- every edge joins nodes below c
abbrev pub within : ℕ → List Edge → Bool
within c [] = true
within c (e ∷ es) = nat_lt e.tail c && (nat_lt e.head c && within c es)

-- the graph of the edges, with c nodes, the entry e and the exit x
abbrev pub edge_shape : ℕ → ℕ → ℕ → List Edge → Shape
edge_shape c e x es = record { count = c; entry = e; exit = x; succs = λ m. heads_from m es; preds = λ n. tails_to n es }
