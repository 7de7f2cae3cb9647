-- What sealing asks of lines, and the program that they make. Assumes nothing.
use Rattle.std.specs.Prelude.{◌≡◌, ℕ, zero, suc, ◌≤◌, Bool, false, not, ◌||◌, T, List, [], ◌∷◌, ◌++◌, map, length, Some, None, Option}
use Rattle.graph.specs.declared.edge.Edge.{Edge}
use Rattle.graph.specs.Edges.{edge_shape}
use Rattle.graph.specs.Shapes.{Shape}
use Rattle.numbering.specs.Numbers.{Laws, unless, known, number, firsts}

-- of each line x: its label, the labels of its successors in their order, whether it halts, and the expression that it computes;
-- and when two labels, or two expressions, are the same
pub record Questions (X L E : Type 0) : Type 0 where
  pub label : X → L
  pub nexts : X → List L
  pub halts : X → Bool
  pub computes : X → Option E
  pub same_label : L → L → Bool
  pub same_expression : E → E → Bool

-- what holds of the lines that can be read: sameness has its laws, a halting line has no successor and computes nothing, no line has more than two
pub record Lawful {X L E : Type 0} (q : Questions X L E) : Type 0 where
  pub labels : Laws q.same_label
  pub expressions : Laws q.same_expression
  pub ending : (x : X) → T (q.halts x) → q.nexts x ≡ []
  pub silent : (x : X) → T (q.halts x) → q.computes x ≡ None
  pub two : (x : X) → length (q.nexts x) ≤ 2

-- the test p on line k, counted from 0; false where no line is
abbrev pub at : {X : Type 0} → (X → Bool) → List X → ℕ → Bool
at p [] k = false
at p (x ∷ d) zero = p x
at p (x ∷ d) (suc k) = at p d k

-- e in front, if there is one
abbrev pub onto : {E : Type 0} → Option E → List E → List E
onto None l = l
onto (Some e) l = e ∷ l

-- edges from i to each of a list
abbrev pub fan : ℕ → List ℕ → List Edge
fan i [] = []
fan i (h ∷ hs) = record { tail = i; head = h } ∷ fan i hs

module _ {X L E : Type 0} (q : Questions X L E) where
  -- the label a stands on a line
  abbrev pub labelled : L → List X → Bool
  labelled a d = known q.same_label a (map q.label d)

  -- the line with the label a: how many lines stand before the first that has it
  abbrev pub place : L → List X → ℕ
  place a d = number q.same_label a (map q.label d)

  -- one of the labels stands on no line
  abbrev pub dangles : List X → List L → Bool
  dangles d [] = false
  dangles d (a ∷ ls) = not (labelled a d) || dangles d ls

  -- the lines with these labels
  abbrev pub targets : List X → List L → List ℕ
  targets d ls = map (λ a. place a d) ls

  -- the labels that line k leads to
  abbrev pub nexts_at : List X → ℕ → List L
  nexts_at [] k = []
  nexts_at (x ∷ d) zero = q.nexts x
  nexts_at (x ∷ d) (suc k) = nexts_at d k

  -- the edges from the lines xs, the first of which is line i of d: by tail, then by place among the successors
  abbrev pub edges_from : List X → ℕ → List X → List Edge
  edges_from d i [] = []
  edges_from d i (x ∷ xs) = fan i (targets d (q.nexts x)) ++ edges_from d (suc i) xs

  abbrev pub edges_of_lines : List X → List Edge
  edges_of_lines d = edges_from d 0 d

  -- some line halts
  abbrev pub halting : List X → Bool
  halting [] = false
  halting (x ∷ d) = q.halts x || halting d

  -- the exit: how many lines stand before the first that halts
  abbrev pub exit_of : List X → ℕ
  exit_of [] = 0
  exit_of (x ∷ d) = unless (q.halts x) (exit_of d)

  -- the graph of the lines: each successor is an edge, line 0 is the entry and the halting line the exit
  abbrev pub graph_of : List X → Shape
  graph_of d = edge_shape (length d) 0 (exit_of d) (edges_of_lines d)

  -- what the lines compute, in their order
  abbrev pub computed : List X → List E
  computed [] = []
  computed (x ∷ d) = onto (q.computes x) (computed d)

  -- the different expressions, by their numbers
  abbrev pub expressions_of : List X → List E
  expressions_of d = firsts q.same_expression (computed d)
