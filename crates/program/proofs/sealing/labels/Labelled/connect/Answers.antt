use Rattle.std.proofs.Common.{◌≡◌, ℕ, length, Some, None, Option, ap, ◌∙◌, subst, arith}
use Rattle.graph.specs.Made.{shape_in}
use Rattle.graph.specs.Paths.{Reaches}
use Rattle.graph.specs.Shapes.{Shape}
use Rattle.reach.specs.Lowest.{Lowest}
use Rattle.wellformed.specs.Faults.{Enters, Unreached, Stuck, Fits, Clean}
use Rattle.wellformed.specs.Lines.{graph_of}
use Rattle.program.specs.Asked.{asks}
use Rattle.program.specs.Refusals.{LowestLine}
use Rattle.program.specs.Written.{Lines, exit_line}
use Rattle.program.proofs.Judging.{line_found, refuse, go_on, lowest_line, lowest_entering}
use Rattle.program.proofs.sealing.labels.Labelled.connect.Goals as goal
use Rattle.program.proofs.sealing.labels.Labelled.connect.Goals.{In_default, In_default-first_unreached, After-new-turned}

-- what the two searches in the graph say of the lines

unreached : (ls : Lines) (s : Shape) (r : Option ℕ) → s ≡ graph_of asks ls → Lowest (Reaches s s.entry) s.count r → LowestLine (Fits asks ls Unreached) r
unreached ls s r e h =
    lowest_line (Reaches (graph_of asks ls) 0) (Fits asks ls Unreached) (length ls) (λ k t. t) (λ k t. t) r (subst (λ (t : Shape). Lowest (Reaches t t.entry) t.count r) e h)

stuck : (ls : Lines) (s : Shape) (r : Option ℕ) → s ≡ graph_of asks ls → Lowest (λ n. Reaches s n s.exit) s.count r → LowestLine (Fits asks ls Stuck) r
stuck ls s r e h =
    lowest_line (λ n. Reaches (graph_of asks ls) n (exit_line ls)) (Fits asks ls Stuck) (length ls) (λ k t. t) (λ k t. t) r (subst (λ (t : Shape). Lowest (λ n. Reaches t n t.exit) t.count r) e h)

-- after each check

not_entered : (c : goal.In_default) → Clean asks c.args.self.now.lines.now 12
not_entered c = go_on c.args.self.now.lines.now Enters c.in_ok-exit.ensures.1 (λ t. t) (lowest_entering c.args.self.now.lines.now c.requires None c.in_default.ensures)

all_reached : (c : goal.In_default-first_unreached) → Clean asks c.args.self.now.lines.now 12 → Clean asks c.args.self.now.lines.now 13
all_reached c h = go_on c.args.self.now.lines.now Unreached h (λ t. t) (unreached c.args.self.now.lines.now (shape_in c.graph-graph.result) None c.graph-graph.ensures c.in_default-first_unreached.ensures)

-- the graph that is turned round
turned_shape : (c : goal.After-new-turned) → shape_in c.new-turned.result.of ≡ graph_of asks c.args.self.now.lines.now
turned_shape c = ap shape_in c.new-turned.ensures ∙ c.graph-graph.ensures

pub overflow_add-number : goal.overflow_add-number
overflow_add-number c =
    let ls = c.args.self.now.lines.now in
    let k = c.in-Some.number in
    let i = line_found ls Enters c.in_ok-exit.ensures.1 (λ t. t) k (lowest_entering ls c.requires (Some k) c.in-Some.ensures) in
    omega (arith, c.args.self.now.few)

pub returns-in-Some : goal.returns-in-Some
returns-in-Some c =
    let ls = c.args.self.now.lines.now in
    let k = c.in-Some.number in
    refuse ls Enters c.in_ok-exit.ensures.1 (λ t. t) k (lowest_entering ls c.requires (Some k) c.in-Some.ensures) c.on.result c.on.ensures

pub graph-graph-requires : goal.graph-graph-requires
graph-graph-requires c = record { halts = c.in_ok-exit.ensures.0; clean = c.in_ok-exit.ensures.1 }

pub overflow_add-number-in-Some-first_unreached : goal.overflow_add-number-in-Some-first_unreached
overflow_add-number-in-Some-first_unreached c =
    let ls = c.args.self.now.lines.now in
    let k = c.in-Some-first_unreached.number in
    let i = line_found ls Unreached (not_entered (goal.at.overflow_add-number-in-Some-first_unreached c).In_default) (λ t. t) k (unreached ls (shape_in c.graph-graph.result) (Some k) c.graph-graph.ensures c.in-Some-first_unreached.ensures) in
    omega (arith, c.args.self.now.few)

pub returns-in-Some-first_unreached : goal.returns-in-Some-first_unreached
returns-in-Some-first_unreached c =
    let ls = c.args.self.now.lines.now in
    let k = c.in-Some-first_unreached.number in
    refuse ls Unreached (not_entered (goal.at.returns-in-Some-first_unreached c).In_default) (λ t. t) k (unreached ls (shape_in c.graph-graph.result) (Some k) c.graph-graph.ensures c.in-Some-first_unreached.ensures)
    c.on-in-Some-first_unreached.result c.on-in-Some-first_unreached.ensures

pub overflow_add-number-in-Some-first_stuck : goal.overflow_add-number-in-Some-first_stuck
overflow_add-number-in-Some-first_stuck c =
    let ls = c.args.self.now.lines.now in
    let k = c.in-Some-first_stuck.number in
    let at = goal.at.overflow_add-number-in-Some-first_stuck c in
    let i = line_found ls Stuck (all_reached at.In_default-first_unreached (not_entered at.In_default)) (λ t. t) k (stuck ls (shape_in c.new-turned.result.of) (Some k) (turned_shape at.After-new-turned) c.in-Some-first_stuck.ensures) in
    omega (arith, c.args.self.now.few)

pub returns-in-Some-first_stuck : goal.returns-in-Some-first_stuck
returns-in-Some-first_stuck c =
    let ls = c.args.self.now.lines.now in
    let k = c.in-Some-first_stuck.number in
    let at = goal.at.returns-in-Some-first_stuck c in
    refuse ls Stuck (all_reached at.In_default-first_unreached (not_entered at.In_default)) (λ t. t) k (stuck ls (shape_in c.new-turned.result.of) (Some k) (turned_shape at.After-new-turned) c.in-Some-first_stuck.ensures)
    c.on-in-Some-first_stuck.result c.on-in-Some-first_stuck.ensures

pub returns : goal.returns
returns c =
    let ls = c.args.self.now.lines.now in
    let at = goal.at.returns c in (
      ap shape_in c.back.ensures ∙ turned_shape at.After-new-turned,
      go_on ls Stuck (all_reached at.In_default-first_unreached (not_entered at.In_default)) (λ t. t) (stuck ls (shape_in c.new-turned.result.of) None (turned_shape at.After-new-turned) c.in_default-first_stuck.ensures),
    )
