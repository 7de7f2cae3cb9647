use Rattle.std.proofs.Common.{length, Some, None, sym, refl, arith}
use Rattle.std.proofs.lemmas.List.{length-replicate}
use Rattle.std.proofs.lemmas.Bool.{eqb-true, eqb-false}
use Rattle.wellformed.specs.Faults.{Repeated, Dangling, Clean}
use Rattle.program.specs.Asked.{asks}
use Rattle.program.proofs.Judging.{line_found, refuse, go_on, lowest_dangling, refuse_empty, some_lines}
use Rattle.program.proofs.sealing.check_lines.Goals as goal
use Rattle.program.proofs.sealing.check_lines.Goals.{Else-is_empty, In_default}

begun : (c : goal.Else-is_empty) → Clean asks c.args.lines.now 8
begun c = some_lines c.args.lines.now (eqb-false (length c.args.lines.now) 0 (sym c.if-is_empty.ensures))

no_repeats : (c : goal.In_default) → Clean asks c.args.lines.now 8 → Clean asks c.args.lines.now 9
no_repeats c h = go_on c.args.lines.now Repeated h (λ t. t) c.in_default.ensures.lowest

pub returns-then-is_empty : goal.returns-then-is_empty
returns-then-is_empty c = refuse_empty c.args.lines.now (eqb-true (length c.args.lines.now) 0 (sym c.if-is_empty.ensures)) c.on.result c.on.ensures

pub first_repeated-requires : goal.first_repeated-requires
first_repeated-requires c = record { empty = c.new-labels.ensures.items; room = omega (arith, c.requires, c.new-labels.ensures.room, length-replicate 96 c.index-lines-0.result.label) }

pub overflow_add-number : goal.overflow_add-number
overflow_add-number c =
    let i = line_found c.args.lines.now Repeated (begun (goal.at.overflow_add-number c).Else-is_empty) (λ t. t) c.in-Some.number c.in-Some.ensures.lowest in
    omega (arith, c.requires)

pub returns-in-Some : goal.returns-in-Some
returns-in-Some c = refuse c.args.lines.now Repeated (begun (goal.at.returns-in-Some c).Else-is_empty) (λ t. t) c.in-Some.number c.in-Some.ensures.lowest c.on-in-Some.result c.on-in-Some.ensures

pub invariant_of-labelled : goal.invariant_of-labelled
invariant_of-labelled c = record { few = c.requires; named = c.in_default.ensures.labels refl }

pub overflow_add-number-in-Some-first_leading : goal.overflow_add-number-in-Some-first_leading
overflow_add-number-in-Some-first_leading c =
    let ls = c.args.lines.now in
    let k = c.in-Some-first_leading.number in
    let at = goal.at.overflow_add-number-in-Some-first_leading c in
    let i = line_found ls Dangling (no_repeats at.In_default (begun at.Else-is_empty)) (λ t. t) k (lowest_dangling ls (Some k) c.in-Some-first_leading.ensures) in
    omega (arith, c.requires)

pub returns-in-Some-first_leading : goal.returns-in-Some-first_leading
returns-in-Some-first_leading c =
    let ls = c.args.lines.now in
    let k = c.in-Some-first_leading.number in
    let at = goal.at.returns-in-Some-first_leading c in
    refuse ls Dangling (no_repeats at.In_default (begun at.Else-is_empty)) (λ t. t) k (lowest_dangling ls (Some k) c.in-Some-first_leading.ensures)
    c.on-in-Some-first_leading.result c.on-in-Some-first_leading.ensures

pub connect-requires : goal.connect-requires
connect-requires c =
    let ls = c.args.lines.now in
    let at = goal.at.connect-requires c in
    go_on ls Dangling (no_repeats at.In_default (begun at.Else-is_empty)) (λ t. t) (lowest_dangling ls None c.in_default-first_leading.ensures)
