use Rattle.std.proofs.Common.{arith, rules}
use Rattle.numeral.proofs.Numerals.{spelling, numeral, spelling_utf8, spelling_mag, spelt_some}
use Rattle.numeral.proofs.spelt_number.Goals as goal

pub unreachable-requires : goal.unreachable-requires
unreachable-requires c = c.in_default.ensures.cases.0 (spelling_utf8 _ (spelling _ c.requires))

pub unreachable-requires-in_default-parse : goal.unreachable-requires-in_default-parse
unreachable-requires-in_default-parse c =
    let t = c.args.text.now in
    let s = spelling t c.requires in
    (rw c.in-Ok.ensures.cases.0 at c.in_default-parse.ensures.value.0) (numeral t s, record { sfits = omega (arith, spelling_mag t s) })

pub returns-clause-spelt : goal.returns-clause-spelt
returns-clause-spelt c = grind (arith, rules, spelt_some c.args.text.now c.requires)
