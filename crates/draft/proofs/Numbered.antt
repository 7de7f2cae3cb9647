-- The line that stands at a number. Assumes nothing.
use Rattle.std.proofs.Common.{◌≡◌, ℕ, true, None, arith}
use Rattle.std.proofs.lemmas.Grind.{common_steps}
use Rattle.std.proofs.lemmas.Option.{slice_get_cases}
use Rattle.draft.specs.Plain.{Lines, absent, line_at}

-- where none stands, the number is absent
pub absent_from_none : (n : ℕ) (ls : Lines) → line_at n ls ≡ None → absent n ls ≡ true
absent_from_none n ls h = grind (arith, common_steps, slice_get_cases)
