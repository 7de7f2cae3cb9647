-- How a byte and a refusal are shown. Assumes nothing.
use Rattle.std.specs.Prelude.{ℕ, Bool, cond, ◌&&◌, length, ◌==◌, nat_lt}
use Rattle.std.specs.Int.{is_in_range}
use Rattle.fault.specs.Table.{number_of}
use Rattle.console.specs.declared.answer.Refusal.{Refusal}

-- printable ASCII as it is, and any other byte as a question mark
abbrev pub visible_of : ℕ → ℕ
visible_of b = cond (is_in_range 32 126 b) b 63

-- a text that is no line, and where the column is past its last byte
abbrev pub too_early : Refusal → Bool
too_early r = number_of r.fault.kind == 3 && nat_lt (length r.text.now) r.fault.column
