-- The digits of a line number. Assumes nothing.
use Rattle.std.proofs.Common.{ℕ, List, IsUtf8}
use Rattle.std.specs.Str.Parse.{AllDigits}
use Rattle.std.proofs.lemmas.Fmt.{IsAscii-from_digits}
use Rattle.std.proofs.lemmas.Str.{IsUtf8-from_ascii}

-- digits are text
pub utf8_digits : (ds : List ℕ) → AllDigits 10 ds → IsUtf8 ds
utf8_digits ds h = IsUtf8-from_ascii ds (IsAscii-from_digits ds h)
