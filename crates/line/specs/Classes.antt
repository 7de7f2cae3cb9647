-- The class of a byte: the rule. Assumes nothing.
use Rattle.std.specs.Prelude.{ℕ, Bool, true, false, cond, List, Option, ◌==◌}
use Rattle.std.specs.Char.{is_ascii_lowercase, is_ascii_digit}
use Rattle.std.specs.List.{position_from}
use Rattle.line.specs.declared.class.Class.{Class}
use Rattle.line.specs.declared.class.Class.TheVariants.{Space, Letter, Digit, Sign, Foreign}

abbrev pub either : Bool → Bool → Bool
either true b = true
either false b = b

-- + - * / % < = & >
abbrev pub is_sign : ℕ → Bool
is_sign b = either (b == 43) (either (b == 45) (either (b == 42) (either (b == 47) (either (b == 37)
    (either (b == 60) (either (b == 61) (either (b == 38) (b == 62))))))))

-- the space is byte 32, letters are a to z, digits 0 to 9
abbrev pub class_by_rule : ℕ → Class
class_by_rule b = cond (b == 32) Space (cond (is_ascii_lowercase b) Letter (cond (is_ascii_digit b) Digit (cond (is_sign b) Sign Foreign)))

abbrev pub is_foreign : Class → Bool
is_foreign Foreign = true
is_foreign Space = false
is_foreign Letter = false
is_foreign Digit = false
is_foreign Sign = false

-- the column of the first foreign byte of a list whose first byte stands in column c
abbrev pub foreign_at : ℕ → List ℕ → Option ℕ
foreign_at c bs = position_from (λ b. is_foreign (class_by_rule b)) c bs
