-- One line that halts, as a program. Assumes nothing.
use Rattle.std.proofs.Common.{◌≡◌, true, [], ◌∷◌, ℤ, None, refl}
use Rattle.line.specs.declared.label.Label.{Label}
use Rattle.line.specs.declared.syntax.Line.{Line}
use Rattle.line.specs.declared.syntax.Statement.{Statement}
use Rattle.line.specs.declared.syntax.Statement.TheVariants.{Then, If, Halt}
use Rattle.program.specs.Written.{sound, exit_line, edges_in, expressions_in, numbers_in}

-- no fault fits the one line; it computes nothing, it is the exit, and no edge leaves it
pub record Lone (x : Line ℤ) : Type 0 where
  pub faultless : sound (x ∷ []) ≡ true
  pub listed : expressions_in (x ∷ []) ≡ []
  pub numbered : numbers_in (x ∷ []) ≡ None ∷ []
  pub leaves : exit_line (x ∷ []) ≡ 0
  pub edgeless : edges_in (x ∷ []) ≡ []

-- by what the line says
lone_by : (l : Label) (s : Statement ℤ) → s ≡ Halt → Lone (record { label = l; statement = s })
lone_by l (Then a n) e = absurd (cc)
lone_by l (If o a b) e = absurd (cc)
lone_by l Halt e = record {
  faultless = refl;
  listed = refl;
  numbered = refl;
  leaves = refl;
  edgeless = refl;
}

pub lone : (x : Line ℤ) → x.statement ≡ Halt → Lone x
lone x e = lone_by x.label x.statement e
