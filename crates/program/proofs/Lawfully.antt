-- What can be read answers sealing's questions lawfully. Assumes nothing.
use Rattle.std.proofs.Common.{◌≡◌, ◌≤◌, T, [], length, ℤ, None, refl, lit≤}
use Rattle.line.specs.declared.syntax.Statement.{Statement}
use Rattle.line.specs.declared.syntax.Statement.TheVariants.{Then, If, Halt}
use Rattle.wellformed.specs.Lines.{Lawful}
use Rattle.program.specs.Asked.{asks, nexts_of, halts_at, computes_at}
use Rattle.program.proofs.Repeating.{label_laws}
use Rattle.program.specs.SamesLemmas.{expression_laws}

ends : (s : Statement ℤ) → T (halts_at s) → (nexts_of s ≡ []) × (computes_at s ≡ None)
ends (Then a n) t = absurd t
ends (If o a b) t = absurd t
ends Halt t = (refl, refl)

at_most_two : (s : Statement ℤ) → length (nexts_of s) ≤ 2
at_most_two (Then a n) = lit≤ tt
at_most_two (If o a b) = lit≤ tt
at_most_two Halt = lit≤ tt

pub lawful : Lawful asks
lawful = record {
  labels = label_laws;
  expressions = expression_laws;
  ending = λ x t. (ends x.statement t).0;
  silent = λ x t. (ends x.statement t).1;
  two = λ x. at_most_two x.statement;
}
