-- An equivalence, as std says it, is a test of sameness. Assumes nothing.
use Rattle.std.proofs.Common.{Bool, T, sym, subst}
use Rattle.std.specs.Cmp.{IsEquivalence}
use Rattle.numbering.specs.Numbers.{Laws}
use Rattle.numbering.proofs.Bools.{true_of}

pub equivalence_laws : {A : Type 0} {same : A → A → Bool} → IsEquivalence same → Laws same
equivalence_laws {same = same} e = record {
  reflexive = λ a. subst T (sym (e.refl a)) tt;
  symmetric = λ a b t. subst T (e.symm a b) t;
  transitive = λ a b c t u. subst T (sym (e.congr a b c (true_of (same a b) t))) u;
}
