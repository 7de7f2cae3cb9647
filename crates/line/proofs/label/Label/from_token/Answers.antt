use Rattle.std.proofs.Common.{◌≡◌, ◌≤◌, ℕ, true, List, length, sym, refl, subst, arith, rules}
use Rattle.line.specs.Names.{is_name, kept}
use Rattle.line.specs.Tokens.{label_made, word_from, over_zeros}
use Rattle.line.proofs.label.Label.from_token.Goals as goal

pub invariant_of-result : goal.invariant_of-result
invariant_of-result c =
    let t = c.args.token.now in
    let some : 1 ≤ length t = search rules in
    let few : length t ≤ 8 = search rules in
    record {
      ok =
          subst (λ (l : List ℕ). is_name l (length t) ≡ true) (sym (over_zeros t _ c.copy_from_slice.ensures.after))
          (kept t (word_from t (λ e. omega arith) few c.if-not-all_letters.ensures));
    }

pub returns : goal.returns
returns c =
    let t = c.args.token.now in
    let some : 1 ≤ length t = search rules in
    let few : length t ≤ 8 = search rules in
    label_made t _ (word_from t (λ e. omega arith) few c.if-not-all_letters.ensures) (over_zeros t _ c.copy_from_slice.ensures.after) refl
