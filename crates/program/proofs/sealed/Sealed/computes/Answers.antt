use Rattle.std.proofs.Common.{◌≡◌, ℕ, List, Some, None, Option, sym, refl, ap, ◌∙◌}
use Rattle.std.specs.Borrow.{Bor}
use Rattle.std.specs.List.{slice_get}
use Rattle.std.specs.Option.{option_copied, option_flatten}
use Rattle.std.specs.Slice.{IsGetResult}
use Rattle.std.proofs.lemmas.Option.{slice_get_past, slice_get_read}
use Rattle.program.specs.Meaning.{flat, lines_of}
use Rattle.program.specs.Written.{numbers_in}
use Rattle.program.proofs.sealed.Sealed.computes.Goals as goal

-- the item that is lent is the one in the list
copied_item : (l : List (Option ℕ)) (k : ℕ) (o : Option (Bor (Option ℕ))) → IsGetResult l k k o → option_copied o ≡ slice_get l k
copied_item l k None h = sym (slice_get_past l k h.3)
copied_item l k (Some x) h = sym (slice_get_read l _ k x.now refl h.3.0 h.1)

flattened : (o : Option (Option ℕ)) → option_flatten o ≡ flat o
flattened None = refl
flattened (Some None) = refl
flattened (Some (Some n)) = refl

pub returns : goal.returns
returns c =
    let listed = c.deref.ensures.value ∙ c.args.self.now.numbered in
    let copied = c.copied.ensures ∙ copied_item c.deref.result.now c.args.line c.get.result c.get.ensures.lookup in
    c.flatten.ensures ∙ ap option_flatten (copied ∙ ap (λ l. slice_get l c.args.line) listed) ∙ flattened (slice_get (numbers_in (lines_of c.args.self.now)) c.args.line)
