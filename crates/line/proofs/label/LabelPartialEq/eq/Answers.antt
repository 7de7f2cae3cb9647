use Rattle.std.proofs.Common.{◌≡◌, Bool, Decides, sym, ◌∙◌, subst, ap₂}
use Rattle.std.specs.Str.{bytes_eq}
use Rattle.std.proofs.lemmas.Slice.Eq.{slice_eq-Decides, bytes_eq-Decides}
use Rattle.std.proofs.lemmas.Bool.Decides.{same_from_decides, Decides-eqb}
use Rattle.line.specs.Words.{same_label}
use Rattle.line.specs.Tokens.{label_decides}
use Rattle.line.proofs.label.LabelPartialEq.eq.Goals as goal

pub returns : goal.returns
returns c =
    let a = c.text.result.now in
    let b = c.text-2.result.now in
    let same : c.eq.result ≡ same_label c.args.self.now c.args.other.now
    = same_from_decides c.eq.result (bytes_eq a b) (slice_eq-Decides Decides-eqb a b c.eq.result c.eq.ensures) (bytes_eq-Decides a b) ∙ ap₂ bytes_eq c.text.ensures.text c.text-2.ensures.text in
    record { value = same; equal = subst (λ (r : Bool). Decides r (c.args.self.now ≡ c.args.other.now)) (sym same) (label_decides c.args.self.now c.args.other.now) }
