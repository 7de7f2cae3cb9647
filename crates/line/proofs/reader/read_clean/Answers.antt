use Rattle.std.proofs.Common.{◌≡◌, None, Some, Ok, sym, ap, ◌∙◌, rules}
use Rattle.line.specs.Ranges.{beyond_at}
use Rattle.line.specs.Pieces.{pieces}
use Rattle.line.specs.Readings.{reading, ranged}
use Rattle.line.specs.States.{parsed}
use Rattle.line.proofs.Answered.{answered, clean_text, parsed_proper}
use Rattle.line.proofs.Bounds.{line_kept}
use Rattle.line.proofs.Walks.{none_some}
use Rattle.line.proofs.reader.read_clean.Goals as goal

pub returns-in_err-wide-clause-grammar : goal.returns-in_err-wide-clause-grammar
returns-in_err-wide-clause-grammar c = answered c.args.text.now c.from_residual.result (search rules)

pub returns-in-Some-clause-grammar : goal.returns-in-Some-clause-grammar
returns-in-Some-clause-grammar c = answered c.args.text.now _ (search rules)

pub unreachable-requires : goal.unreachable-requires
unreachable-requires c =
    let x = c.in_ok-wide.wide in
    let whole : parsed c.args.text.now ≡ Ok x = search rules in
    none_some x (c.in_default-try_from.ensures ∙ line_kept x (parsed_proper c.args.text.now x whole (sym c.in_default.ensures)))

pub returns : goal.returns
returns c =
    let x = c.in_ok-wide.wide in
    let t = c.args.text.now in
    let whole : parsed t ≡ Ok x = search rules in
    let within : beyond_at (pieces 1 t) ≡ None = sym c.in_default.ensures in
    let kept : Some c.in-Ok.line ≡ Some x = c.in-Ok.ensures ∙ line_kept x (parsed_proper t x whole within) in
    let same : c.in-Ok.line ≡ x = cc in
    let e : Ok c.in-Ok.line ≡ reading t = ap Ok same ∙ ap (ranged x) (sym within) ∙ clean_text t (Ok x) c.requires.0 (sym c.requires.1) (sym whole) in
    record { value = e; grammar = answered t _ e }
