use Rattle.std.proofs.Common.{◌≡◌, Err, sym, subst, arith}
use Rattle.fault.specs.declared.Flaw.{Flaw}
use Rattle.line.specs.Readings.{reading, Reads}
use Rattle.line.proofs.Answered.{answered, foreign_text}
use Rattle.line.proofs.reader.check_clean.Goals as goal

pub returns-in-Some : goal.returns-in-Some
returns-in-Some c =
    let t = c.args.text.now in
    let e = foreign_text t c.in-Some.column (omega (arith, c.if-text-gt-MOST.false)) c.in-Some.ensures in
    subst (λ (f : Flaw). (Err f ≡ reading t) × Reads t (Err f)) (sym c.at-in-Some.ensures) (e, answered t _ e)
