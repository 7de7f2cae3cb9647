use Rattle.std.proofs.Common.{length, ap, arith, length-append}
use Rattle.line.specs.Grammar.{spaced, spell_statement}
use Rattle.line.specs.Words.{label_text}
use Rattle.line.proofs.Answered.{reads_back}
use Rattle.line.proofs.print.Line.written.Goals as goal

pub returns-clause-back : goal.returns-clause-back
returns-clause-back c =
    let x = c.args.self.now in
    let words = c.put_statement.ensures in
    reads_back x words.fits (omega (arith, length-append (label_text x.label) (spaced (spell_statement x.statement)), ap length c.text.ensures.text, c.text.ensures.few, words.short))
