use Rattle.line.proofs.Longest.{longest_runs}
use Rattle.line.proofs.cursor.Cursor.new.Goals as goal

pub returns-clause-tokens : goal.returns-clause-tokens
returns-clause-tokens c = longest_runs 1 c.args.line.now
