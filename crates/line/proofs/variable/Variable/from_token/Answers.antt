use Rattle.std.proofs.Common.{refl, rules}
use Rattle.line.specs.Tokens.{variable_made}
use Rattle.line.proofs.variable.Variable.from_token.Goals as goal

pub returns-in-len1 : goal.returns-in-len1
returns-in-len1 c = variable_made c.args.token.now _ (search rules) refl
