use Rattle.std.proofs.Common.{sym}
use Rattle.px_lex.proofs.Signs.{no_pair}
use Rattle.px_lex.proofs.lexer.sign_of_two.Goals as goal

pub returns-clause-none : goal.returns-clause-none
returns-clause-none c = λ long. no_pair c.args.bytes.now long (sym c.if-ends_pair.ensures.value)
