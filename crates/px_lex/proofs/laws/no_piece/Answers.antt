use Rattle.px_lex.proofs.Unique.{no_piece}
use Rattle.px_lex.proofs.laws.no_piece.Goals as goal

pub returns : goal.returns
returns c = λ fault place kind rest some f b. no_piece c.args.text.now fault place kind rest some f b
