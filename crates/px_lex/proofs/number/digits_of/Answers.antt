use Rattle.std.proofs.Common.{rules}
use Rattle.std.proofs.lemmas.Str.{IsCharBoundary-after_ascii}
use Rattle.px_lex.proofs.number.digits_of.Goals as goal

pub range_from-requires : goal.range_from-requires
range_from-requires c = λ _. IsCharBoundary-after_ascii c.args.spelling.now 1 c.utf8.spelling (search rules) (search rules)
