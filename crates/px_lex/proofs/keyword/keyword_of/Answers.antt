use Rattle.std.proofs.Common.{◌∙◌}
use Rattle.px_lex.proofs.Keywords.{keyword_by_length}
use Rattle.px_lex.proofs.keyword.keyword_of.Goals as goal

pub returns : goal.returns
returns c = c.keyword_in.ensures ∙ keyword_by_length c.args.word.now
