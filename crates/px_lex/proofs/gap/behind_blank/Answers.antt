use Rattle.px_lex.proofs.Gaps.{blank_cut, blank_begins}
use Rattle.px_lex.proofs.gap.behind_blank.Goals as goal

pub range_from-requires : goal.range_from-requires
range_from-requires c = λ _. blank_cut c.args.text.now c.requires c.utf8.text

pub returns : goal.returns
returns c = rw c.range_from.ensures.value (blank_begins c.args.text.now c.requires)
