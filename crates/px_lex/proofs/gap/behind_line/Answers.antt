use Rattle.px_lex.proofs.Gaps.{line_cut, line_begins}
use Rattle.px_lex.proofs.gap.behind_line.Goals as goal

pub range_from-requires : goal.range_from-requires
range_from-requires c = λ _. rw (c.line_length.ensures, c.as_bytes.ensures.value) (line_cut c.args.text.now)

pub returns : goal.returns
returns c =
    line_begins c.args.text.now c.requires.0 c.range_from.result.now c.requires.1
    (rw (c.line_length.ensures, c.as_bytes.ensures.value) at c.range_from.ensures.value)
