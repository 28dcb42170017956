use Rattle.std.proofs.Common.{arith}
use Rattle.px_script.proofs.Texts.{first_line, last_line}
use Rattle.px_script.proofs.text.split_line.Goals as goal

pub returns-then-end-text : goal.returns-then-end-text
returns-then-end-text c = first_line c.args.text.now c.line_length-end.result c.line_length-end.ensures.place (omega arith)

pub returns-else-end-text : goal.returns-else-end-text
returns-else-end-text c = last_line c.args.text.now c.line_length-end.result c.line_length-end.ensures.place (omega arith)
