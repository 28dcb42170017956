use Rattle.px_script.proofs.Digits.{no_name}
use Rattle.px_script.proofs.thread_line.name_of.Goals as goal

pub returns-in-Err : goal.returns-in-Err
returns-in-Err c = no_name c.args.word.now c.in-Err.ensures.cases.0
