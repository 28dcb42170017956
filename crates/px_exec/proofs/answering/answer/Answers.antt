use Rattle.px_exec.proofs.Images.{adds_nothing}
use Rattle.px_exec.proofs.answering.answer.Goals as goal

pub returns-in-Ok-Refused-clause-crash : goal.returns-in-Ok-Refused-clause-crash
returns-in-Ok-Refused-clause-crash g c = adds_nothing g.D.Disk c.args.entry.now c.args.journal.now (λ failed. absurd (cc))

pub returns-in-Err-clause-crash : goal.returns-in-Err-clause-crash
returns-in-Err-clause-crash g c = adds_nothing g.D.Disk c.args.entry.now c.args.journal.now (λ failed. absurd (cc))
