use Rattle.std.proofs.Common.{◌≡◌, ◌≤◌, ℕ, List, length, take, drop, refl, ◌∙◌, ap, arith}
use Rattle.std.proofs.lemmas.Grind.{common_steps}
use Rattle.std.proofs.lemmas.List.{take_at}
use Rattle.px_journal.proofs.Going.{reads_told}
use Rattle.px_journal.proofs.Reading.{part_is}
use Rattle.px_journal.proofs.Windows.{shown}
use Rattle.px_journal.proofs.window.Window.reach.Goals as goal

pub returns-clause-shows : goal.returns-clause-shows
returns-clause-shows g c = λ told is.
    let read = c.in_ok-read_front.ensures.front told is in
    let long : length c.read_front.new.buffer ≡ c.self.inside.buffer.len = grind (arith, common_steps) in
    let within : c.min-count.result ≤ length c.read_front.new.buffer = grind (arith, common_steps) in
    shown _ c.read_front.new.buffer (drop c.args.gate told) c.min-count.result within
    (ap (λ (l : List ℕ). take c.min-count.result l) (take_at c.read_front.new.buffer _ c.self.inside.buffer.len long))
    (read ∙ part_is told c.args.gate _)

pub returns-in_err-read_front-clause-reads : goal.returns-in_err-read_front-clause-reads
returns-in_err-read_front-clause-reads g c = reads_told g.D.Disk c.in_err-read_front.ensures.reads (λ failed. c.from_residual.ensures.0) (λ failed. refl)

pub returns-clause-reads : goal.returns-clause-reads
returns-clause-reads g c = c.in_ok-read_front.ensures.reads
