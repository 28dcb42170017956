use Rattle.px_journal.proofs.Windows.{front_read}
use Rattle.px_journal.proofs.window.read_front.Goals as goal

pub returns-clause-front : goal.returns-clause-front
returns-clause-front g c = front_read c.read_at.result _ c.read_at.new.into _ c.args.buffer.now c.args.place c.args.count c.requires.room c.requires.within c.read_at.ensures.read
