use Rattle.px_machine.proofs.News.{noticed}
use Rattle.px_machine.proofs.noticing.notice.Goals as goal

pub returns-clause-noticed : goal.returns-clause-noticed
returns-clause-noticed c =
    noticed c.args.parts.now c.see.new.self c.args.kept.now c.note_cells.new.kept c.note_acts.new.kept c.requires.stand c.requires.right
    c.requires.seen c.requires.nobody c.note_cells.ensures.noted c.note_cells.ensures.others c.note_acts.ensures.noted
    c.note_acts.ensures.others c.see.ensures.same c.see.ensures.seen
