use Rattle.px_crew.proofs.Seats.{looked_board, looked_on}
use Rattle.px_crew.proofs.seat.holds.Goals as goal

pub returns-clause-looked : goal.returns-clause-looked
returns-clause-looked g c = looked_board (g.K.Desk.start c.args.desk.now) _ _ c.requires.made c.holds.ensures.made c.holds.ensures.looked

pub returns-clause-on : goal.returns-clause-on
returns-clause-on g c = looked_on (g.K.Desk.start c.args.desk.now) _ _ c.requires.made c.holds.ensures.made c.holds.ensures.looked
