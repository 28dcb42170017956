use Rattle.std.proofs.Common.{arith}
use Rattle.std.proofs.lemmas.Grind.{common_steps}
use Rattle.px_journal.proofs.Bodies.{body_short}
use Rattle.px_journal.proofs.append.fill.Goals as goal

pub unreachable-requires : goal.unreachable-requires
unreachable-requires c = grind (arith, common_steps, body_short c.args.version _ c.push_body.ensures.fit)

pub tell_length-requires-clause-most : goal.tell_length-requires-clause-most
tell_length-requires-clause-most c = grind (arith, common_steps, body_short c.args.version _ c.push_body.ensures.fit)

pub push_in_room-requires-2 : goal.push_in_room-requires-2
push_in_room-requires-2 c = grind (arith, common_steps, body_short c.args.version _ c.push_body.ensures.fit)
