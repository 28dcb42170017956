-- The stepper that the program runs may go to another thread, since its parts and what it keeps of them may.
use Rattle.std.proofs.Crossing.{crosses}
use denote.Param.Send.{IsSend, sendable}
use denote.Param.SendFields.{as_row_send, declared_send}
use Rattle.px_machine.proofs.Sending.{kept_send}
use Rattle.px_machine.proofs.begun.Begun.TheSendSync as begun
use Rattle.px_micro.proofs.sight.Going.TheSendSync as goings
use Rattle.px_micro.proofs.turns.Turns.TheSendSync as turns
use Rattle.px_parts.proofs.Sending.{parts_send}
use Rattle.px_machine.specs.contracts.machine.Machine as machine

pub machine_send : IsSend machine.the_row
machine_send =
    declared_send machine.the_type
    (search (sendable, crosses, as_row_send, parts_send, kept_send, begun.the_field_send, goings.the_send, turns.the_send) depth 20)
