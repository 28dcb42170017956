-- The plain stepper may go to another thread, since its parts may.
use Rattle.std.proofs.Crossing.{crosses}
use denote.Param.Send.{IsSend, sendable}
use denote.Param.SendFields.{as_row_send, declared_send}
use Rattle.px_naive.proofs.begun.Begun.TheSendSync as begun
use Rattle.px_parts.proofs.Sending.{parts_send}
use Rattle.px_naive.specs.contracts.naive.Naive as naive

pub naive_send : IsSend naive.the_row
naive_send =
    declared_send naive.the_type
    (search (sendable, crosses, as_row_send, parts_send, begun.the_field_send) depth 20)
