use denote.Param.Send.{sendable}
use Rattle.px_top.proofs.Sending.{machine_send}
use Rattle.px_program_tests.proofs.Sending.{naive_send}
use Rattle.px_program_tests.proofs.holds_on_both.Goals as goal

pub holds_on-requires-send-S : goal.holds_on-requires-send-S
holds_on-requires-send-S g c = λ _ _. search (sendable, machine_send)

pub holds_on-requires-2-send-S : goal.holds_on-requires-2-send-S
holds_on-requires-2-send-S g c = λ _ _. search (sendable, naive_send)
