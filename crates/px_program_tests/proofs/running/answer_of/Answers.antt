use denote.Param.Send.{sendable}
use Rattle.px_top.proofs.Sending.{machine_send}
use Rattle.px_program_tests.proofs.running.answer_of.Goals as goal

pub answer_over-requires-send-S : goal.answer_over-requires-send-S
answer_over-requires-send-S g c = λ _ _. search (sendable, machine_send)
