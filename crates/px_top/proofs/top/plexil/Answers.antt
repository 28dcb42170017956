use denote.Param.Send.{sendable}
use Rattle.px_top.proofs.Sending.{machine_send}
use Rattle.px_top.proofs.top.plexil.Goals as goal

pub plexil_over-requires-send-S : goal.plexil_over-requires-send-S
plexil_over-requires-send-S g c = λ _ _. search (sendable, machine_send)
