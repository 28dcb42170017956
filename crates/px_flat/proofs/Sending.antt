-- Numbered expressions, which refer to themselves, may go to another thread.
use Rattle.std.proofs.Crossing.{crosses}
use denote.Param.Send.{IsSend, sendable}
use Rattle.px_value.proofs.text.Text.TheSendSync as texts
use Rattle.px_flat.proofs.numbered.NumberedExpr.TheLaws.TheKnot.{send-NumberedExpr}
use Rattle.px_flat.specs.contracts.numbered.NumberedExpr as numbered

pub numbered_send : IsSend (numbered.the_field.row)
numbered_send =
    send-NumberedExpr (search (sendable, texts.the_send) depth 20) (search sendable depth 12) (λ h s. search (sendable, crosses))
    (λ h s. search (sendable, crosses)) (search (sendable, crosses)) (search sendable depth 12) (search sendable depth 20)
