-- What a machine keeps may go to another thread: one lemma a type, from its parts.
use Rattle.std.proofs.Crossing.{crosses}
use denote.Param.Send.{IsSend, sendable}
use denote.Param.SendFields.{as_row_send, declared_send}
use Rattle.px_cached.proofs.Sending.{cached_send}
use Rattle.px_tally.proofs.tally.Tally.TheSendSync as tallies
use Rattle.px_told.proofs.told.Told.TheSendSync as tolds
use Rattle.px_assign.proofs.claims.Claims.TheSendSync as claims
use Rattle.px_links.proofs.links.Links.TheSendSync as links
use Rattle.px_machine.specs.contracts.kept.Kept as kept

pub kept_send : IsSend kept.the_row
kept_send =
    declared_send kept.the_type
    (search (sendable, crosses, as_row_send, cached_send, tallies.the_send, tolds.the_send, claims.the_send, links.the_send) depth 24)
