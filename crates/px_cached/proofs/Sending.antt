-- Kept conditions may go to another thread: one lemma a type, from its parts.
use Rattle.std.proofs.Crossing.{crosses}
use denote.Struct.Declared.{shape}
use denote.Param.Send.{IsSend, sendable, view_send, recorded_send, struct_send}
use denote.Param.SendFields.{as_row_send, variants_send}
use Rattle.px_flat.proofs.Sending.{numbered_send}
use Rattle.px_links.proofs.links.Links.TheSendSync as links
use Rattle.px_listen.specs.contracts.listeners.Listeners as listeners
use Rattle.px_listen.specs.contracts.listeners.Listeners.TheInside as listeners_inside
use Rattle.px_cached.proofs.part.Above.TheSendSync as aboves
use Rattle.px_cached.proofs.part.Joint.TheSendSync as joints
use Rattle.px_cached.proofs.watching.Watcher.TheSendSync as watchers
use Rattle.px_cached.specs.contracts.part.Part as parts
use Rattle.px_cached.specs.contracts.laying.Network as networks
use Rattle.px_cached.specs.contracts.looking.Kept as truths
use Rattle.px_cached.specs.contracts.watching.Watch as watches
use Rattle.px_cached.specs.contracts.cached.Cached as cached
use Rattle.px_cached.specs.contracts.cached.Cached.TheInside as cached_inside

part_send : IsSend parts.the_row
part_send = variants_send parts.enum (search (sendable, crosses, as_row_send, numbered_send, joints.the_field_send) depth 20)

network_send : IsSend (networks.the_field.row)
network_send =
    struct_send (shape networks.the_type) (search (sendable, crosses, as_row_send, part_send, aboves.the_field_send) depth 24)

truths_send : IsSend (truths.the_field.row)
truths_send =
    struct_send (shape truths.the_type) (search (sendable, crosses, as_row_send, network_send, links.the_send) depth 24)

watch_send : IsSend (watches.the_field.row)
watch_send =
    struct_send (shape watches.the_type) (search (sendable, crosses, as_row_send, watchers.the_field_send) depth 24)

listeners_send : IsSend listeners.the_row
listeners_send =
    view_send listeners_inside.the_row _ _ _ _ (recorded_send listeners_inside.the_field.row _ _ listeners_inside.the_type.to_one
    (struct_send (shape listeners_inside.the_type) (
      search (sendable, links.the_send),
      (
        search (sendable, crosses) depth 24,
        (search (sendable, crosses) depth 24, (search (sendable, crosses) depth 24, tt)),
      ),
    )))

pub cached_send : IsSend cached.the_row
cached_send =
    view_send cached_inside.the_row _ _ _ _ (recorded_send cached_inside.the_field.row _ _ cached_inside.the_type.to_one
    (struct_send (shape cached_inside.the_type) (
      search (sendable, crosses) depth 24,
      (
        truths_send,
        (
          search (sendable, listeners_send),
          (
            search (sendable, crosses, as_row_send, watch_send) depth 24,
            (
              search (sendable, links.the_send),
              (
                search (sendable, crosses) depth 24,
                (search (sendable, crosses) depth 24, (search (sendable, crosses) depth 24, tt)),
              ),
            ),
          ),
        ),
      ),
    )))
