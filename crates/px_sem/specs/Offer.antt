-- What becomes of an event that is offered to a settled stepper.
use Rattle.std.specs.Prelude.{◌≡◌, true, false}
use Rattle.px_event.specs.declared.event.Event.{Event as Posted}
use Rattle.px_event.specs.declared.reply.Reply.{Reply}
use Rattle.px_event.specs.declared.reply.Reply.TheVariants.{Accepted}
use Rattle.px_sem.specs.Conflicts.{is_quiet}
use Rattle.px_sem.specs.Log.{is_accepted, world_after}
use Rattle.px_sem.specs.Stepper.{State, Event}
use Rattle.px_sem.specs.declared.offering.Offered.{Offered}
use Rattle.px_sem.specs.declared.offering.Offered.TheVariants.{Refused, Pending}

-- the reply to it, once a pending one is settled
abbrev pub reply_to : Offered → Reply
reply_to (Refused reply) = reply
reply_to (Pending position) = Accepted position

-- the state behind the offer: as before where it is refused; else the event is begun, in the world that it settles into
abbrev pub state_behind : State → Posted → Offered → State
state_behind s event (Refused reply) = s
state_behind s event (Pending position) =
    record { nodes = s.nodes; world = world_after s.nodes s.world event (Accepted position); pending = Event s.world }

-- what is refused isn't accepted, and what is pending is quiet
abbrev pub IsSettled : State → Offered → Type 0
IsSettled s (Refused reply) = is_accepted reply ≡ false
IsSettled s (Pending position) = is_quiet s.nodes s.world ≡ true
