-- What `==` answers of events and of entries.
use Rattle.std.specs.Prelude.{Bool}
use Rattle.px_event.specs.contracts.event.EventPartialEq.TheImpl as events
use Rattle.px_event.specs.contracts.entry.EntryPartialEq.TheImpl as entries
use Rattle.px_event.specs.declared.event.Event.{Event}
use Rattle.px_event.specs.declared.entry.Entry.{Entry}

abbrev pub event_eq : Event → Event → Bool
event_eq = (events.ghosts).eq

abbrev pub entry_eq : Entry → Entry → Bool
entry_eq = (entries.ghosts).eq
