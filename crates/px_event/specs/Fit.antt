-- What makes an event and an entry fit to be posted.
use Rattle.std.specs.Prelude.{ℕ, Bool, true, ◌&&◌, ◌^◌, nat_le, nat_lt, List, length, Option, Some, None}
use Rattle.std.specs.List.{list_all}
use Rattle.px_value.specs.Name.{is_identifier}
use Rattle.px_value.specs.Path.{is_path}
use Rattle.px_event.specs.Values.{is_plain, is_plain_or_unknown}
use Rattle.px_event.specs.declared.event.Event.{Event}
use Rattle.px_event.specs.declared.event.Event.TheVariants as events
use Rattle.px_event.specs.declared.entry.Entry.{Entry}
use Rattle.px_event.specs.declared.named.NamedEntry.{NamedEntry}

-- the entry of an event that comes from a line of a thread
abbrev pub entry_of : ℕ → ℕ → Event → Entry
entry_of thread line event = record { thread = thread; line = line; event = event }

-- what a report may be about: an identifier of at most 64 bytes
abbrev pub is_report_name : List ℕ → Bool
is_report_name name = is_identifier name && nat_le (length name) 64

-- a report has such a name and at most 8 plain arguments; a node is a path; what is told is plain or UNKNOWN
abbrev pub is_fit_event : Event → Bool
is_fit_event (events.Report name args value) =
    is_report_name name && nat_le (length args) 8 && list_all is_plain args && is_plain_or_unknown value
is_fit_event (events.Handle node handle) = is_path node
is_fit_event (events.Return node value) = is_path node && is_plain_or_unknown value
is_fit_event (events.AbortDone node) = is_path node
is_fit_event (events.Acknowledged node) = is_path node

-- there are threads from 1 to 8
abbrev pub is_thread : ℕ → Bool
is_thread number = nat_le 1 number && nat_le number 8

-- the thread is one of these, the line from 1 to 2^32 - 1, and the event is fit
abbrev pub is_fit_entry : Entry → Bool
is_fit_entry entry =
    is_thread entry.thread && nat_le 1 entry.line && nat_lt entry.line (2 ^ 32) && is_fit_event entry.event

-- the name of an interface, where there is one, is such a name too
abbrev pub is_interface : Option (List ℕ) → Bool
is_interface None = true
is_interface (Some name) = is_report_name name

-- a fit entry, with the name of an interface or none
abbrev pub is_fit_named : NamedEntry → Bool
is_fit_named named = is_interface named.name && is_fit_entry named.entry
