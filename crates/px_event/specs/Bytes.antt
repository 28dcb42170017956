-- The bytes of an entry, field by field. A number has its highest byte first.
use Rattle.std.specs.Prelude.{ℕ, ℤ, List, [], ◌∷◌, ◌++◌, length, true, false, Option, Some, None}
use Rattle.std.specs.List.{flat_map}
use Rattle.std.specs.Int.{w32, cast_unsigned}
use Rattle.byteorder.specs.Endian.{big_bytes}
use Rattle.px_value.specs.declared.enums.Handle.{Handle}
use Rattle.px_value.specs.declared.enums.Handle.TheVariants as handles
use Rattle.px_value.specs.declared.value.Value.{Value}
use Rattle.px_value.specs.declared.value.Value.TheVariants as values
use Rattle.px_event.specs.declared.event.Event.{Event}
use Rattle.px_event.specs.declared.event.Event.TheVariants as events
use Rattle.px_event.specs.declared.entry.Entry.{Entry}

-- a text: its length in two bytes, and its bytes
abbrev pub text_bytes : List ℕ → List ℕ
text_bytes text = big_bytes 2 (length text) ++ text

-- an integer: four bytes in two's complement
abbrev pub integer_bytes : ℤ → List ℕ
integer_bytes number = big_bytes 4 (cast_unsigned w32 number)

-- a value: a tag, and what it says; what is never told has no bytes
abbrev pub value_bytes : Value → List ℕ
value_bytes values.Unknown = 0 ∷ []
value_bytes (values.Boolean false) = 1 ∷ []
value_bytes (values.Boolean true) = 2 ∷ []
value_bytes (values.Integer number) = 3 ∷ integer_bytes number
value_bytes (values.Text text) = 4 ∷ text_bytes text
value_bytes value = []

-- the code of a handle
abbrev pub handle_code : Handle → ℕ
handle_code handles.CommandSentToSystem = 1
handle_code handles.CommandAccepted = 2
handle_code handles.CommandRcvdBySystem = 3
handle_code handles.CommandFailed = 4
handle_code handles.CommandDenied = 5
handle_code handles.CommandSuccess = 6

-- an event: its kind, and its fields in their order; the number of arguments stands before them
abbrev pub event_bytes : Event → List ℕ
event_bytes (events.Report name args value) =
    1 ∷ (text_bytes name ++ (length args ∷ (flat_map value_bytes args ++ value_bytes value)))
event_bytes (events.Handle node handle) = 2 ∷ (text_bytes node ++ handle_code handle ∷ [])
event_bytes (events.Return node value) = 3 ∷ (text_bytes node ++ value_bytes value)
event_bytes (events.AbortDone node) = 4 ∷ text_bytes node
event_bytes (events.Acknowledged node) = 5 ∷ text_bytes node

-- an entry: the thread in one byte, the line in four, and the event
abbrev pub entry_bytes : Entry → List ℕ
entry_bytes entry = entry.thread ∷ (big_bytes 4 entry.line ++ event_bytes entry.event)

-- the name of an interface: a text, which is empty where there is none
abbrev pub interface_bytes : Option (List ℕ) → List ℕ
interface_bytes None = text_bytes []
interface_bytes (Some name) = text_bytes name

-- an entry with the name of its interface, which stands between the line and the event
abbrev pub named_bytes : Option (List ℕ) → Entry → List ℕ
named_bytes name entry =
    entry.thread ∷ (big_bytes 4 entry.line ++ (interface_bytes name ++ event_bytes entry.event))
