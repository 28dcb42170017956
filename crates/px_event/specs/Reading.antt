-- Bytes read from the front: a field of a fit entry and the bytes behind it, or none where no such field stands there.
use Rattle.std.specs.Prelude.{ℕ, zero, suc, ◌≡◌, ⊤, Bool, true, false, ◌==◌, nat_le, nat_lt, if◌then◌else◌, List, [], ◌∷◌, length, take, drop, Option, Some, None, Result, Ok, Err}
use Rattle.std.specs.Int.{w32, cast_signed}
use Rattle.std.specs.Str.{is_utf8}
use Rattle.byteorder.specs.Endian.{big_number}
use Rattle.px_value.specs.Path.{is_path}
use Rattle.px_value.specs.Text.{is_short_text}
use Rattle.px_value.specs.declared.enums.Handle.{Handle}
use Rattle.px_value.specs.declared.enums.Handle.TheVariants as handles
use Rattle.px_value.specs.declared.value.Value.{Value}
use Rattle.px_value.specs.declared.value.Value.TheVariants as values
use Rattle.px_event.specs.Fit.{entry_of, is_report_name, is_thread}
use Rattle.px_value.specs.Value.{is_known}
use Rattle.px_event.specs.declared.event.Event.{Event}
use Rattle.px_event.specs.declared.event.Event.TheVariants as events
use Rattle.px_event.specs.declared.entry.Entry.{Entry}
use Rattle.px_event.specs.declared.named.NamedEntry.{NamedEntry}
use Rattle.px_event.specs.declared.fault.DecodeFault.{DecodeFault}
use Rattle.px_event.specs.declared.fault.DecodeFault.TheVariants.{Bad, NoMemory}

-- what is read of bytes, and what is left of them
abbrev pub Read : Type 0 → Type 0
Read X = Option (X × List ℕ)

infixl 10 ◌>>=◌
abbrev pub ◌>>=◌ : {X Y : Type 0} → Option X → (X → Option Y) → Option Y
None >>= next = None
(Some x) >>= next = next x

-- the same read, if what was read passes a test
abbrev pub only : {X : Type 0} → (X → Bool) → X × List ℕ → Read X
only test read = if test read.0 then Some read else None

abbrev pub byte_at : List ℕ → Read ℕ
byte_at [] = None
byte_at (byte ∷ rest) = Some (byte, rest)

-- a number of so many bytes
abbrev pub number_at : ℕ → List ℕ → Read ℕ
number_at n bytes = if nat_lt (length bytes) n then None else Some (big_number n bytes, drop n bytes)

-- so many bytes
abbrev pub front_at : ℕ → List ℕ → Read (List ℕ)
front_at n bytes = if nat_lt (length bytes) n then None else Some (take n bytes, drop n bytes)

unfoldable pub text_at : List ℕ → Read (List ℕ)
text_at bytes = do
  size ← number_at 2 bytes
  text ← front_at size.0 size.1
  only is_utf8 text

unfoldable pub name_at : List ℕ → Read (List ℕ)
name_at bytes = do
  text ← text_at bytes
  only is_report_name text

unfoldable pub path_at : List ℕ → Read (List ℕ)
path_at bytes = do
  text ← text_at bytes
  only is_path text

-- the value behind its tag
unfoldable pub value_behind : ℕ → List ℕ → Read Value
value_behind zero rest = Some (values.Unknown, rest)
value_behind (suc zero) rest = Some (values.Boolean false, rest)
value_behind (suc (suc zero)) rest = Some (values.Boolean true, rest)
value_behind (suc (suc (suc zero))) rest = do
  number ← number_at 4 rest
  Some (values.Integer (cast_signed w32 number.0), number.1)
value_behind (suc (suc (suc (suc zero)))) rest = do
  text ← text_at rest
  short ← only is_short_text text
  Some (values.Text short.0, short.1)
value_behind (suc (suc (suc (suc (suc tag))))) rest = None

unfoldable pub value_at : List ℕ → Read Value
value_at bytes = do
  tag ← byte_at bytes
  value_behind tag.0 tag.1

unfoldable pub argument_at : List ℕ → Read Value
argument_at bytes = do
  value ← value_at bytes
  only is_known value

unfoldable pub arguments_at : ℕ → List ℕ → Read (List Value)
arguments_at zero bytes = Some ([], bytes)
arguments_at (suc n) bytes = do
  first ← argument_at bytes
  others ← arguments_at n first.1
  Some (first.0 ∷ others.0, others.1)

-- the handle of a code
unfoldable pub handle_of : ℕ → Option Handle
handle_of zero = None
handle_of (suc zero) = Some handles.CommandSentToSystem
handle_of (suc (suc zero)) = Some handles.CommandAccepted
handle_of (suc (suc (suc zero))) = Some handles.CommandRcvdBySystem
handle_of (suc (suc (suc (suc zero)))) = Some handles.CommandFailed
handle_of (suc (suc (suc (suc (suc zero))))) = Some handles.CommandDenied
handle_of (suc (suc (suc (suc (suc (suc zero)))))) = Some handles.CommandSuccess
handle_of (suc (suc (suc (suc (suc (suc (suc code))))))) = None

unfoldable pub handle_at : List ℕ → Read Handle
handle_at bytes = do
  code ← byte_at bytes
  handle ← handle_of code.0
  Some (handle, code.1)

-- how many arguments a report may have
abbrev pub is_count : ℕ → Bool
is_count n = nat_le n 8

unfoldable pub report_at : List ℕ → Read Event
report_at bytes = do
  name ← name_at bytes
  byte ← byte_at name.1
  count ← only is_count byte
  args ← arguments_at count.0 count.1
  value ← value_at args.1
  Some (events.Report name.0 args.0 value.0, value.1)

unfoldable pub handle_event_at : List ℕ → Read Event
handle_event_at bytes = do
  node ← path_at bytes
  handle ← handle_at node.1
  Some (events.Handle node.0 handle.0, handle.1)

unfoldable pub return_at : List ℕ → Read Event
return_at bytes = do
  node ← path_at bytes
  value ← value_at node.1
  Some (events.Return node.0 value.0, value.1)

-- the event behind its kind
unfoldable pub event_behind : ℕ → List ℕ → Read Event
event_behind zero rest = None
event_behind (suc zero) rest = report_at rest
event_behind (suc (suc zero)) rest = handle_event_at rest
event_behind (suc (suc (suc zero))) rest = return_at rest
event_behind (suc (suc (suc (suc zero)))) rest = do
  node ← path_at rest
  Some (events.AbortDone node.0, node.1)
event_behind (suc (suc (suc (suc (suc zero))))) rest = do
  node ← path_at rest
  Some (events.Acknowledged node.0, node.1)
event_behind (suc (suc (suc (suc (suc (suc kind)))))) rest = None

unfoldable pub event_at : List ℕ → Read Event
event_at bytes = do
  kind ← byte_at bytes
  event_behind kind.0 kind.1

-- lines are counted from 1
abbrev pub is_line : ℕ → Bool
is_line n = nat_le 1 n

-- the thread and the line of an entry
unfoldable pub source_at : List ℕ → Read (ℕ × ℕ)
source_at bytes = do
  byte ← byte_at bytes
  thread ← only is_thread byte
  number ← number_at 4 thread.1
  line ← only is_line number
  Some ((thread.0, line.0), line.1)

-- an entry, and then bytes that may be anything
unfoldable pub entry_at : List ℕ → Read Entry
entry_at bytes = do
  source ← source_at bytes
  event ← event_at source.1
  Some (entry_of source.0.0 source.0.1 event.0, event.1)

-- the name that a text is, or none where it is empty
abbrev pub interface_behind : List ℕ × List ℕ → Read (Option (List ℕ))
interface_behind text = if length text.0 == 0 then Some (None, text.1) else do
  name ← only is_report_name text
  Some (Some name.0, name.1)

-- the name of an interface, or none
unfoldable pub interface_at : List ℕ → Read (Option (List ℕ))
interface_at bytes = do
  text ← text_at bytes
  interface_behind text

-- the same of an entry with the name of its interface
unfoldable pub named_at : List ℕ → Read NamedEntry
named_at bytes = do
  source ← source_at bytes
  name ← interface_at source.1
  event ← event_at name.1
  Some (record { name = name.0; entry = entry_of source.0.0 source.0.1 event.0 }, event.1)

-- what was read, if it is read of all bytes
abbrev pub whole : {X : Type 0} → Read X → Option X
whole read = do
  found ← read
  if length found.1 == 0 then Some found.0 else None

-- an entry of which these are all bytes
unfoldable pub decoded : List ℕ → Option Entry
decoded bytes = whole (entry_at bytes)

-- the same with the name of its interface
unfoldable pub decoded_named : List ℕ → Option NamedEntry
decoded_named bytes = whole (named_at bytes)

-- a call went as reading goes, or memory ran out
abbrev pub Gives : {X Y : Type 0} → (X → Y) → Option Y → Result X DecodeFault → Type 0
Gives view read (Ok x) = read ≡ Some (view x)
Gives view read (Err Bad) = read ≡ None
Gives view read (Err NoMemory) = ⊤

-- the same of a reader, which is left at the bytes behind
abbrev pub Reads : {X Y : Type 0} → (X → Y) → Read Y → Result X DecodeFault → List ℕ → Type 0
Reads view read (Ok x) rest = read ≡ Some (view x, rest)
Reads view read (Err Bad) rest = read ≡ None
Reads view read (Err NoMemory) rest = ⊤
