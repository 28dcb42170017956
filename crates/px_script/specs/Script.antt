-- The script that bytes spell over a plan.
use Rattle.std.specs.Prelude.{◌≡◌, ℕ, ◌+◌, Bool, not, ◌&&◌, ◌==◌, nat_le, nat_lt, List, [], ◌∷◌, map, filter, Option, Some, None, if◌then◌else◌}
use Rattle.std.specs.List.{filter_map, count_by, list_any, range_with_len}
use Rattle.std.specs.Option.{option_map}
use Rattle.px_event.specs.declared.names.ThreadName.{ThreadName}
use Rattle.px_script.specs.declared.fault.FaultKind.{FaultKind}
use Rattle.px_script.specs.declared.fault.FaultKind.TheVariants.{TooManyLines, OtherName}
use Rattle.px_script.specs.declared.fault.ScriptFault.{ScriptFault}
use Rattle.px_script.specs.declared.fault.ScriptFault.TheVariants as faults
use Rattle.px_script.specs.declared.line.Line.{Line}
use Rattle.px_script.specs.declared.line.What.{What}
use Rattle.px_script.specs.declared.line.What.TheVariants as whats
use Rattle.px_script.specs.declared.todo.Todo.{Todo}
use Rattle.px_core.specs.Plan.{Site, is_same}
use Rattle.px_script.specs.Text.{lines_of}
use Rattle.px_script.specs.declared.parsed_line.ParsedLine.{ParsedLine}
use Rattle.px_script.specs.declared.parsed_line.ParsedLine.TheVariants.{Nothing, Posts, Waits, Thread, Faulty}
use Rattle.px_script.specs.Fault.{number_of}
use Rattle.px_script.specs.ParsedLine.{parsed_line}
use Rattle.px_script.specs.Remainder.{has_a_line}

-- a script's threads and their names, or its first faulty line with the number of its fault
pub data Reading : Type 0 where
  Threads : (threads : List Todo) (names : List ThreadName) → Reading
  Fault : (line kind : ℕ) → Reading

-- what a line says, with its number and the thread that it belongs to
pub record Said : Type 0 where
  pub thread : ℕ
  pub number : ℕ
  pub says : ParsedLine

-- the thread that the line behind belongs to: the one that is named, or the same
abbrev pub thread_behind : ℕ → ParsedLine → ℕ
thread_behind thread (Thread number name) = number
thread_behind thread says = thread

-- what lines say that go on from this number, for this thread
abbrev pub said_from : ℕ → ℕ → List ParsedLine → List Said
said_from thread number [] = []
said_from thread number (says ∷ more) =
    record { thread = thread; number = number; says = says } ∷ said_from (thread_behind thread says) (number + 1) more

-- what each line says; lines belong to thread 1 before another is named
abbrev pub parsed_lines : List Site → List ℕ → List Said
parsed_lines plan bytes = said_from 1 1 (map (parsed_line plan) (lines_of bytes))

-- what its thread does at a line
abbrev pub done_at : Said → Option Line
done_at said = at said.says
  where
    line : What → Option Line
    line what = Some (record { number = said.number; what = what })

    at : ParsedLine → Option Line
    at (Posts event) = line (whats.Post event)
    at (Waits cond) = line (whats.Wait cond)
    at Nothing = None
    at (Thread number name) = None
    at (Faulty kind) = None

-- the lines at which a thread does something
abbrev pub lines_of_thread : ℕ → List Said → List Line
lines_of_thread thread lines = filter_map done_at (filter (λ said. said.thread == thread) lines)

-- how many of its thread's lines have a lower number
abbrev pub lines_before : Said → List Said → ℕ
lines_before said lines = count_by (λ line. nat_lt line.number said.number) (lines_of_thread said.thread lines)

-- the name that a line gives a thread, if it gives one
abbrev pub name_given : Said → Option ThreadName
name_given said = by said.says
  where
    by : ParsedLine → Option ThreadName
    by (Thread number name) = option_map (λ name. record { thread = number; name = name }) name
    by Nothing = None
    by (Posts event) = None
    by (Waits cond) = None
    by (Faulty kind) = None

-- the names that lines give, in order
abbrev pub names_given : List Said → List ThreadName
names_given lines = filter_map name_given lines

-- the lines with a lower number
abbrev pub earlier_lines : Said → List Said → List Said
earlier_lines said lines = filter (λ line. nat_lt line.number said.number) lines

-- another name of this thread
abbrev pub is_other_name : ℕ → List ℕ → ThreadName → Bool
is_other_name thread name row = (row.thread == thread) && not (is_same row.name name)

-- an earlier line names the thread otherwise
abbrev pub is_named_otherwise : List Said → Said → ℕ → List ℕ → Bool
is_named_otherwise lines said thread name = list_any (is_other_name thread name) (names_given (earlier_lines said lines))

-- the fault of one of the lines, if it has one: its own, that its thread does something after 100,000 others, or that it names
-- a thread otherwise than an earlier line did
abbrev pub fault_in : List Said → Said → Option (ℕ × FaultKind)
fault_in lines said = by said.says
  where
    one_more : Option (ℕ × FaultKind)
    one_more = if nat_le 100000 (lines_before said lines) then Some (said.number, TooManyLines) else None

    by : ParsedLine → Option (ℕ × FaultKind)
    by (Posts event) = one_more
    by (Waits cond) = one_more
    by Nothing = None
    by (Thread number None) = None
    by (Thread number (Some name)) = if is_named_otherwise lines said number name then Some (said.number, OtherName) else None
    by (Faulty kind) = Some (said.number, kind)

-- what a thread does
abbrev pub todo_of : List Said → ℕ → Todo
todo_of lines thread = record { thread = thread; lines = lines_of_thread thread lines }

-- the threads from 1 to 8 that have a line
abbrev pub threads_of : List Said → List Todo
threads_of lines = filter has_a_line (map (todo_of lines) (range_with_len 1 8))

-- each thread's first name, in the order in which the threads are first named
abbrev pub first_names : List ThreadName → List ThreadName
first_names [] = []
first_names (row ∷ later) = row ∷ filter (λ other. not (other.thread == row.thread)) (first_names later)

-- the threads that are named, each with its name
abbrev pub names_of : List Said → List ThreadName
names_of lines = first_names (names_given lines)

-- the first fault decides; where there is none, the threads and their names are the script
abbrev pub by_faults : List (ℕ × FaultKind) → List Todo → List ThreadName → Reading
by_faults [] threads names = Threads threads names
by_faults ((line, kind) ∷ later) threads names = Fault line (number_of kind)

-- what lines are read as
abbrev pub reading : List Said → Reading
reading lines = by_faults (filter_map (fault_in lines) lines) (threads_of lines) (names_of lines)

-- the script that bytes spell over the nodes of a plan, or its first fault
abbrev pub script : List Site → List ℕ → Reading
script plan bytes = reading (parsed_lines plan bytes)

-- the fault is what is read, and want of memory says nothing of it
abbrev pub IsFaultOf : Reading → ScriptFault → Type 0
IsFaultOf read (faults.Fault line kind) = read ≡ Fault line kind
IsFaultOf read faults.NoMemory = Unit {0}
