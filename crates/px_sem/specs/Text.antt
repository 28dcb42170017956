-- The text of a run, line by line.
use Rattle.std.specs.Prelude.{ℕ, zero, suc, true, false, List, [], ◌∷◌, ◌++◌, Option, Some, None, codes, decimal}
use Rattle.std.specs.Fmt.{signed_decimal}
use Rattle.std.specs.List.{flat_map, join_by, zip}
use Rattle.px_value.specs.declared.enums.Outcome.{Outcome}
use Rattle.px_value.specs.declared.enums.Failure.{Failure}
use Rattle.px_value.specs.declared.value.Value.{Value}
use Rattle.px_value.specs.declared.value.Value.TheVariants as values
use Rattle.px_value.specs.Enums.{state_word, outcome_word, failure_word, handle_word}
use Rattle.px_core.specs.Plan.{Site}
use Rattle.px_event.specs.declared.cond.Cond.{Cond}
use Rattle.px_event.specs.declared.cond.Cond.TheVariants.{State, Events}
use Rattle.px_event.specs.declared.entry.Entry.{Entry}
use Rattle.px_event.specs.declared.event.Event.{Event}
use Rattle.px_event.specs.declared.event.Event.TheVariants as events
use Rattle.px_event.specs.declared.reply.Reply.{Reply}
use Rattle.px_event.specs.declared.reply.Reply.TheVariants as replies
use Rattle.px_sem.specs.declared.log.LogEntry.{LogEntry}
use Rattle.px_sem.specs.declared.moves.Move.{Move}
use Rattle.px_sem.specs.declared.moves.Effect.{Effect}
use Rattle.px_sem.specs.declared.moves.Effect.TheVariants as effects
use Rattle.px_sem.specs.declared.standing.Standing.{Standing}
use Rattle.px_sem.specs.declared.standing.Standing.TheVariants.{Running, Finished}
use Rattle.px_sem.specs.World.{World, initial_world, standing_of}
use Rattle.px_sem.specs.Events.{take}
use Rattle.px_sem.specs.Log.{Log, events_of, accepted}
use Rattle.px_sem.specs.Run.{after_steps, settling_count, started, posted, settled_world, run}
use Rattle.px_value.specs.Text.{bracketed, quoted}
use Rattle.px_sem.specs.Step.{moves}

-- a line
abbrev pub line : List ℕ → List ℕ
line text = text ++ codes "\n"

-- ---- values

abbrev pub value_text : Value → List ℕ
value_text values.Unknown = codes "UNKNOWN"
value_text (values.Boolean true) = codes "true"
value_text (values.Boolean false) = codes "false"
value_text (values.Integer number) = signed_decimal number
value_text (values.Text text) = quoted text
value_text (values.State state) = state_word state
value_text (values.Outcome outcome) = outcome_word outcome
value_text (values.Failure failure) = failure_word failure
value_text (values.Handle handle) = handle_word handle

abbrev pub arguments_text : List Value → List ℕ
arguments_text args = codes "(" ++ join_by value_text (codes ", ") args ++ codes ")"

-- ---- moves

-- what a node has, after a blank, or nothing
abbrev pub outcome_text : Option Outcome → List ℕ
outcome_text None = []
outcome_text (Some outcome) = codes " " ++ outcome_word outcome

abbrev pub failure_text : Option Failure → List ℕ
failure_text None = []
failure_text (Some failure) = codes " " ++ failure_word failure

-- a move: two blanks, the path, the states, and the outcome and failure after it
abbrev pub change_line : Move → List ℕ
change_line m =
    line (codes "  " ++ m.node ++ codes ": " ++ state_word m.from ++ codes " -> " ++ state_word m.to
    ++ outcome_text m.outcome ++ failure_text m.failure)

abbrev pub pair_text : List ℕ × Value → List ℕ
pair_text pair = pair.0 ++ codes " = " ++ value_text pair.1

abbrev pub effect_text : Effect → List ℕ
effect_text effects.NoWrite = codes "no write"
effect_text (effects.Wrote owner name index value) =
    owner ++ codes "." ++ name ++ bracketed index ++ codes " = " ++ value_text value
effect_text (effects.Sent command args) = codes "command " ++ command ++ arguments_text args
effect_text (effects.Aborted command) = codes "abort " ++ command
effect_text (effects.Updated names values) = codes "update " ++ join_by pair_text (codes ", ") (zip names values)

-- its effect, on a line with four blanks
abbrev pub effect_line : Option Effect → List ℕ
effect_line None = []
effect_line (Some effect) = line (codes "    " ++ effect_text effect)

abbrev pub move_text : Move → List ℕ
move_text m = change_line m ++ effect_line m.effect

-- a micro step: its number from 1, and its moves
abbrev pub step_text : ℕ → List Move → List ℕ
step_text number ms = line (codes "step " ++ decimal number) ++ flat_map move_text ms

-- the first k micro steps from a world
unfoldable pub steps_text : List Site → World → ℕ → List ℕ
steps_text plan world zero = []
steps_text plan world (suc k) = steps_text plan world k ++ step_text (suc k) (moves plan (after_steps plan world k))

abbrev pub quiet_text : ℕ → List ℕ
quiet_text count = line (codes "quiet " ++ decimal count)

-- the micro steps of a world up to the quiet one, and their number; nothing where no world is quiet in time
abbrev pub settled_text : List Site → World → List ℕ
settled_text plan world = up_to (settling_count plan world)
  where
    up_to : Option ℕ → List ℕ
    up_to None = []
    up_to (Some count) = steps_text plan world count ++ quiet_text count

-- ---- events

-- what is told of a state: its name, and its arguments where it has some
abbrev pub state_text : List ℕ → List Value → List ℕ
state_text name [] = name
state_text name (arg ∷ args) = name ++ arguments_text (arg ∷ args)

abbrev pub event_text : Event → List ℕ
event_text (events.Report name args value) = codes "set " ++ state_text name args ++ codes " = " ++ value_text value
event_text (events.Handle node handle) = codes "handle " ++ node ++ codes " " ++ handle_word handle
event_text (events.Return node value) = codes "return " ++ node ++ codes " " ++ value_text value
event_text (events.AbortDone node) = codes "abort " ++ node
event_text (events.Acknowledged node) = codes "ack " ++ node

-- where an entry comes from
abbrev pub source_text : ℕ → ℕ → List ℕ
source_text thread number = codes "thread " ++ decimal thread ++ codes " line " ++ decimal number

abbrev pub start_text : List ℕ
start_text = line (codes "event 0: start")

-- the heading of an event at its position in the history, from 1
abbrev pub heading_text : ℕ → Entry → List ℕ
heading_text position entry =
    line (codes "event " ++ decimal position ++ codes ": " ++ source_text entry.thread entry.line ++ codes " "
    ++ event_text entry.event)

-- ---- the trace

-- The events of a history behind a world, the first of which has this position: for each its heading, and the text of
-- the world that it makes; nothing behind a world that is not there.
abbrev pub events_trace : List Site → ℕ → Option World → List Entry → List ℕ
events_trace plan position None history = []
events_trace plan position (Some world) [] = []
events_trace plan position (Some world) (entry ∷ history) =
    heading_text position entry
    ++ (settled_text plan (take plan world entry.event)
    ++ events_trace plan (suc position) (settled_world (posted plan world entry.event)) history)

-- the trace of a history: the start, and then each event in order
abbrev pub trace : List Site → List Entry → List ℕ
trace plan history =
    start_text ++ (settled_text plan (initial_world plan) ++ events_trace plan 1 (settled_world (started plan)) history)

-- ---- the replies

abbrev pub reply_text : Reply → List ℕ
reply_text (replies.Accepted position) = codes "accepted " ++ decimal position
reply_text replies.PlanFinished = codes "refused plan finished"
reply_text replies.Full = codes "refused full"
reply_text replies.Runaway = codes "refused runaway"

-- the line of a post: its thread, its line, and its reply
abbrev pub reply_line : ℕ → ℕ → Reply → List ℕ
reply_line thread number reply = line (source_text thread number ++ codes ": " ++ reply_text reply)

abbrev pub log_line : LogEntry → List ℕ
log_line logged = reply_line logged.entry.thread logged.entry.line logged.reply

abbrev pub log_lines : Log → List ℕ
log_lines log = flat_map log_line log

-- the last line
abbrev pub standing_text : Standing → List ℕ
standing_text Running = line (codes "plan running")
standing_text (Finished outcome failure) =
    line (codes "plan finished " ++ outcome_word outcome ++ failure_text failure)

-- the text of a log that goes on from a history: the trace of the whole history, the replies, and how the plan stands
-- after it; nothing where there is no run
abbrev pub text_of : List Site → List Entry → Log → List ℕ
text_of plan history log = of_run (run plan (events_of (history ++ accepted log)))
  where
    of_run : Option World → List ℕ
    of_run None = []
    of_run (Some world) =
        trace plan (history ++ accepted log) ++ (log_lines log ++ standing_text (standing_of plan world))

-- ---- stalls

-- what a line waits for
abbrev pub cond_text : Cond → List ℕ
cond_text (State node state) = codes "state " ++ node ++ codes " " ++ state_word state
cond_text (Events least) = codes "events " ++ decimal least

-- the line of a thread that stands at a wait
abbrev pub stall_line : ℕ → ℕ → Cond → List ℕ
stall_line thread number cond =
    line (codes "stalled " ++ source_text thread number ++ codes ": wait " ++ cond_text cond)
