-- Starts, and what is posted to a plan that has started.
use Rattle.std.proofs.Common.{◌≡◌, ℕ, List, [], ◌++◌, Option, Some, None, IsSome, Result, refl, ap, subst, sym, ◌∙◌}
use Rattle.px_core.specs.Plan.{Site, Tree, sites}
use Rattle.px_event.specs.declared.entry.Entry.{Entry}
use Rattle.px_value.proofs.General.{is_some_at, told_of}
use Rattle.px_output.specs.Drafts.{Keeps, Holds}
use Rattle.px_output.specs.Printing.{Prints}
use Rattle.px_output.specs.View.{View}
use Rattle.px_output.specs.declared.printer.PrintFault.{PrintFault}
use Rattle.px_output.proofs.Telling.{run_starts}
use Rattle.px_script.specs.Order.{InFileOrder}
use Rattle.px_script.specs.declared.todo.Todo.{Todo}
use Rattle.px_sem.proofs.Logs.{run_at_start, run_started}
use Rattle.px_sem.specs.Log.{Log, AnswersEach, HasRun, accepted, posted_in}
use Rattle.px_sem.specs.Run.{started, run}
use Rattle.px_sem.specs.Stepper.{State, settled_state}
use Rattle.px_sem.specs.Text.{text_of, trace}
use Rattle.px_sem.specs.World.{World}
use Rattle.px_words.specs.Limited.{event_limit}
use Rattle.px_run.specs.Course.{Untouched}
use Rattle.px_ending.specs.Ending.{runaway_at_start, start_ending, of_start, log_ending}
use Rattle.px_run.specs.Headline.{IsDryRun, DryRunOf}
use Rattle.px_run.proofs.Finished.{prints_session}

-- where a start settles, its text is the empty log's
pub start_is : (tree : Tree) (to : World) (count : ℕ) → started (sites tree) ≡ Some (to, count)
    → log_ending (sites tree) [] ≡ start_ending tree
start_is tree to count is = sym (ap (of_start (sites tree)) is)

pub runs_away : (tree : Tree) → started (sites tree) ≡ None → runaway_at_start ≡ start_ending tree
runs_away tree none = sym (ap (of_start (sites tree)) none)

pub nodes_at_rest : (plan : List Site) (now : State) → now ≡ settled_state plan now.world → now.nodes ≡ plan
nodes_at_rest plan now rest = ap (λ (s : State). s.nodes) rest

-- a stepper that has settled after the start has run the empty history
pub started_has_run : (plan : List Site) (now : State) → (count : ℕ) × (started plan ≡ Some (now.world, count)) → now ≡ settled_state plan now.world
    → HasRun now.nodes [] now
started_has_run plan now start rest =
    (run_started plan now start rest, rest ∙ ap (λ nodes. settled_state nodes now.world) (sym (nodes_at_rest plan now rest)))

-- a stepper that has run a history, by the history and the nodes that it shows
pub has_run_still : (plan : List Site) (shown history : List Entry) (now : State) → shown ≡ history → HasRun plan history now → HasRun now.nodes shown now
has_run_still plan shown history now is ran =
    rw is (subst (λ nodes. HasRun nodes history now) (sym (nodes_at_rest plan now ran.1)) ran)

-- the draft of a trace, by the history and the nodes that are shown
pub holds_still : (plan nodes : List Site) (shown history : List Entry) (draft : Option (List ℕ)) → nodes ≡ plan → shown ≡ history
    → Holds draft (trace plan history) → Holds draft (trace nodes shown)
holds_still plan nodes shown history draft same is holds = rw (same, is) holds

-- a draft that was new at the start
pub start_held : (plan nodes : List Site) (new draft : Option (List ℕ)) → nodes ≡ plan → new ≡ Some [] → Keeps new draft (trace plan [])
    → Holds draft (trace nodes [])
start_held plan nodes new draft same is keeps = rw same (subst (λ new. Keeps new draft (trace plan [])) is keeps)

-- where an empty history has a run, the start settles
pub some_start : (plan : List Site) → IsSome (run plan []) → (settled : World × ℕ) × (started plan ≡ Some settled)
some_start plan runs = told_of (started plan) (run_starts plan [] runs)

-- by the nodes of a stepper, and by the world in which it is then
pub start_of : (plan nodes : List Site) (world : World) → nodes ≡ plan → run nodes [] ≡ Some world → (found : World × ℕ) × (started plan ≡ Some found)
start_of plan nodes world same runs = some_start plan (is_some_at (run plan []) world (subst (λ nodes. run nodes [] ≡ Some world) same runs))

-- what posting all entries of a script has come to is what a dry run calls for
pub posted_all : (tree : Tree) (threads : List Todo) (now : State) (log : Log) (entries : List Entry)
    → (count : ℕ) × (started (sites tree) ≡ Some (now.world, count)) → now ≡ settled_state (sites tree) now.world
    → InFileOrder threads entries → posted_in log ≡ entries → AnswersEach now.nodes event_limit [] log
    → DryRunOf (sites tree) threads Untouched (Some (log_ending (sites tree) log))
posted_all tree threads now log entries (count, start) rest order each answers =
    let dry : IsDryRun (sites tree) threads log = record {
      order = rw each order;
      legal = record {
        runs = rw (run_at_start (sites tree) now.world count start) refl;
        answers = subst (λ nodes. AnswersEach nodes event_limit [] log) (nodes_at_rest (sites tree) now rest) answers;
      };
    } in
    DryRunOf.whole log dry

-- the text that is printed of a log from the start, by the nodes of the stepper
pub prints_log : (mid new : View) (nodes plan : List Site) (shown history : List Entry) (shown_log log : Log) (r : Result Unit PrintFault)
    → nodes ≡ plan → shown ≡ history → shown_log ≡ log → history ≡ accepted log
    → ((before : List Entry) → shown ≡ before ++ accepted shown_log → Prints mid [] new [] (text_of nodes before shown_log) r)
    → Prints mid [] new [] (text_of plan [] log) r
prints_log mid new nodes plan shown history shown_log log r nodes_is entries_is log_is accepts prints =
    subst (λ (plan : List Site). Prints mid [] new [] (text_of plan [] log) r) nodes_is
    (prints_session (text_of nodes) mid new shown history [] shown_log log r entries_is log_is accepts prints)
