-- The reading of a plan and its script, and the start of the plan, ahead of a new journal.
use Rattle.std.proofs.Common.{◌≡◌, ◌≤◌, inr, ℕ, List, Some, None, IsErrAnd, Result, Err, IfErr, length, refl, sym, ap, subst}
use Rattle.px_value.proofs.General.{handed_on}
use Rattle.px_core.specs.Plan.{Site, Tree, sites}
use Rattle.px_output.specs.View.{View, OnlyReads, KeepsFiles}
use Rattle.px_ports.specs.declared.disk.Disk
use Rattle.px_script.specs.Fit.{IsFitScript}
use Rattle.px_script.specs.declared.script.Script.{Script}
use Rattle.px_sem.proofs.Logs.{run_started}
use Rattle.px_sem.specs.Run.{started}
use Rattle.px_sem.specs.Stepper.{settled_state}
use Rattle.px_sem.specs.declared.settling.StepFault.{StepFault}
use Rattle.px_sem.specs.declared.settling.StepFault.TheVariants as steps
use Rattle.px_sem.specs.declared.stepper.Stepper
use Rattle.px_session.proofs.Sessions.{untouched_at_once}
use Rattle.px_run.specs.Course.{Course, Untouched, Due, AfterFile}
use Rattle.px_ending.specs.Ending.{Ending, runaway_at_start}
use Rattle.px_run.specs.Reading.{FileKind, Seen, Content, Longer, Unreadable, Refuses, with_text, Reads}
use Rattle.px_run.specs.Run.{IsPrepared, IsNotPrepared, RunCarries, PreparedCarries}
use Rattle.px_run.specs.Finishing.{Carries}
use Rattle.px_run.specs.Journaled.{NewCalls, RunCallsBy, RunCalls}
use Rattle.px_run.specs.Kinds.{plan_file, script_file}
use Rattle.px_run.specs.Stops.{Performs, StopsReading, stop_of_start}
use Rattle.px_ending.specs.Statuses.{ending_of}
use Rattle.px_ending.specs.declared.status.End.{End}
use Rattle.px_run.specs.declared.stop.Stop.{Stop}
use Rattle.px_run.specs.declared.stop.Stop.TheVariants as stops
use Rattle.px_run.specs.declared.finishing.Carried.{Carried}
use Rattle.px_run.specs.declared.finishing.Telling.TheVariants as tellings
use Rattle.px_run.specs.declared.run.Prepared.{Prepared}
use Rattle.px_run.proofs.Performing.{performs_since}
use Rattle.px_run.proofs.SeenFiles.{shows_since, reads_later, reads_since, after_reading, after_since, reads_at_once}
use Rattle.px_run.proofs.Starting.{start_of}

-- ---- what stops the preparation

refuses_with_text : {A : Type 0} (kind : FileKind A) (seen : Seen) (ending : Ending) → Refuses kind seen ending → Refuses (with_text kind) seen ending
refuses_with_text kind (Content bytes) ending refuses = refuses
refuses_with_text kind Longer ending refuses = refuses
refuses_with_text kind Unreadable ending refuses = refuses

pub stops_with_text : {A : Type 0} (kind : FileKind A) (old new : View) (name : List ℕ) (stop : Stop) → StopsReading kind old new name stop
    → StopsReading (with_text kind) old new name stop
stops_with_text kind old new name (stops.Refused refusal) (seen, shows, refuses) = (seen, shows, refuses_with_text kind seen (ending_of refusal) refuses)
stops_with_text kind old new name stops.SinkFailed none = none
stops_with_text kind old new name stops.NoMemory any = any

plan_not_read : (old new : View) (plan script : List ℕ) (stop : Stop) → StopsReading plan_file old new plan stop
    → IsNotPrepared plan script old new stop
plan_not_read old new plan script (stops.Refused refusal) (seen, shows, refuses) =
    AfterFile.refused seen (ending_of refusal) shows (refuses_with_text plan_file seen (ending_of refusal) refuses)
plan_not_read old new plan script stops.SinkFailed none = none
plan_not_read old new plan script stops.NoMemory any = tt

script_not_read : (old mid new : View) (plan script text : List ℕ) (tree : Tree) (stop : Stop) → Reads (with_text plan_file) old mid plan (text, tree)
    → OnlyReads old mid → OnlyReads mid new → StopsReading (script_file (sites tree)) mid new script stop → IsNotPrepared plan script old new stop
script_not_read old mid new plan script text tree (stops.Refused refusal) source first second (seen, shows, refuses) =
    after_reading (List ℕ × Tree) (with_text plan_file) old new plan (text, tree) Untouched _ Untouched (Some (ending_of refusal))
    (reads_later (List ℕ × Tree) (with_text plan_file) old mid new plan (text, tree) second.read_faults source)
    (AfterFile.refused seen (ending_of refusal) (shows_since (script_file (sites tree)).limit old mid new script seen first shows) refuses)
script_not_read old mid new plan script text tree stops.SinkFailed source first second none = none
script_not_read old mid new plan script text tree stops.NoMemory source first second any = tt

start_not_made : (old mid new : View) (plan script text : List ℕ) (tree : Tree) (read : Script) (fault : StepFault)
    → Reads (with_text plan_file) old mid plan (text, tree) → OnlyReads old mid → OnlyReads mid new
    → Reads (script_file (sites tree)) mid new script read → (fault ≡ steps.Runaway → started (sites tree) ≡ None)
    → IsNotPrepared plan script old new (stop_of_start fault)
start_not_made old mid new plan script text tree read steps.Runaway source first second left runaway =
    after_reading (List ℕ × Tree) (with_text plan_file) old new plan (text, tree) Untouched _ Untouched (Some runaway_at_start)
    (reads_later (List ℕ × Tree) (with_text plan_file) old mid new plan (text, tree) second.read_faults source)
    (after_reading Script (script_file (sites tree)) old new script read Untouched _ Untouched (Some runaway_at_start)
    (reads_since Script (script_file (sites tree)) old mid new script read first left) (runaway refl, (refl, refl)))
start_not_made old mid new plan script text tree read steps.NoMemory source first second left runaway = tt

pub stopped_at_plan : {A : Type 0} (old new : View) (plan script : List ℕ) (stop : Stop) (r : Result A Stop) → IsErrAnd r (λ e. e ≡ stop)
    → StopsReading plan_file old new plan stop → IfErr r (IsNotPrepared plan script old new)
stopped_at_plan old new plan script stop r is reading =
    handed_on (IsNotPrepared plan script old new) stop r is (plan_not_read old new plan script stop reading)

pub stopped_at_script : {A : Type 0} (old mid new : View) (plan script text : List ℕ) (tree : Tree) (stop : Stop) (r : Result A Stop)
    → IsErrAnd r (λ e. e ≡ stop) → Reads (with_text plan_file) old mid plan (text, tree) → OnlyReads old mid → OnlyReads mid new
    → StopsReading (script_file (sites tree)) mid new script stop → IfErr r (IsNotPrepared plan script old new)
stopped_at_script old mid new plan script text tree stop r is source first second reading =
    handed_on (IsNotPrepared plan script old new) stop r is (script_not_read old mid new plan script text tree stop source first second reading)

pub stopped_at_start : {A : Type 0} (old mid new : View) (plan script text : List ℕ) (tree : Tree) (read : Script) (fault : StepFault)
    (r : Result A Stop) → IsErrAnd r (λ e. e ≡ stop_of_start fault) → Reads (with_text plan_file) old mid plan (text, tree) → OnlyReads old mid
    → OnlyReads mid new → Reads (script_file (sites tree)) mid new script read → (fault ≡ steps.Runaway → started (sites tree) ≡ None)
    → IfErr r (IsNotPrepared plan script old new)
stopped_at_start old mid new plan script text tree read fault r is source first second left runaway =
    handed_on (IsNotPrepared plan script old new) (stop_of_start fault) r is
    (start_not_made old mid new plan script text tree read fault source first second left runaway)

-- ---- a plan that has started

pub prepared : {S : Type 0} (runs : Stepper.Ghosts S) (old mid new : View) (plan name : List ℕ) (tree : Tree) (ready : Prepared S)
    → Reads (with_text plan_file) old mid plan (ready.text.items, tree) → OnlyReads old mid → OnlyReads mid new
    → length ready.text.items ≤ 1048576
    → Reads (script_file (sites tree)) mid new name ready.script → IsFitScript ready.script
    → (count : ℕ) × (started (sites tree) ≡ Some ((runs.state ready.stepper).world, count))
    → runs.state ready.stepper ≡ settled_state (sites tree) (runs.state ready.stepper).world
    → IsPrepared runs plan name old new ready
prepared runs old mid new plan name tree ready source first second short read fit_script start at_rest = record {
  tree = tree;
  source = reads_later (List ℕ × Tree) (with_text plan_file) old mid new plan (ready.text.items, tree) second.read_faults source;
  script = reads_since Script (script_file (sites tree)) old mid new name ready.script first read;
  lines = fit_script;
  short = short;
  nodes = ap (λ s. s.nodes) at_rest;
  nothing = ap (λ s. s.pending) at_rest;
  started = run_started (sites tree) (runs.state ready.stepper) start at_rest;
}

-- ---- what a command has carried out

-- one that called for this behind a view from which only reads were made
pub carries_since : {D : Type 0} (members : Disk.Ghosts D) (name : List ℕ) (Calls More : D → Course → Due → Type 0) (before mid now : View) (old : D)
    (carried : Carried D) → OnlyReads before mid → ((course : Course) (due : Due) → Calls carried.disk course due → More carried.disk course due)
    → Carries members name Calls mid now old carried → Carries members name More before now old carried
carries_since members name Calls More before mid now old carried only widen c = record {
  course = c.course;
  performs = performs_since before mid now (Calls carried.disk c.course) (More carried.disk c.course) carried.result only (widen c.course) c.performs;
  leaves = c.leaves;
  bound = c.bound;
  back = c.back;
}

-- one that made no call of the disk
pub carries_untouched : {D : Type 0} (members : Disk.Ghosts D) (name : List ℕ) (Calls : D → Course → Due → Type 0) (before now : View) (disk : D)
    (result : Result End Stop) → members.bound_to disk ≡ None → Performs before now (Calls disk Untouched) result
    → Carries members name Calls before now disk (record { result = result; disk = disk })
carries_untouched members name Calls before now disk result unbound performs = record {
  course = Untouched;
  performs = performs;
  leaves = λ tells. untouched_at_once members disk;
  bound = inr unbound;
  back = record { tells = refl; kept = λ other. refl };
}

-- ---- the command

module _ {D : Type 0} (members : Disk.Ghosts D) (plan script name : List ℕ) (limit : ℕ) (old mid new : View) (disk : D) where
  -- a plan that has started was run
  pub prepared_runs : {S : Type 0} (runs : Stepper.Ghosts S) (ready : Prepared S) (carried : Carried D) → OnlyReads old mid → KeepsFiles mid new
      → IsPrepared runs plan script old mid ready
      → PreparedCarries members tellings.Text (runs.state ready.stepper).nodes ready.text.items name limit ready.script mid new disk carried
      → RunCarries members plan script name limit old new disk carried
  prepared_runs runs ready carried only keeps is_ready of_nodes =
      carries_since members name (λ (to : D). NewCalls members tellings.Text (sites tree) ready.text.items limit ready.script disk to)
      (λ (to : D). RunCalls members plan script limit old new disk to) old mid new disk carried only
      (λ course due calls. after_reading (List ℕ × Tree) (with_text plan_file) old new plan (ready.text.items, tree) Untouched _ course due
      (reads_later (List ℕ × Tree) (with_text plan_file) old mid new plan (ready.text.items, tree) keeps.read_faults is_ready.source)
      (after_reading Script (script_file (sites tree)) old new script ready.script Untouched _ course due
      (reads_later Script (script_file (sites tree)) old mid new script ready.script keeps.read_faults is_ready.script)
      (subst (RunCallsBy members tellings.Text (sites tree) ready.text.items limit ready.script disk carried.disk course due)
      (sym (start_of _ _ _ is_ready.nodes is_ready.started).1) calls)))
      done
    where
      tree : Tree
      tree = is_ready.tree

      done : PreparedCarries members tellings.Text (sites tree) ready.text.items name limit ready.script mid new disk carried
      done = subst (λ (nodes : List Site). PreparedCarries members tellings.Text nodes ready.text.items name limit ready.script mid new disk carried) is_ready.nodes of_nodes

  -- where none has, the disk is as it was
  pub not_prepared_runs : (stop : Stop) → OnlyReads old mid → members.bound_to disk ≡ None → IsNotPrepared plan script old mid stop
      → RunCarries members plan script name limit old mid disk (record { result = Err stop; disk = disk })
  not_prepared_runs (stops.Refused refusal) only unbound calls =
      carries_untouched members name (λ (to : D). RunCalls members plan script limit old mid disk to) old mid disk (Err (stops.Refused refusal)) unbound (
        after_since (List ℕ × Tree) (with_text plan_file) old old mid plan Untouched _ _ Untouched (Some (ending_of refusal)) (reads_at_once old)
            (λ source next. after_since Script (script_file (sites source.1)) old old mid script Untouched _ _ Untouched (Some (ending_of refusal)) (reads_at_once old)
            (λ read runs_away. subst (RunCallsBy members tellings.Text (sites source.1) source.0 limit read disk disk Untouched (Some (ending_of refusal))) (sym runs_away.0) runs_away.1)
            next) calls,
        only.emitted,
      )
  not_prepared_runs stops.SinkFailed only unbound none = absurd none
  not_prepared_runs stops.NoMemory only unbound any =
      carries_untouched members name (λ (to : D). RunCalls members plan script limit old mid disk to) old mid disk (Err stops.NoMemory) unbound
      (inr (AfterFile.no_memory, only.emitted))
