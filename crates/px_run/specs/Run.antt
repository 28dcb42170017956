-- What `run` has come to: plan and script are read and the plan has started, and a session over a new journal is carried out.
use Rattle.std.specs.Prelude.{◌≡◌, ◌≤◌, ℕ, List, [], Some, None, length}
use Rattle.px_core.specs.Plan.{Site, Tree, sites}
use Rattle.px_output.specs.View.{View}
use Rattle.px_ports.specs.declared.disk.Disk
use Rattle.px_script.specs.Fit.{IsFitScript}
use Rattle.px_script.specs.declared.script.Script.{Script}
use Rattle.px_sem.specs.Run.{run, started}
use Rattle.px_sem.specs.Stepper.{Pending}
use Rattle.px_sem.specs.declared.stepper.Stepper
use Rattle.px_run.specs.Course.{Untouched, EndsIn, AfterFile}
use Rattle.px_ending.specs.Ending.{runaway_at_start}
use Rattle.px_run.specs.Reading.{Reads, with_text}
use Rattle.px_run.specs.Journaled.{NewCalls, RunCalls}
use Rattle.px_run.specs.Kinds.{plan_file, script_file}
use Rattle.px_ending.specs.Statuses.{ending_of}
use Rattle.px_run.specs.declared.stop.Stop.{Stop}
use Rattle.px_run.specs.declared.stop.Stop.TheVariants as stops
use Rattle.px_run.specs.declared.finishing.Carried.{Carried}
use Rattle.px_run.specs.declared.finishing.Telling.{Telling}
use Rattle.px_run.specs.declared.run.Prepared.{Prepared}
use Rattle.px_run.specs.Finishing.{Carries}

-- plan and script are read, and the plan has started
pub record IsPrepared {S : Type 0} (runs : Stepper.Ghosts S) (plan name : List ℕ) (before now : View) (prepared : Prepared S) : Type 0 where
  pub tree : Tree
  pub source : Reads (with_text plan_file) before now plan (prepared.text.items, tree)
  pub script : Reads (script_file (sites tree)) before now name prepared.script
  pub lines : IsFitScript prepared.script
  pub short : length prepared.text.items ≤ 1048576
  pub nodes : (runs.state prepared.stepper).nodes ≡ sites tree
  pub nothing : (runs.state prepared.stepper).pending ≡ Pending.Nothing
  pub started : run (runs.state prepared.stepper).nodes [] ≡ Some (runs.state prepared.stepper).world

-- or they are not: a file is refused, or the start runs away
abbrev pub IsNotPrepared : List ℕ → List ℕ → View → View → Stop → Type 0
IsNotPrepared plan script before now (stops.Refused refusal) =
    AfterFile (with_text plan_file) before now plan Untouched (λ source.
    AfterFile (script_file (sites source.1)) before now script Untouched (λ read course due.
    (started (sites source.1) ≡ None) × EndsIn Untouched runaway_at_start course due))
    Untouched (Some (ending_of refusal))
IsNotPrepared plan script before now stops.SinkFailed = ⊥
IsNotPrepared plan script before now stops.NoMemory = Unit {0}

module _ {D : Type 0} (members : Disk.Ghosts D) where
  abbrev pub RunCarries : List ℕ → List ℕ → List ℕ → ℕ → View → View → D → Carried D → Type 0
  RunCarries plan script journal limit before now old carried =
      Carries members journal (λ new. RunCalls members plan script limit before now old new) before now old carried

  -- the same of a plan that has started, behind a script that was read
  abbrev pub PreparedCarries : Telling → List Site → List ℕ → List ℕ → ℕ → Script → View → View → D → Carried D → Type 0
  PreparedCarries telling plan text journal limit script before now old carried =
      Carries members journal (λ new. NewCalls members telling plan text limit script old new) before now old carried
