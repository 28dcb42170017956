-- WHAT `soak` CALLS FOR, and what it has come to: its plan and its script are its own, and no file is read.
use Rattle.std.specs.Prelude.{◌≡◌, ℕ, List, [], Some, None, codes}
use Rattle.px_compile.specs.Compiled.{IsCompiled}
use Rattle.px_core.specs.Plan.{Tree, sites}
use Rattle.px_output.specs.View.{View}
use Rattle.px_ports.specs.declared.disk.Disk
use Rattle.px_script.specs.Fit.{IsFitScript}
use Rattle.px_script.specs.Soak.{soak_threads}
use Rattle.px_script.specs.declared.script.Script.{Script}
use Rattle.px_sem.specs.Run.{run, started}
use Rattle.px_sem.specs.Stepper.{Pending}
use Rattle.px_sem.specs.declared.stepper.Stepper
use Rattle.px_words.specs.Limited.{event_limit}
use Rattle.px_run.specs.Course.{Course, Untouched, Due}
use Rattle.px_ending.specs.Ending.{runaway_at_start}
use Rattle.px_run.specs.Journaled.{RunCallsBy}
use Rattle.px_ending.specs.Statuses.{ending_of}
use Rattle.px_run.specs.declared.stop.Stop.{Stop}
use Rattle.px_run.specs.declared.stop.Stop.TheVariants as stops
use Rattle.px_run.specs.declared.finishing.Carried.{Carried}
use Rattle.px_run.specs.declared.finishing.Telling.TheVariants as tellings
use Rattle.px_run.specs.declared.run.Prepared.{Prepared}
use Rattle.px_run.specs.Finishing.{Carries}

-- THE PLAN: it adds up what is reported, and takes each report that is greater than the last that it has seen
abbrev pub soak_plan : List ℕ
soak_plan = codes "Soak: Sequence {\n  Integer seen = 0;\n  Integer sum = 0;\n  Start Lookup(level) > seen;\n  Repeat true;\n  Add: { sum = sum + Lookup(level) % 100; }\n  Note: { seen = Lookup(level); }\n}\n"

-- the script: its lines are of one thread, which has no name
abbrev pub soak_lines : ℕ → ℕ → Script
soak_lines count seed = record { threads = soak_threads count seed; names = [] }

-- the plan of a soak has started, and these are its lines
pub record IsSoakPrepared {S : Type 0} (runs : Stepper.Ghosts S) (count seed : ℕ) (prepared : Prepared S) : Type 0 where
  pub tree : Tree
  pub text : prepared.text.items ≡ soak_plan
  pub compiled : IsCompiled soak_plan tree
  pub script : prepared.script ≡ soak_lines count seed
  pub lines : IsFitScript prepared.script
  pub nodes : (runs.state prepared.stepper).nodes ≡ sites tree
  pub nothing : (runs.state prepared.stepper).pending ≡ Pending.Nothing
  pub started : run (runs.state prepared.stepper).nodes [] ≡ Some (runs.state prepared.stepper).world

-- or it has not: its start runs away, or memory is wanting
abbrev pub IsSoakNotPrepared : Stop → Type 0
IsSoakNotPrepared (stops.Refused refusal) =
    (tree : Tree) × IsCompiled soak_plan tree × (started (sites tree) ≡ None) × (ending_of refusal ≡ runaway_at_start)
IsSoakNotPrepared stops.SinkFailed = ⊥
IsSoakNotPrepared stops.NoMemory = Unit {0}

module _ {D : Type 0} (members : Disk.Ghosts D) where
  -- the plan starts, its journal is made, and a session of the script runs over it, whose summary is told; or memory runs out
  pub data SoakCalls (count seed : ℕ) (old new : D) : Course → Due → Type 0 where
    starts :
        (tree : Tree) (course : Course) (due : Due) → IsCompiled soak_plan tree
        → RunCallsBy members tellings.Summary (sites tree) soak_plan event_limit (soak_lines count seed) old new course due (started (sites tree))
        → SoakCalls count seed old new course due
    no_memory : SoakCalls count seed old new Untouched None

  abbrev pub SoakCarries : ℕ → ℕ → List ℕ → View → View → D → Carried D → Type 0
  SoakCarries count seed journal before now old carried =
      Carries members journal (λ new. SoakCalls count seed old new) before now old carried
