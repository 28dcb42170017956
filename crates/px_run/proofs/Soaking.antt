-- A soak, from its plan and its lines.
use Rattle.std.proofs.Common.{◌≡◌, inr, ℕ, List, Some, None, Result, Err, IsErrAnd, IfErr, refl, sym, ap, subst}
use Rattle.px_value.proofs.General.{handed_on}
use Rattle.px_compile.specs.Compiled.{IsCompiled}
use Rattle.px_core.specs.Plan.{Site, Tree, sites}
use Rattle.px_output.specs.View.{View}
use Rattle.px_ports.specs.declared.disk.Disk
use Rattle.px_script.specs.Fit.{IsFitScript}
use Rattle.px_script.specs.declared.script.Script.{Script}
use Rattle.px_sem.proofs.Logs.{run_started}
use Rattle.px_sem.specs.Run.{started}
use Rattle.px_sem.specs.Stepper.{settled_state}
use Rattle.px_sem.specs.declared.settling.StepFault.{StepFault}
use Rattle.px_sem.specs.declared.settling.StepFault.TheVariants as steps
use Rattle.px_sem.specs.declared.stepper.Stepper
use Rattle.px_words.specs.Limited.{event_limit}
use Rattle.px_run.specs.Course.{Untouched}
use Rattle.px_run.specs.Journaled.{NewCalls, RunCallsBy}
use Rattle.px_run.specs.Run.{PreparedCarries}
use Rattle.px_run.specs.Soak.{soak_plan, soak_lines, IsSoakPrepared, IsSoakNotPrepared, SoakCalls, SoakCarries}
use Rattle.px_run.specs.Stops.{stop_of_start}
use Rattle.px_ending.specs.Statuses.{ending_of}
use Rattle.px_run.specs.declared.stop.Stop.{Stop}
use Rattle.px_run.specs.declared.stop.Stop.TheVariants as stops
use Rattle.px_run.specs.declared.finishing.Carried.{Carried}
use Rattle.px_run.specs.declared.finishing.Telling.TheVariants as tellings
use Rattle.px_run.specs.declared.run.Prepared.{Prepared}
use Rattle.px_run.proofs.Preparing.{carries_since, carries_untouched}
use Rattle.px_run.proofs.SeenFiles.{reads_at_once}
use Rattle.px_run.proofs.Starting.{start_of}

-- a start that runs away, or for which memory is wanting
no_start : (tree : Tree) (fault : StepFault) → IsCompiled soak_plan tree → (fault ≡ steps.Runaway → started (sites tree) ≡ None)
    → IsSoakNotPrepared (stop_of_start fault)
no_start tree steps.Runaway compiled runaway = (tree, compiled, runaway refl, refl)
no_start tree steps.NoMemory compiled runaway = tt

pub soak_not_started : {A : Type 0} (tree : Tree) (fault : StepFault) (r : Result A Stop) → IsErrAnd r (λ e. e ≡ stop_of_start fault)
    → IsCompiled soak_plan tree → (fault ≡ steps.Runaway → started (sites tree) ≡ None) → IfErr r IsSoakNotPrepared
soak_not_started tree fault r is compiled runaway = handed_on IsSoakNotPrepared (stop_of_start fault) r is (no_start tree fault compiled runaway)

-- a plan that has started
pub soak_prepared : {S : Type 0} (runs : Stepper.Ghosts S) (count seed : ℕ) (tree : Tree) (ready : Prepared S) → ready.text.items ≡ soak_plan
    → IsCompiled soak_plan tree → ready.script ≡ soak_lines count seed → IsFitScript ready.script
    → (steps : ℕ) × (started (sites tree) ≡ Some ((runs.state ready.stepper).world, steps))
    → runs.state ready.stepper ≡ settled_state (sites tree) (runs.state ready.stepper).world → IsSoakPrepared runs count seed ready
soak_prepared runs count seed tree ready text compiled script fit start at_rest = record {
  tree = tree;
  text = text;
  compiled = compiled;
  script = script;
  lines = fit;
  nodes = ap (λ s. s.nodes) at_rest;
  nothing = ap (λ s. s.pending) at_rest;
  started = run_started (sites tree) (runs.state ready.stepper) start at_rest;
}

module _ {D : Type 0} (members : Disk.Ghosts D) (count seed : ℕ) (name : List ℕ) (before now : View) (disk : D) where
  -- a plan that has started was run
  pub prepared_soaks : {S : Type 0} (runs : Stepper.Ghosts S) (ready : Prepared S) (carried : Carried D) → IsSoakPrepared runs count seed ready
      → PreparedCarries members tellings.Summary (runs.state ready.stepper).nodes ready.text.items name event_limit ready.script before now disk carried
      → SoakCarries members count seed name before now disk carried
  prepared_soaks runs ready carried is_ready of_nodes =
      carries_since members name (λ (to : D). NewCalls members tellings.Summary (sites is_ready.tree) soak_plan event_limit (soak_lines count seed) disk to)
      (λ (to : D). SoakCalls members count seed disk to) before before now disk carried (reads_at_once before)
      (λ course due calls. SoakCalls.starts is_ready.tree course due is_ready.compiled
      (subst (RunCallsBy members tellings.Summary (sites is_ready.tree) soak_plan event_limit (soak_lines count seed) disk carried.disk course due)
      (sym (start_of _ _ _ is_ready.nodes is_ready.started).1) calls))
      done
    where
      done : PreparedCarries members tellings.Summary (sites is_ready.tree) soak_plan name event_limit (soak_lines count seed) before now disk carried
      done =
          subst (λ (nodes : List Site). PreparedCarries members tellings.Summary nodes soak_plan name event_limit (soak_lines count seed) before now disk carried)
          is_ready.nodes
          (subst (λ (text : List ℕ). PreparedCarries members tellings.Summary (runs.state ready.stepper).nodes text name event_limit (soak_lines count seed) before now disk carried)
          is_ready.text
          (subst (λ (script : Script). PreparedCarries members tellings.Summary (runs.state ready.stepper).nodes ready.text.items name event_limit script before now disk carried)
          is_ready.script of_nodes))

  -- where none has, the disk is as it was
  pub not_prepared_soaks : (stop : Stop) → members.bound_to disk ≡ None → IsSoakNotPrepared stop
      → SoakCarries members count seed name before before disk (record { result = Err stop; disk = disk })
  not_prepared_soaks (stops.Refused refusal) unbound (tree, compiled, none, is) =
      carries_untouched members name (λ (to : D). SoakCalls members count seed disk to) before before disk (Err (stops.Refused refusal)) unbound (
        SoakCalls.starts tree Untouched (Some (ending_of refusal)) compiled
            (subst (RunCallsBy members tellings.Summary (sites tree) soak_plan event_limit (soak_lines count seed) disk disk Untouched (Some (ending_of refusal))) (sym none)
            (refl, ap Some is)),
        refl,
      )
  not_prepared_soaks stops.SinkFailed unbound none = absurd none
  not_prepared_soaks stops.NoMemory unbound any =
      carries_untouched members name (λ (to : D). SoakCalls members count seed disk to) before before disk (Err stops.NoMemory) unbound
      (inr (SoakCalls.no_memory, refl))
