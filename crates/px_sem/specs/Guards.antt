-- What holds of a node in a world: its conditions, what its ancestors ask of it, and so the guards of its rows.
use Rattle.std.specs.Prelude.{ℕ, Bool, true, false, not, ◌&&◌, ◌||◌, List, Option, Some, is_some}
use Rattle.std.specs.List.{list_all, list_any}
use Rattle.px_value.specs.declared.enums.NodeState.{NodeState}
use Rattle.px_value.specs.declared.enums.NodeState.TheVariants as states
use Rattle.px_value.specs.declared.enums.Failure.{Failure}
use Rattle.px_value.specs.declared.enums.Failure.TheVariants as failures
use Rattle.px_value.specs.declared.enums.Handle.{Handle}
use Rattle.px_value.specs.declared.enums.Handle.TheVariants as handles
use Rattle.px_value.specs.Truth.{truth_of}
use Rattle.px_core.specs.declared.conditions.ConditionKind.{ConditionKind}
use Rattle.px_core.specs.declared.conditions.ConditionKind.TheVariants as which
use Rattle.px_core.specs.declared.node.Kind.{Kind}
use Rattle.px_core.specs.declared.node.Kind.TheVariants as kinds
use Rattle.px_core.specs.Plan.{Site, site_at, is_child_of, condition_of}
use Rattle.px_sem.specs.declared.guards.Guards.{Guards}
use Rattle.px_sem.specs.Expressions.{value, handle_of, is_acknowledged}
use Rattle.px_sem.specs.World.{World, NodeRecord, Action, Commanded, AbortDone, record_at, state_at, parent_state}

-- a truth value of Kleene's three-valued logic, where none is UNKNOWN
abbrev pub Truth : Type 0
Truth = Option Bool

abbrev pub is_true : Truth → Bool
is_true (Some true) = true
is_true truth = false

abbrev pub is_false : Truth → Bool
is_false (Some false) = true
is_false truth = false

abbrev pub is_finished : NodeState → Bool
is_finished states.Finished = true
is_finished state = false

abbrev pub is_waiting : NodeState → Bool
is_waiting states.Waiting = true
is_waiting state = false

abbrev pub is_executing : NodeState → Bool
is_executing states.Executing = true
is_executing state = false

abbrev pub is_failing : NodeState → Bool
is_failing states.Failing = true
is_failing state = false

abbrev pub is_finishing : NodeState → Bool
is_finishing states.Finishing = true
is_finishing state = false

-- EXECUTING, FINISHING or FAILING
abbrev pub is_active : NodeState → Bool
is_active states.Executing = true
is_active states.Finishing = true
is_active states.Failing = true
is_active state = false

-- FINISHING, ITERATION_ENDED or FINISHED
abbrev pub is_past_end : NodeState → Bool
is_past_end states.Finishing = true
is_past_end states.IterationEnded = true
is_past_end states.Finished = true
is_past_end state = false

-- WAITING or FINISHED
abbrev pub is_at_rest : NodeState → Bool
is_at_rest state = is_waiting state || is_finished state

-- whether each child of the node at a path is in such a state
abbrev pub each_child : (NodeState → Bool) → List Site → World → List ℕ → Bool
each_child test plan world path =
    list_all (λ site. not (is_child_of path site) || test (state_at world site.path)) plan

-- the truth of a condition of a node (PLEXIL reference manual, "Node Conditions")
abbrev pub condition : List Site → World → Site → ConditionKind → Truth
condition plan world site which = truth_of (value plan world (condition_of site.head.conditions which))

-- a failure that reaches all below: by an Exit, by an Invariant
abbrev pub is_exit_failure : Option Failure → Bool
is_exit_failure (Some failures.Exited) = true
is_exit_failure (Some failures.ParentExited) = true
is_exit_failure failure = false

abbrev pub is_invariant_failure : Option Failure → Bool
is_invariant_failure (Some failures.InvariantConditionFailed) = true
is_invariant_failure (Some failures.ParentFailed) = true
is_invariant_failure failure = false

-- whether an ancestor with this record asks all below it to leave: by this truth of its Exit, its Invariant, its End
abbrev pub exit_asks : NodeRecord → Truth → Bool
exit_asks r exit =
    (is_active r.state && is_true exit) || (is_failing r.state && is_exit_failure r.failure)

abbrev pub invariant_asks : NodeRecord → Truth → Bool
invariant_asks r invariant =
    (is_active r.state && is_false invariant) || (is_failing r.state && is_invariant_failure r.failure)

abbrev pub end_asks : NodeRecord → Truth → Bool
end_asks r end = (is_executing r.state && is_true end) || is_past_end r.state

-- some node at these paths asks all below it to leave: by its Exit, its Invariant, its End
abbrev pub some_asks : (NodeRecord → Truth → Bool) → ConditionKind → List Site → World → List (List ℕ) → Bool
some_asks asks kind plan world paths =
    list_any (λ path. asks (record_at world path) (condition plan world (site_at plan path) kind)) paths

-- the outside is done with a command (PLEXIL reference manual, "Command Handles")
abbrev pub is_final_handle : Option Handle → Bool
is_final_handle (Some handles.CommandSuccess) = true
is_final_handle (Some handles.CommandFailed) = true
is_final_handle (Some handles.CommandDenied) = true
is_final_handle handle = false

-- its abort is done, or its handle is a last one
abbrev pub command_is_over : Action → Bool
command_is_over (Commanded index handle AbortDone) = true
command_is_over (Commanded index handle abort) = is_final_handle handle
command_is_over _ = false

-- whether a failing node may leave FAILING: by its kind, its action, and whether its children are at rest
abbrev pub ready_in : Kind → Action → Bool → Bool
ready_in kinds.List _ rest = rest
ready_in kinds.Empty _ rest = false
ready_in kinds.Assignment _ rest = true
ready_in kinds.Command action rest = command_is_over action
ready_in kinds.Update action rest = is_acknowledged action

abbrev pub is_ready : List Site → World → Site → Bool
is_ready plan world site =
    ready_in site.head.kind (record_at world site.path).action (each_child is_at_rest plan world site.path)

-- what the transition table asks
abbrev pub guards : List Site → World → Site → Guards
guards plan world site = record {
  outcome = (record_at world site.path).outcome;
  failure = (record_at world site.path).failure;
  parent_waiting = is_waiting (parent_state world site);
  parent_executing = is_executing (parent_state world site);
  parent_finished = is_finished (parent_state world site);
  ancestor_exit = some_asks exit_asks which.Exit plan world site.above;
  ancestor_invariant = some_asks invariant_asks which.Invariant plan world site.above;
  ancestor_end = some_asks end_asks which.End plan world site.above;
  exit_true = is_true (condition plan world site which.Exit);
  skip_true = is_true (condition plan world site which.Skip);
  start_true = is_true (condition plan world site which.Start);
  pre_true = is_true (condition plan world site which.Pre);
  invariant_false = is_false (condition plan world site which.Invariant);
  end_true = is_true (condition plan world site which.End);
  post_true = is_true (condition plan world site which.Post);
  repeat_false = is_false (condition plan world site which.Repeat);
  repeat_true = is_true (condition plan world site which.Repeat);
  children_rest = each_child is_at_rest plan world site.path;
  handle_known = is_some (handle_of (record_at world site.path).action);
  ready = is_ready plan world site;
}
