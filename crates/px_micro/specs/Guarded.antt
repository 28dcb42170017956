-- The guards of a node, by what is seen of it.
use Rattle.std.specs.Prelude.{ℕ, Bool, is_some}
use Rattle.px_value.specs.declared.enums.NodeState.{NodeState}
use Rattle.px_core.specs.declared.node.Kind.{Kind}
use Rattle.px_sem.specs.declared.guards.Guards.{Guards}
use Rattle.px_sem.specs.World as world
use Rattle.px_sem.specs.Expressions.{handle_of}
use Rattle.px_sem.specs.Guards as sem
use Rattle.px_sem.specs.Guards.{is_true, is_false, ready_in, is_waiting, is_executing, is_finished}
use Rattle.px_flat.specs.Row.{site_in}
use Rattle.px_parts.specs.declared.parts.Parts.{Parts}
use Rattle.px_parts.specs.Parts.{plan_in, world_in}
use Rattle.px_told.specs.declared.asks.Asks.{Asks}
use Rattle.px_micro.specs.declared.truths.Truths.{Truths}

-- the guards of a node, as the semantics has them
abbrev pub guards_at : Parts → ℕ → Guards
guards_at parts node = sem.guards (plan_in parts) (world_in parts) (site_in (plan_in parts) node)

-- all guards of a node: by its kind, its record, its parent's state, what its ancestors ask, whether its children are at
-- rest, and the truths of its conditions
abbrev pub guards_in : Kind → world.NodeRecord → NodeState → Asks → Bool → Truths → Guards
guards_in kind r parent asked rest truths = record {
  outcome = r.outcome;
  failure = r.failure;
  parent_waiting = is_waiting parent;
  parent_executing = is_executing parent;
  parent_finished = is_finished parent;
  ancestor_exit = asked.exit;
  ancestor_invariant = asked.invariant;
  ancestor_end = asked.end;
  exit_true = is_true truths.exit;
  skip_true = is_true truths.skip;
  start_true = is_true truths.start;
  pre_true = is_true truths.pre;
  invariant_false = is_false truths.invariant;
  end_true = is_true truths.end;
  post_true = is_true truths.post;
  repeat_false = is_false truths.repeat;
  repeat_true = is_true truths.repeat;
  children_rest = rest;
  handle_known = is_some (handle_of r.action);
  ready = ready_in kind r.action rest;
}
