-- Which guards the rows of a state read.
use Rattle.std.specs.Prelude.{false, None}
use Rattle.px_value.specs.declared.enums.NodeState.{NodeState}
use Rattle.px_value.specs.declared.enums.NodeState.TheVariants.{Inactive, Waiting, Executing, Finishing, IterationEnded, Failing, Finished}
use Rattle.px_sem.specs.declared.guards.Guards.{Guards}

-- as if no guard held
abbrev pub unread : Guards
unread = record {
  outcome = None;
  failure = None;
  parent_waiting = false;
  parent_executing = false;
  parent_finished = false;
  ancestor_exit = false;
  ancestor_invariant = false;
  ancestor_end = false;
  exit_true = false;
  skip_true = false;
  start_true = false;
  pre_true = false;
  invariant_false = false;
  end_true = false;
  post_true = false;
  repeat_false = false;
  repeat_true = false;
  children_rest = false;
  handle_known = false;
  ready = false;
}

-- those of the guards that the rows of a state read, of whatever kind the node is; the others as if they did not hold
abbrev pub read_by : NodeState → Guards → Guards
read_by Inactive g =
    record unread { parent_finished = g.parent_finished; parent_executing = g.parent_executing }
read_by Waiting g = record unread {
  ancestor_exit = g.ancestor_exit;
  exit_true = g.exit_true;
  ancestor_invariant = g.ancestor_invariant;
  ancestor_end = g.ancestor_end;
  skip_true = g.skip_true;
  start_true = g.start_true;
  pre_true = g.pre_true;
}
read_by Executing g = record unread {
  ancestor_exit = g.ancestor_exit;
  exit_true = g.exit_true;
  ancestor_invariant = g.ancestor_invariant;
  invariant_false = g.invariant_false;
  end_true = g.end_true;
  post_true = g.post_true;
}
read_by Finishing g = record unread {
  ancestor_exit = g.ancestor_exit;
  exit_true = g.exit_true;
  ancestor_invariant = g.ancestor_invariant;
  invariant_false = g.invariant_false;
  children_rest = g.children_rest;
  handle_known = g.handle_known;
  post_true = g.post_true;
  outcome = g.outcome;
  failure = g.failure;
}
read_by Failing g = record unread { ready = g.ready; outcome = g.outcome; failure = g.failure }
read_by IterationEnded g = record unread {
  ancestor_exit = g.ancestor_exit;
  ancestor_invariant = g.ancestor_invariant;
  ancestor_end = g.ancestor_end;
  repeat_false = g.repeat_false;
  repeat_true = g.repeat_true;
  outcome = g.outcome;
  failure = g.failure;
}
read_by Finished g = record unread { parent_waiting = g.parent_waiting }
