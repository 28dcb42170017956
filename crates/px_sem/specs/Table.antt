-- The transition table in this project's own profile, after the transition diagrams of the PLEXIL reference manual: for each
-- state the rows in order, of which the first whose guard holds decides.
use Rattle.std.specs.Prelude.{Bool, true, false, not, ◌&&◌, ◌++◌, List, [], ◌∷◌, Option, Some, None, if◌then◌else◌}
use Rattle.std.specs.Map.{lookup}
use Rattle.px_value.specs.declared.enums.NodeState.{NodeState}
use Rattle.px_value.specs.declared.enums.NodeState.TheVariants.{Inactive, Waiting, Executing, Finishing, IterationEnded, Failing, Finished}
use Rattle.px_value.specs.declared.enums.Outcome.{Outcome}
use Rattle.px_value.specs.declared.enums.Outcome.TheVariants as outcomes
use Rattle.px_value.specs.declared.enums.Failure.{Failure}
use Rattle.px_value.specs.declared.enums.Failure.TheVariants as failures
use Rattle.px_core.specs.declared.node.Kind.{Kind}
use Rattle.px_core.specs.declared.node.Kind.TheVariants as kinds
use Rattle.px_sem.specs.declared.guards.Guards.{Guards}
use Rattle.px_sem.specs.declared.guards.Arrival.{Arrival}

-- a row: a guard, and where it leads
abbrev pub Row : Type 0
Row = Bool × Arrival

abbrev pub first_row : List Row → Option Arrival
first_row rows = lookup (λ (holds : Bool). holds) rows

-- where rows lead
abbrev pub to : NodeState → Arrival
to state = record { to = state; outcome = None; failure = None }

abbrev pub ended : NodeState → Outcome → Arrival
ended state outcome = record { to = state; outcome = Some outcome; failure = None }

abbrev pub ended_by : NodeState → Outcome → Failure → Arrival
ended_by state outcome failure = record { to = state; outcome = Some outcome; failure = Some failure }

abbrev pub both_kept : NodeState → Guards → Arrival
both_kept state g = record { to = state; outcome = g.outcome; failure = g.failure }

abbrev pub by_post : NodeState → Guards → Arrival
by_post state g =
    if g.post_true then ended state outcomes.Success else ended_by state outcomes.Failure failures.PostConditionFailed

abbrev pub skipped : Arrival
skipped = ended Finished outcomes.Skipped

-- whether a failure came from above
abbrev pub is_from_above : Option Failure → Bool
is_from_above (Some failures.ParentFailed) = true
is_from_above (Some failures.ParentExited) = true
is_from_above failure = false

abbrev pub inactive_rows : Guards → List Row
inactive_rows g =
    (g.parent_finished, skipped)
    ∷ (g.parent_executing, to Waiting)
    ∷ []

abbrev pub waiting_rows : Guards → List Row
waiting_rows g =
    (g.ancestor_exit, skipped)
    ∷ (g.exit_true, skipped)
    ∷ (g.ancestor_invariant, skipped)
    ∷ (g.ancestor_end, skipped)
    ∷ (g.skip_true, skipped)
    ∷ (g.start_true && not g.pre_true, ended_by IterationEnded outcomes.Failure failures.PreConditionFailed)
    ∷ (g.start_true, to Executing)
    ∷ []

-- an Empty node has nothing to wind down, so it leaves EXECUTING at once
abbrev pub empty_stop_rows : Guards → List Row
empty_stop_rows g =
    (g.ancestor_exit, ended_by Finished outcomes.Interrupted failures.ParentExited)
    ∷ (g.exit_true, ended_by IterationEnded outcomes.Interrupted failures.Exited)
    ∷ (g.ancestor_invariant, ended_by Finished outcomes.Failure failures.ParentFailed)
    ∷ (g.invariant_false, ended_by IterationEnded outcomes.Failure failures.InvariantConditionFailed)
    ∷ []

abbrev pub stop_rows : Guards → List Row
stop_rows g =
    (g.ancestor_exit, ended_by Failing outcomes.Interrupted failures.ParentExited)
    ∷ (g.exit_true, ended_by Failing outcomes.Interrupted failures.Exited)
    ∷ (g.ancestor_invariant, ended_by Failing outcomes.Failure failures.ParentFailed)
    ∷ (g.invariant_false, ended_by Failing outcomes.Failure failures.InvariantConditionFailed)
    ∷ []

-- the end of a node's work
abbrev pub end_row : Kind → Guards → Row
end_row kinds.Empty g = (g.end_true, by_post IterationEnded g)
end_row kinds.List g = (g.end_true, by_post Finishing g)
end_row kinds.Command g = (g.end_true, to Finishing)
end_row kinds.Update g = (g.end_true, by_post IterationEnded g)
end_row kinds.Assignment g = (g.end_true, by_post IterationEnded g)

abbrev pub stop_rows_of : Kind → Guards → List Row
stop_rows_of kinds.Empty g = empty_stop_rows g
stop_rows_of kind g = stop_rows g

abbrev pub executing_rows : Kind → Guards → List Row
executing_rows kind g = stop_rows_of kind g ++ end_row kind g ∷ []

-- the end of winding down, of the kinds that have one
abbrev pub wind_down_rows : Kind → Guards → List Row
wind_down_rows kinds.List g = (g.children_rest, both_kept IterationEnded g) ∷ []
wind_down_rows kinds.Command g = (g.handle_known, by_post IterationEnded g) ∷ []
wind_down_rows kind g = []

abbrev pub finishing_rows : Kind → Guards → List Row
finishing_rows kind g = stop_rows g ++ wind_down_rows kind g

abbrev pub failing_rows : Guards → List Row
failing_rows g =
    (g.ready && is_from_above g.failure, both_kept Finished g)
    ∷ (g.ready, both_kept IterationEnded g)
    ∷ []

abbrev pub iteration_ended_rows : Guards → List Row
iteration_ended_rows g =
    (g.ancestor_exit, ended_by Finished outcomes.Interrupted failures.ParentExited)
    ∷ (g.ancestor_invariant, ended_by Finished outcomes.Failure failures.ParentFailed)
    ∷ (g.ancestor_end, both_kept Finished g)
    ∷ (g.repeat_false, both_kept Finished g)
    ∷ (g.repeat_true, to Waiting)
    ∷ []

abbrev pub finished_rows : Guards → List Row
finished_rows g = (g.parent_waiting, to Inactive) ∷ []

abbrev pub rows : Kind → NodeState → Guards → List Row
rows kind Inactive g = inactive_rows g
rows kind Waiting g = waiting_rows g
rows kind Executing g = executing_rows kind g
rows kind Finishing g = finishing_rows kind g
rows kind Failing g = failing_rows g
rows kind IterationEnded g = iteration_ended_rows g
rows kind Finished g = finished_rows g

-- where a node goes, or none where it stays
abbrev pub dest : Kind → NodeState → Guards → Option Arrival
dest kind state g = first_row (rows kind state g)
