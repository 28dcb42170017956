-- The names of states, outcomes, failures and handles, as plans, traces and scripts spell them.
use Rattle.std.specs.Prelude.{ℕ, List, codes}
use Rattle.px_value.specs.declared.enums.NodeState.{NodeState}
use Rattle.px_value.specs.declared.enums.NodeState.TheVariants as states
use Rattle.px_value.specs.declared.enums.Outcome.{Outcome}
use Rattle.px_value.specs.declared.enums.Outcome.TheVariants as outcomes
use Rattle.px_value.specs.declared.enums.Failure.{Failure}
use Rattle.px_value.specs.declared.enums.Failure.TheVariants as failures
use Rattle.px_value.specs.declared.enums.Handle.{Handle}
use Rattle.px_value.specs.declared.enums.Handle.TheVariants as handles

abbrev pub state_word : NodeState → List ℕ
state_word states.Inactive = codes "INACTIVE"
state_word states.Waiting = codes "WAITING"
state_word states.Executing = codes "EXECUTING"
state_word states.Finishing = codes "FINISHING"
state_word states.IterationEnded = codes "ITERATION_ENDED"
state_word states.Failing = codes "FAILING"
state_word states.Finished = codes "FINISHED"

abbrev pub outcome_word : Outcome → List ℕ
outcome_word outcomes.Success = codes "SUCCESS"
outcome_word outcomes.Failure = codes "FAILURE"
outcome_word outcomes.Skipped = codes "SKIPPED"
outcome_word outcomes.Interrupted = codes "INTERRUPTED"

abbrev pub failure_word : Failure → List ℕ
failure_word failures.PreConditionFailed = codes "PRE_CONDITION_FAILED"
failure_word failures.PostConditionFailed = codes "POST_CONDITION_FAILED"
failure_word failures.InvariantConditionFailed = codes "INVARIANT_CONDITION_FAILED"
failure_word failures.ParentFailed = codes "PARENT_FAILED"
failure_word failures.Exited = codes "EXITED"
failure_word failures.ParentExited = codes "PARENT_EXITED"

abbrev pub handle_word : Handle → List ℕ
handle_word handles.CommandSentToSystem = codes "COMMAND_SENT_TO_SYSTEM"
handle_word handles.CommandAccepted = codes "COMMAND_ACCEPTED"
handle_word handles.CommandRcvdBySystem = codes "COMMAND_RCVD_BY_SYSTEM"
handle_word handles.CommandFailed = codes "COMMAND_FAILED"
handle_word handles.CommandDenied = codes "COMMAND_DENIED"
handle_word handles.CommandSuccess = codes "COMMAND_SUCCESS"
