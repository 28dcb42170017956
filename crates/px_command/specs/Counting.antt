-- Where an event counts, by what a node has in the parts.
use Rattle.std.specs.Prelude.{Bool, true, false, ◌&&◌, ◌||◌}
use Rattle.px_value.specs.declared.enums.NodeState.{NodeState}
use Rattle.px_sem.specs.Guards.{is_active, is_executing, is_failing, is_finishing}
use Rattle.px_flat.specs.declared.act.Act.{Act}
use Rattle.px_flat.specs.declared.act.Act.TheVariants as acts
use Rattle.px_flat.specs.Numbered.{BodyNumbered, Update}

-- a command is under way
abbrev pub is_sent : Act → Bool
is_sent (acts.Sent index abort) = true
is_sent act = false

abbrev pub is_update : BodyNumbered → Bool
is_update (Update values) = true
is_update body = false

abbrev pub handle_counts : NodeState → Act → Bool
handle_counts state act = is_active state && is_sent act

-- (and where the command has a result)
abbrev pub return_counts : NodeState → Bool
return_counts state = is_executing state || is_finishing state

abbrev pub abort_done_counts : NodeState → Act → Bool
abort_done_counts state act = is_failing state && is_sent act

abbrev pub acknowledgement_counts : NodeState → BodyNumbered → Bool
acknowledgement_counts state body = is_update body && (is_executing state || is_failing state)
