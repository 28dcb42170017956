-- Which kind of node a simple action is, and what the node does.
use Rattle.std.specs.Prelude.{map, Option, Some, None}
use Rattle.std.specs.Option.{option_map}
use Rattle.px_syntax.specs.Block.{TargetData, CallData, PairData, BodyTree, Assign, CallInto, Call, Update}
use Rattle.px_core.specs.declared.node.Kind.{Kind}
use Rattle.px_core.specs.declared.node.Kind.TheVariants as kinds
use Rattle.px_core.specs.Plan as plan
use Rattle.px_core.specs.Plan.{BodyData}
use Rattle.px_scope.specs.Resolving.{resolved, resolved_each}
use Rattle.px_scope.specs.Scope.{Scope, owner_of}

abbrev pub kind_of : BodyTree → Kind
kind_of (Assign target value) = kinds.Assignment
kind_of (CallInto target call) = kinds.Command
kind_of (Call call) = kinds.Command
kind_of (Update token pairs) = kinds.Update
kind_of body = kinds.List

abbrev pub target_of : Scope → TargetData → plan.TargetData
target_of scope target = record {
  owner = owner_of scope target.name.name;
  name = target.name.name;
  index = option_map (resolved scope) target.index;
}

abbrev pub pair_of : Scope → PairData → plan.PairData
pair_of scope pair = record { name = pair.name.name; value = resolved scope pair.value }

abbrev pub command_of : Scope → CallData → Option plan.TargetData → BodyData
command_of scope call result = plan.Command call.name.name (resolved_each scope call.args) result

-- what a simple action does, in the scope inside its node
abbrev pub body_of : Scope → BodyTree → BodyData
body_of scope (Assign target value) = plan.Assign (target_of scope target) (resolved scope value)
body_of scope (CallInto target call) = command_of scope call (Some (target_of scope target))
body_of scope (Call call) = command_of scope call None
body_of scope (Update token pairs) = plan.Update (map (pair_of scope) pairs)
body_of scope body = plan.Nothing
