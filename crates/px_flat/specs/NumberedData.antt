-- Numbered expressions and bodies with lists in place of vectors.
use Rattle.std.specs.Prelude.{◌≡◌, ℕ, ◌<◌, List, [], ◌∷◌, map, length, slice_index_or}
use Rattle.std.specs.Option.{option_map}
use Rattle.px_core.specs.Plan.{Site}
use Rattle.px_flat.specs.declared.numbered.NumberedBody.{NumberedBody}
use Rattle.px_flat.specs.declared.numbered.NumberedBody.TheVariants as bodies
use Rattle.px_flat.specs.declared.numbered.NumberedConditions.{NumberedConditions}
use Rattle.px_flat.specs.declared.numbered.NumberedExpr.{NumberedExpr}
use Rattle.px_flat.specs.declared.numbered.NumberedExpr.TheOpen.{NumberedExpr-F}
use Rattle.px_flat.specs.declared.numbered.NumberedExpr.TheFolds.{fold-NumberedExpr}
use Rattle.px_flat.specs.declared.numbered.NumberedNode.{NumberedNode}
use Rattle.px_flat.specs.declared.numbered.NumberedTarget.{NumberedTarget}
use Rattle.px_flat.specs.Numbered.{Numbered, EachNumbered, NoneNumbered, MoreNumbered, ConditionsNumbered, TargetNumbered, BodyNumbered, NodeNumbered, numbered_node}
use Rattle.px_flat.specs.Numbered as numbers
use Rattle.px_flat.specs.Row.{site_in}

abbrev pub in_turn : List Numbered → EachNumbered
in_turn [] = NoneNumbered
in_turn (first ∷ rest) = MoreNumbered first (in_turn rest)

-- one expression, where those in it are data already
abbrev pub expr_step : NumberedExpr-F Numbered → Numbered
expr_step (NumberedExpr-F.Literal value) = numbers.Literal value
expr_step (NumberedExpr-F.Variable cell) = numbers.Variable cell
expr_step (NumberedExpr-F.Element first size index) = numbers.Element first size index.value
expr_step (NumberedExpr-F.StateOf node) = numbers.StateOf node
expr_step (NumberedExpr-F.OutcomeOf node) = numbers.OutcomeOf node
expr_step (NumberedExpr-F.FailureOf node) = numbers.FailureOf node
expr_step (NumberedExpr-F.HandleOf node) = numbers.HandleOf node
expr_step (NumberedExpr-F.Acknowledged node) = numbers.Acknowledged node
expr_step (NumberedExpr-F.Look lookup args tolerance) = numbers.Look lookup (in_turn args.items) tolerance
expr_step (NumberedExpr-F.Unary op arg) = numbers.Unary op arg.value
expr_step (NumberedExpr-F.Binary op left right) = numbers.Binary op left.value right.value

abbrev pub expr_data : NumberedExpr → Numbered
expr_data = fold-NumberedExpr Numbered expr_step

abbrev pub target_data : NumberedTarget → TargetNumbered
target_data target = record {
  place = record { first = target.first; size = target.size };
  kind = target.kind;
  index = option_map expr_data target.index;
}

abbrev pub body_data : NumberedBody → BodyNumbered
body_data bodies.Nothing = numbers.Nothing
body_data (bodies.Assign target value) = numbers.Assign (target_data target) (expr_data value)
body_data (bodies.Command args result) = numbers.Command (map expr_data args.items) (option_map target_data result)
body_data (bodies.Update values) = numbers.Update (map expr_data values.items)

abbrev pub conditions_data : NumberedConditions → ConditionsNumbered
conditions_data conditions = record {
  start = expr_data conditions.start;
  end = expr_data conditions.end;
  exit = expr_data conditions.exit;
  skip = expr_data conditions.skip;
  repeat = expr_data conditions.repeat;
  pre = expr_data conditions.pre;
  post = expr_data conditions.post;
  invariant = expr_data conditions.invariant;
}

abbrev pub node_data : NumberedNode → NodeNumbered
node_data node = record { conditions = conditions_data node.conditions; body = body_data node.body }

-- these are what a plan's nodes compute
pub record AreNumbered (plan : List Site) (nodes : List NumberedNode) : Type 0 where
  pub long : length nodes ≡ length plan
  pub each : (node : ℕ) (d : NumberedNode) → node < length plan
      → node_data (slice_index_or nodes node d) ≡ numbered_node plan (site_in plan node).head
