-- The conditions and the priority of a node where its plan gives none (PLEXIL reference manual, "Node Conditions" and
-- "Assignment Nodes").
use Rattle.std.specs.Prelude.{ℕ, true, false, List, map}
use Rattle.px_value.specs.declared.comparison.CompareOp.TheVariants as compare
use Rattle.px_value.specs.declared.enums.NodeState.TheVariants as states
use Rattle.px_value.specs.declared.value.Value.TheVariants as values
use Rattle.px_core.specs.declared.expr.BinaryOp.TheVariants as binary
use Rattle.px_core.specs.declared.expr.UnaryOp.TheVariants as unary
use Rattle.px_core.specs.declared.node.Kind.{Kind}
use Rattle.px_core.specs.declared.node.Kind.TheVariants as kinds
use Rattle.px_core.specs.Joined.{truth, joined}
use Rattle.px_core.specs.Plan.{ConditionTerms}
use Rattle.px_core.specs.Expr.{Term, Literal, StateOf, HandleOf, Acknowledged, Unary, Binary}

-- the node at this path is FINISHED
abbrev pub is_finished : List ℕ → Term
is_finished path = Binary (binary.Compare compare.Equal) (StateOf path) (Literal (values.State states.Finished))

-- each of these nodes is FINISHED
abbrev pub each_finished : List (List ℕ) → Term
each_finished paths = joined binary.And true (map is_finished paths)

-- a node of this kind at this path, with children at these, ends
abbrev pub default_end : Kind → List ℕ → List (List ℕ) → Term
default_end kinds.List path children = each_finished children
default_end kinds.Empty path children = truth true
default_end kinds.Assignment path children = truth true
default_end kinds.Command path children = Unary unary.IsKnown (HandleOf path)
default_end kinds.Update path children = Acknowledged path

abbrev pub default_conditions : Kind → List ℕ → List (List ℕ) → ConditionTerms
default_conditions kind path children =
    record {
      start = truth true;
      end = default_end kind path children;
      exit = truth false;
      skip = truth false;
      repeat = truth false;
      pre = truth true;
      post = truth true;
      invariant = truth true;
    }

abbrev pub default_priority : ℕ
default_priority = 100000
