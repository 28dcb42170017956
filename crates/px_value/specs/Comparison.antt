-- The six comparisons of values.
use Rattle.std.specs.Prelude.{Bool, Option, Some, None, nat_eq, int_lt, int_le}
use Rattle.std.specs.Bool.{beq}
use Rattle.std.specs.Ordering.{int_eq}
use Rattle.std.specs.Cmp.Lexicographic.{pointwise}
use denote.Enum.Bare.{sameb}
use Rattle.px_value.specs.contracts.enums.NodeState.{the_type as state_type}
use Rattle.px_value.specs.contracts.enums.Outcome.{the_type as outcome_type}
use Rattle.px_value.specs.contracts.enums.Failure.{the_type as failure_type}
use Rattle.px_value.specs.contracts.enums.Handle.{the_type as handle_type}
use Rattle.px_value.specs.declared.value.Value.{Value}
use Rattle.px_value.specs.declared.value.Value.TheVariants as values
use Rattle.px_value.specs.declared.comparison.CompareOp.{CompareOp}
use Rattle.px_value.specs.declared.comparison.CompareOp.TheVariants.{Equal, Differs, Less, AtMost, Greater, AtLeast}
use Rattle.px_value.specs.Truth.{value_of_truth, kleene_not}

-- whether two values of one type are the same; none where one is UNKNOWN or their types differ
abbrev pub sameness : Value → Value → Option Bool
sameness (values.Boolean a) (values.Boolean b) = Some (beq a b)
sameness (values.Integer a) (values.Integer b) = Some (int_eq a b)
sameness (values.Text a) (values.Text b) = Some (pointwise nat_eq a b)
sameness (values.State a) (values.State b) = Some (sameb state_type a b)
sameness (values.Outcome a) (values.Outcome b) = Some (sameb outcome_type a b)
sameness (values.Failure a) (values.Failure b) = Some (sameb failure_type a b)
sameness (values.Handle a) (values.Handle b) = Some (sameb handle_type a b)
sameness a b = None

-- equality goes by sameness, the four orders take Integers, and everything else is UNKNOWN
abbrev pub value_compare : CompareOp → Value → Value → Value
value_compare Equal a b = value_of_truth (sameness a b)
value_compare Differs a b = value_of_truth (kleene_not (sameness a b))
value_compare Less (values.Integer a) (values.Integer b) = values.Boolean (int_lt a b)
value_compare AtMost (values.Integer a) (values.Integer b) = values.Boolean (int_le a b)
value_compare Greater (values.Integer a) (values.Integer b) = values.Boolean (int_lt b a)
value_compare AtLeast (values.Integer a) (values.Integer b) = values.Boolean (int_le b a)
value_compare op a b = values.Unknown
