-- Kleene's three-valued connectives, and the logical operations on values.
use Rattle.std.specs.Prelude.{Bool, true, false, Option, Some, None}
use Rattle.px_value.specs.declared.value.Value.{Value}
use Rattle.px_value.specs.declared.value.Value.TheVariants as values

-- the truth of a value: a Boolean's own, and none, which is UNKNOWN, for every other value
abbrev pub truth_of : Value → Option Bool
truth_of (values.Boolean truth) = Some truth
truth_of value = None

abbrev pub value_of_truth : Option Bool → Value
value_of_truth (Some truth) = values.Boolean truth
value_of_truth None = values.Unknown

-- AND: false where one side is false, true where both are true, else UNKNOWN
abbrev pub kleene_and : Option Bool → Option Bool → Option Bool
kleene_and (Some false) (Some false) = Some false
kleene_and (Some false) (Some true) = Some false
kleene_and (Some false) None = Some false
kleene_and (Some true) (Some false) = Some false
kleene_and (Some true) (Some true) = Some true
kleene_and (Some true) None = None
kleene_and None (Some false) = Some false
kleene_and None (Some true) = None
kleene_and None None = None

-- OR: true where one side is true, false where both are false, else UNKNOWN
abbrev pub kleene_or : Option Bool → Option Bool → Option Bool
kleene_or (Some false) (Some false) = Some false
kleene_or (Some false) (Some true) = Some true
kleene_or (Some false) None = None
kleene_or (Some true) (Some false) = Some true
kleene_or (Some true) (Some true) = Some true
kleene_or (Some true) None = Some true
kleene_or None (Some false) = None
kleene_or None (Some true) = Some true
kleene_or None None = None

-- XOR: UNKNOWN where a side is, else inequality
abbrev pub kleene_xor : Option Bool → Option Bool → Option Bool
kleene_xor (Some false) (Some false) = Some false
kleene_xor (Some false) (Some true) = Some true
kleene_xor (Some false) None = None
kleene_xor (Some true) (Some false) = Some true
kleene_xor (Some true) (Some true) = Some false
kleene_xor (Some true) None = None
kleene_xor None (Some false) = None
kleene_xor None (Some true) = None
kleene_xor None None = None

-- NOT
abbrev pub kleene_not : Option Bool → Option Bool
kleene_not (Some false) = Some true
kleene_not (Some true) = Some false
kleene_not None = None

-- the operations on values: an operand that is no Boolean counts as UNKNOWN
abbrev pub value_and : Value → Value → Value
value_and a b = value_of_truth (kleene_and (truth_of a) (truth_of b))

abbrev pub value_or : Value → Value → Value
value_or a b = value_of_truth (kleene_or (truth_of a) (truth_of b))

abbrev pub value_xor : Value → Value → Value
value_xor a b = value_of_truth (kleene_xor (truth_of a) (truth_of b))

abbrev pub value_not : Value → Value
value_not a = value_of_truth (kleene_not (truth_of a))
