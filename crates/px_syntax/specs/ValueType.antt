-- The types of expressions, and which types operators and functions take and give.
use Rattle.std.specs.Prelude.{Bool, true, false, not, List, [], ◌∷◌}
use Rattle.std.specs.List.{list_any}
use denote.Enum.Bare.{sameb}
use Rattle.px_syntax.specs.contracts.value_type.ValueType.{the_type as value_types}
use Rattle.px_syntax.specs.declared.expr.Attribute.{Attribute as AttributeWord}
use Rattle.px_syntax.specs.declared.expr.Attribute.TheVariants as attributes
use Rattle.px_syntax.specs.declared.expr.Enumerated.{Enumerated as EnumeratedValue}
use Rattle.px_syntax.specs.declared.expr.Enumerated.TheVariants as enumerated
use Rattle.px_syntax.specs.declared.expr.Literal.{Literal as LiteralValue}
use Rattle.px_syntax.specs.declared.expr.Literal.TheVariants as literals
use Rattle.px_syntax.specs.declared.operator.BinaryOperator.{BinaryOperator}
use Rattle.px_syntax.specs.declared.operator.BinaryOperator.TheVariants as binary
use Rattle.px_syntax.specs.declared.operator.UnaryOperator.{UnaryOperator}
use Rattle.px_syntax.specs.declared.operator.UnaryOperator.TheVariants as unary
use Rattle.px_syntax.specs.declared.value_type.ValueType.{ValueType}
use Rattle.px_syntax.specs.declared.value_type.ValueType.TheVariants.{Boolean, Integer, String, State, Outcome, Failure, Handle, Any}
use Rattle.px_syntax.specs.declared.word.BinaryFunction.{BinaryFunction}
use Rattle.px_syntax.specs.declared.word.BinaryFunction.TheVariants as binary_functions
use Rattle.px_syntax.specs.declared.word.TypeName.{TypeName}
use Rattle.px_syntax.specs.declared.word.TypeName.TheVariants as names
use Rattle.px_syntax.specs.declared.word.UnaryFunction.{UnaryFunction}
use Rattle.px_syntax.specs.declared.word.UnaryFunction.TheVariants as unary_functions

-- ---- the types of words

-- the type that a declaration names
abbrev pub named_type : TypeName → ValueType
named_type names.Integer = Integer
named_type names.Boolean = Boolean
named_type names.String = String

-- the type of a value that is written as itself
abbrev pub literal_type : LiteralValue → ValueType
literal_type (literals.Integer value) = Integer
literal_type (literals.Boolean value) = Boolean
literal_type (literals.Text content) = String

-- the type of the name of a state, an outcome, a failure or a handle
abbrev pub enumerated_type : EnumeratedValue → ValueType
enumerated_type (enumerated.State state) = State
enumerated_type (enumerated.Outcome outcome) = Outcome
enumerated_type (enumerated.Failure failure) = Failure
enumerated_type (enumerated.Handle handle) = Handle

-- the type of what is read of a node
abbrev pub attribute_type : AttributeWord → ValueType
attribute_type attributes.State = State
attribute_type attributes.Outcome = Outcome
attribute_type attributes.Failure = Failure
attribute_type attributes.CommandHandle = Handle

-- ---- which types fit where

-- a type is one of those that are allowed, or fits everywhere
abbrev pub fits : List ValueType → ValueType → Bool
fits allowed Any = true
fits allowed given = list_any (sameb value_types given) allowed

-- every type
abbrev pub all_types : List ValueType
all_types = Boolean ∷ Integer ∷ String ∷ State ∷ Outcome ∷ Failure ∷ Handle ∷ []

-- the types of what may be told: of an argument, or of a value of an update
abbrev pub told_types : List ValueType
told_types = Boolean ∷ Integer ∷ String ∷ []

-- the types that are allowed where something of a type is meant
abbrev pub allowed_as : ValueType → List ValueType
allowed_as Any = all_types
allowed_as known = known ∷ []

-- two types that differ, neither of which fits everywhere
abbrev pub differ : ValueType → ValueType → Bool
differ left right = not (fits (allowed_as left) right)

-- ---- operators and functions

-- what each of two operands may be, whether they have to be of one type, and what the operation gives
pub record Signature : Type 0 where
  pub takes : List ValueType
  pub alike : Bool
  pub gives : ValueType → ValueType → ValueType

-- an operation that gives the same type whatever its operands are
abbrev pub always : ValueType → ValueType → ValueType → ValueType
always given left right = given

-- A sum has its left operand's type, or its right one's where that is Any.
abbrev pub sum_type : ValueType → ValueType → ValueType
sum_type Any right = right
sum_type left right = left

-- of two Booleans a Boolean
abbrev pub logic : Signature
logic = record { takes = Boolean ∷ []; alike = false; gives = always Boolean }

-- of two of one type a Boolean
abbrev pub equality : Signature
equality = record { takes = all_types; alike = true; gives = always Boolean }

-- of two Integers a Boolean
abbrev pub comparison : Signature
comparison = record { takes = Integer ∷ []; alike = false; gives = always Boolean }

-- of two Integers or two Strings one of them
abbrev pub addition : Signature
addition = record { takes = Integer ∷ String ∷ []; alike = true; gives = sum_type }

-- of two Integers an Integer
abbrev pub arithmetic : Signature
arithmetic = record { takes = Integer ∷ []; alike = false; gives = always Integer }

abbrev pub binary_signature : BinaryOperator → Signature
binary_signature binary.Or = logic
binary_signature binary.Xor = logic
binary_signature binary.And = logic
binary_signature binary.Equal = equality
binary_signature binary.Differs = equality
binary_signature binary.Less = comparison
binary_signature binary.AtMost = comparison
binary_signature binary.Greater = comparison
binary_signature binary.AtLeast = comparison
binary_signature binary.Plus = addition
binary_signature binary.Minus = arithmetic
binary_signature binary.Times = arithmetic
binary_signature binary.Over = arithmetic
binary_signature binary.Rest = arithmetic

abbrev pub binary_function_signature : BinaryFunction → Signature
binary_function_signature binary_functions.Min = arithmetic
binary_function_signature binary_functions.Max = arithmetic

-- what the one operand may be, and what the operation gives
pub record UnarySignature : Type 0 where
  pub takes : List ValueType
  pub gives : ValueType

abbrev pub unary_signature : UnaryOperator → UnarySignature
unary_signature unary.Not = record { takes = Boolean ∷ []; gives = Boolean }
unary_signature unary.Negative = record { takes = Integer ∷ []; gives = Integer }

abbrev pub unary_function_signature : UnaryFunction → UnarySignature
unary_function_signature unary_functions.IsKnown = record { takes = all_types; gives = Boolean }
unary_function_signature unary_functions.Abs = record { takes = Integer ∷ []; gives = Integer }
unary_function_signature unary_functions.StrLen = record { takes = String ∷ []; gives = Integer }
