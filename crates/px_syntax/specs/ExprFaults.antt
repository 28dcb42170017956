-- The faults of an expression, and its type.
use Rattle.std.specs.Prelude.{ℕ, suc, Bool, true, false, not, ◌&&◌, ◌==◌, nat_lt, List, [], ◌∷◌, ◌++◌, length, Option, Some, None, if◌then◌else◌}
use Rattle.std.specs.Option.{option_map_or, option_and_then, unwrap_or}
use Rattle.px_syntax.specs.declared.expr.Attribute.{Attribute as AttributeWord}
use Rattle.px_syntax.specs.declared.expr.Attribute.TheVariants as attributes
use Rattle.px_syntax.specs.declared.expr.Identifier.{Identifier}
use Rattle.px_syntax.specs.declared.expr.NodeReference.{NodeReference}
use Rattle.px_syntax.specs.declared.expr.Tolerance.{Tolerance}
use Rattle.px_syntax.specs.declared.fault.FaultKind.{FaultKind}
use Rattle.px_syntax.specs.declared.fault.FaultKind.TheVariants.{Undeclared, TypeDiffers, NoSuchNode, ArgCount, TooLarge}
use Rattle.px_syntax.specs.declared.value_type.ValueType.{ValueType}
use Rattle.px_syntax.specs.declared.value_type.ValueType.TheVariants.{Integer, Any}
use Rattle.px_syntax.specs.Expr.{Term, Terms, Literal, Enumerated, Variable, Element, Attribute, Look, UnaryCall, BinaryCall, Unary, Binary, NoTerms, More}
use Rattle.px_syntax.specs.Fault.{Fault, fault_at, fault_where}
use Rattle.px_syntax.specs.Scope.{Scope, Visible, Global, Head, declared, variable_named, meant, reference_token}
use Rattle.px_syntax.specs.ValueType.{Signature, literal_type, enumerated_type, attribute_type, fits, differ, told_types, allowed_as, binary_signature, binary_function_signature, unary_signature, unary_function_signature}

-- the first token of an expression, parentheses round it apart
abbrev pub first_token : Term → ℕ
first_token (Literal value token) = token
first_token (Enumerated value token) = token
first_token (Variable name) = name.token
first_token (Element array index) = array.token
first_token (Attribute node attribute) = reference_token node
first_token (Look word token name args tolerance) = token
first_token (UnaryCall function token argument) = token
first_token (BinaryCall function token first second) = token
first_token (Unary operator token operand) = token
first_token (Binary operator left right) = first_token left

abbrev pub count_terms : Terms → ℕ
count_terms NoTerms = 0
count_terms (More first rest) = suc (count_terms rest)

-- ---- what is at fault itself

-- an array has no index, or a scalar has one
abbrev pub is_misused : Visible → Bool → Bool
is_misused variable has_index = if variable.is_array then not has_index else has_index

-- a variable that isn't visible, or, of this kind, one that has an index or none where it must not
abbrev pub name_faults : FaultKind → Scope → Identifier → Bool → List Fault
name_faults misuse scope name has_index = of_variable (variable_named scope name.name)
  where
    of_variable : Option Visible → List Fault
    of_variable None = fault_at Undeclared name.token
    of_variable (Some variable) = fault_where (is_misused variable has_index) misuse name.token

-- no such node is there, or it is no Command and its handle is read
abbrev pub attribute_faults : Scope → NodeReference → AttributeWord → List Fault
attribute_faults scope node attribute = of_node (meant scope node) attribute
  where
    of_node : Option Head → AttributeWord → List Fault
    of_node None attribute = fault_at NoSuchNode (reference_token node)
    of_node (Some head) attributes.CommandHandle = fault_where (not head.is_command) NoSuchNode (reference_token node)
    of_node (Some head) attribute = []

-- more arguments, parameters or pairs than 8
abbrev pub over_eight : ℕ → ℕ → List Fault
over_eight count token = fault_where (nat_lt 8 count) TooLarge token

-- another number of arguments than is declared, or more than 8
abbrev pub count_faults : Option Global → Identifier → ℕ → List Fault
count_faults known name count =
    fault_where (not (option_map_or (λ global. length global.parameters == count) known true)) ArgCount name.token
    ++ over_eight count name.token

-- what is at fault itself counts as Any for whatever judges it
abbrev pub any_where_faulty : List Fault → ValueType → ValueType
any_where_faulty [] own = own
any_where_faulty (fault ∷ faults) own = Any

-- ---- types

abbrev pub variable_type : Scope → Identifier → ValueType
variable_type scope name = option_map_or (λ variable. variable.of_type) (variable_named scope name.name) Any

-- the type of a variable that stands with an index or without one, for whatever judges it
abbrev pub type_named : FaultKind → Scope → Identifier → Bool → ValueType
type_named misuse scope name has_index =
    any_where_faulty (name_faults misuse scope name has_index) (variable_type scope name)

-- what a lookup gives
abbrev pub answer_type : Option Global → ValueType
answer_type known = unwrap_or (option_and_then (λ global. global.answer) known) Any

-- a tolerance of a lookup that gives a Boolean or a String
abbrev pub tolerance_faults : Option Global → Option Tolerance → List Fault
tolerance_faults known None = []
tolerance_faults known (Some tolerance) =
    fault_where (not (fits (Integer ∷ []) (answer_type known))) TypeDiffers tolerance.token

-- what a lookup is at fault for, its arguments apart
abbrev pub look_faults : Option Global → Identifier → ℕ → Option Tolerance → List Fault
look_faults known name count tolerance = count_faults known name count ++ tolerance_faults known tolerance

-- an operand of a type that is not allowed counts as Any
abbrev pub any_unless_allowed : List ValueType → ValueType → ValueType
any_unless_allowed allowed given = if fits allowed given then given else Any

-- what an operation gives of operands of these types
abbrev pub given_by : Signature → ValueType → ValueType → ValueType
given_by signature left right =
    signature.gives (any_unless_allowed signature.takes left) (any_unless_allowed signature.takes right)

-- the type of an expression, for whatever judges it
abbrev pub type_of : Scope → Term → ValueType
type_of scope (Literal value token) = literal_type value
type_of scope (Enumerated value token) = enumerated_type value
type_of scope (Variable name) = type_named TypeDiffers scope name false
type_of scope (Element array index) = type_named TypeDiffers scope array true
type_of scope (Attribute node attribute) =
    any_where_faulty (attribute_faults scope node attribute) (attribute_type attribute)
type_of scope (Look word token name args tolerance) =
    any_where_faulty (look_faults (declared scope.lookups name.name) name (count_terms args) tolerance)
    (answer_type (declared scope.lookups name.name))
type_of scope (UnaryCall function token argument) = (unary_function_signature function).gives
type_of scope (BinaryCall function token first second) =
    given_by (binary_function_signature function) (type_of scope first) (type_of scope second)
type_of scope (Unary operator token operand) = (unary_signature operator).gives
type_of scope (Binary operator left right) =
    given_by (binary_signature operator) (type_of scope left) (type_of scope right)

-- ---- all faults

-- an expression of another type than these
abbrev pub type_fault : List ValueType → Scope → Term → List Fault
type_fault allowed scope term = fault_where (not (fits allowed (type_of scope term))) TypeDiffers (first_token term)

-- Of two operands that have to be of one type and are each allowed, the right one is of the wrong type where they differ.
abbrev pub alike_fault : Signature → Scope → Term → Term → List Fault
alike_fault signature scope left right =
    fault_where
    (signature.alike
    && differ (any_unless_allowed signature.takes (type_of scope left))
    (any_unless_allowed signature.takes (type_of scope right)))
    TypeDiffers (first_token right)

-- what the parameters of a declared lookup or command take
abbrev pub parameters_of : Option Global → List ValueType
parameters_of known = option_map_or (λ global. global.parameters) known []

abbrev mutual
  pub expr_faults : Scope → Term → List Fault
  expr_faults scope (Literal value token) = []
  expr_faults scope (Enumerated value token) = []
  expr_faults scope (Variable name) = name_faults TypeDiffers scope name false
  expr_faults scope (Element array index) =
      name_faults TypeDiffers scope array true
      ++ expr_faults scope index ++ type_fault (Integer ∷ []) scope index
  expr_faults scope (Attribute node attribute) = attribute_faults scope node attribute
  expr_faults scope (Look word token name args tolerance) =
      look_faults (declared scope.lookups name.name) name (count_terms args) tolerance
      ++ argument_faults scope (parameters_of (declared scope.lookups name.name)) args
  expr_faults scope (UnaryCall function token argument) =
      expr_faults scope argument ++ type_fault (unary_function_signature function).takes scope argument
  expr_faults scope (BinaryCall function token first second) =
      expr_faults scope first ++ type_fault (binary_function_signature function).takes scope first
      ++ expr_faults scope second ++ type_fault (binary_function_signature function).takes scope second
  expr_faults scope (Unary operator token operand) =
      expr_faults scope operand ++ type_fault (unary_signature operator).takes scope operand
  expr_faults scope (Binary operator left right) =
      expr_faults scope left ++ type_fault (binary_signature operator).takes scope left
      ++ expr_faults scope right ++ type_fault (binary_signature operator).takes scope right
      ++ alike_fault (binary_signature operator) scope left right

  -- each argument is of its parameter's type, and one without a parameter of a type that can be told
  pub argument_faults : Scope → List ValueType → Terms → List Fault
  argument_faults scope parameters NoTerms = []
  argument_faults scope [] (More first rest) =
      expr_faults scope first ++ type_fault told_types scope first ++ argument_faults scope [] rest
  argument_faults scope (parameter ∷ parameters) (More first rest) =
      expr_faults scope first ++ type_fault (allowed_as parameter) scope first
      ++ argument_faults scope parameters rest

-- the faults of an expression where these types are allowed
abbrev pub faults_as : List ValueType → Scope → Term → List Fault
faults_as allowed scope term = expr_faults scope term ++ type_fault allowed scope term
