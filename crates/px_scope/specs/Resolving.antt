-- Expressions with paths in place of names: a row for each form of expression, and for each operator and function.
use Rattle.std.specs.Prelude.{ℕ, List, [], ◌∷◌}
use Rattle.std.specs.Option.{option_map}
use Rattle.px_value.specs.declared.arithmetic.ArithOp.TheVariants as arithmetic
use Rattle.px_value.specs.declared.comparison.CompareOp.TheVariants as compare
use Rattle.px_value.specs.declared.value.Value.{Value}
use Rattle.px_value.specs.declared.value.Value.TheVariants as values
use Rattle.px_syntax.specs.declared.expr.Attribute.{Attribute as AttributeWord}
use Rattle.px_syntax.specs.declared.expr.Attribute.TheVariants as attributes
use Rattle.px_syntax.specs.declared.expr.Enumerated.{Enumerated as EnumeratedValue}
use Rattle.px_syntax.specs.declared.expr.Enumerated.TheVariants as enumerated
use Rattle.px_syntax.specs.declared.expr.Literal.{Literal as LiteralValue}
use Rattle.px_syntax.specs.declared.expr.Literal.TheVariants as literals
use Rattle.px_syntax.specs.declared.operator.BinaryOperator.{BinaryOperator}
use Rattle.px_syntax.specs.declared.operator.BinaryOperator.TheVariants as operators
use Rattle.px_syntax.specs.declared.operator.UnaryOperator.{UnaryOperator}
use Rattle.px_syntax.specs.declared.operator.UnaryOperator.TheVariants as unary_operators
use Rattle.px_syntax.specs.declared.word.BinaryFunction.{BinaryFunction}
use Rattle.px_syntax.specs.declared.word.BinaryFunction.TheVariants as functions
use Rattle.px_syntax.specs.declared.word.LookWord.{LookWord as WrittenWord}
use Rattle.px_syntax.specs.declared.word.LookWord.TheVariants as written
use Rattle.px_syntax.specs.declared.word.UnaryFunction.{UnaryFunction}
use Rattle.px_syntax.specs.declared.word.UnaryFunction.TheVariants as unary_functions
use Rattle.px_syntax.specs.Expr as text
use Rattle.px_core.specs.declared.expr.BinaryOp.{BinaryOp}
use Rattle.px_core.specs.declared.expr.BinaryOp.TheVariants as binary
use Rattle.px_core.specs.declared.expr.LookWord.{LookWord}
use Rattle.px_core.specs.declared.expr.LookWord.TheVariants as words
use Rattle.px_core.specs.declared.expr.UnaryOp.{UnaryOp}
use Rattle.px_core.specs.declared.expr.UnaryOp.TheVariants as unary
use Rattle.px_core.specs.Expr.{Term, Literal, Var, Cell, StateOf, OutcomeOf, FailureOf, HandleOf, Look, Unary, Binary, in_turn}
use Rattle.px_scope.specs.Scope.{Scope, owner_of, path_meant}

-- ---- values

abbrev pub literal_value : LiteralValue → Value
literal_value (literals.Integer number) = values.Integer number
literal_value (literals.Boolean truth) = values.Boolean truth
literal_value (literals.Text content) = values.Text content

abbrev pub enumerated_value : EnumeratedValue → Value
enumerated_value (enumerated.State state) = values.State state
enumerated_value (enumerated.Outcome outcome) = values.Outcome outcome
enumerated_value (enumerated.Failure failure) = values.Failure failure
enumerated_value (enumerated.Handle handle) = values.Handle handle

-- ---- operators, functions and words

abbrev pub binary_op : BinaryOperator → BinaryOp
binary_op operators.Or = binary.Or
binary_op operators.Xor = binary.Xor
binary_op operators.And = binary.And
binary_op operators.Equal = binary.Compare compare.Equal
binary_op operators.Differs = binary.Compare compare.Differs
binary_op operators.Less = binary.Compare compare.Less
binary_op operators.AtMost = binary.Compare compare.AtMost
binary_op operators.Greater = binary.Compare compare.Greater
binary_op operators.AtLeast = binary.Compare compare.AtLeast
binary_op operators.Plus = binary.Add
binary_op operators.Minus = binary.Arith arithmetic.Minus
binary_op operators.Times = binary.Arith arithmetic.Times
binary_op operators.Over = binary.Arith arithmetic.Over
binary_op operators.Rest = binary.Arith arithmetic.Rest

abbrev pub unary_op : UnaryOperator → UnaryOp
unary_op unary_operators.Not = unary.Not
unary_op unary_operators.Negative = unary.Minus

abbrev pub binary_function_op : BinaryFunction → BinaryOp
binary_function_op functions.Min = binary.Arith arithmetic.Min
binary_function_op functions.Max = binary.Arith arithmetic.Max

abbrev pub unary_function_op : UnaryFunction → UnaryOp
unary_function_op unary_functions.IsKnown = unary.IsKnown
unary_function_op unary_functions.Abs = unary.Abs
unary_function_op unary_functions.StrLen = unary.Length

abbrev pub look_word : WrittenWord → LookWord
look_word written.Lookup = words.Lookup
look_word written.LookupNow = words.LookupNow
look_word written.LookupOnChange = words.LookupOnChange

-- an attribute of the node at a path
abbrev pub attribute_term : AttributeWord → List ℕ → Term
attribute_term attributes.State = StateOf
attribute_term attributes.Outcome = OutcomeOf
attribute_term attributes.Failure = FailureOf
attribute_term attributes.CommandHandle = HandleOf

-- ---- expressions

abbrev mutual
  -- an expression of the text in its scope
  pub resolved : Scope → text.Term → Term
  resolved scope (text.Literal value token) = Literal (literal_value value)
  resolved scope (text.Enumerated value token) = Literal (enumerated_value value)
  resolved scope (text.Variable name) = Var (owner_of scope name.name) name.name
  resolved scope (text.Element array index) = Cell (owner_of scope array.name) array.name (resolved scope index)
  resolved scope (text.Attribute node attribute) = attribute_term attribute (path_meant scope node)
  resolved scope (text.Look word token name args tolerance) =
      Look (look_word word) name.name (in_turn (resolved_each scope args))
      (option_map (λ allowed. allowed.distance) tolerance)
  resolved scope (text.UnaryCall function token argument) =
      Unary (unary_function_op function) (resolved scope argument)
  resolved scope (text.BinaryCall function token first second) =
      Binary (binary_function_op function) (resolved scope first) (resolved scope second)
  resolved scope (text.Unary operator token operand) = Unary (unary_op operator) (resolved scope operand)
  resolved scope (text.Binary operator left right) =
      Binary (binary_op operator) (resolved scope left) (resolved scope right)

  -- expressions in turn
  pub resolved_each : Scope → text.Terms → List Term
  resolved_each scope text.NoTerms = []
  resolved_each scope (text.More first rest) = resolved scope first ∷ resolved_each scope rest
