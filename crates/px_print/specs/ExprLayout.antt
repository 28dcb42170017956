-- How expressions are laid out, an equation for each production of their grammar.
use Rattle.std.specs.Prelude.{ℕ, true, false, List, [], Option, Some, None, codes, decimal}
use Rattle.std.specs.Fmt.{signed_decimal}
use Rattle.px_value.specs.Enums.{state_word, outcome_word, failure_word, handle_word}
use Rattle.px_syntax.specs.declared.expr.Enumerated.{Enumerated as EnumeratedValue}
use Rattle.px_syntax.specs.declared.expr.Enumerated.TheVariants as enumerated
use Rattle.px_syntax.specs.declared.expr.Literal.{Literal as LiteralValue}
use Rattle.px_syntax.specs.declared.expr.Literal.TheVariants as literals
use Rattle.px_syntax.specs.declared.expr.NodeReference.{NodeReference}
use Rattle.px_syntax.specs.declared.expr.NodeReference.TheVariants as nodes
use Rattle.px_syntax.specs.declared.expr.Tolerance.{Tolerance}
use Rattle.px_syntax.specs.declared.operator.BinaryOperator.{BinaryOperator}
use Rattle.px_syntax.specs.declared.operator.BinaryOperator.TheVariants as binary
use Rattle.px_syntax.specs.declared.operator.UnaryOperator.{UnaryOperator}
use Rattle.px_syntax.specs.declared.operator.UnaryOperator.TheVariants as unary
use Rattle.px_syntax.specs.declared.word.BinaryFunction.{BinaryFunction}
use Rattle.px_syntax.specs.declared.word.BinaryFunction.TheVariants as binary_functions
use Rattle.px_syntax.specs.declared.word.LookWord.{LookWord}
use Rattle.px_syntax.specs.declared.word.LookWord.TheVariants as looks
use Rattle.px_syntax.specs.declared.word.UnaryFunction.{UnaryFunction}
use Rattle.px_syntax.specs.declared.word.UnaryFunction.TheVariants as unary_functions
use Rattle.px_syntax.specs.Expr.{Term, Terms, Literal, Enumerated, Variable, Element, Attribute, Look, UnaryCall, BinaryCall, Unary, Binary, NoTerms, More}
use Rattle.px_syntax.specs.ExprGrammar.{attribute_word}
use Rattle.px_value.specs.Text.{quoted}
use Rattle.px_print.specs.Texts.{◌then◌}

-- ---- words

-- integers in decimal, strings between quotes
abbrev pub literal_text : LiteralValue → List ℕ
literal_text (literals.Integer value) = signed_decimal value
literal_text (literals.Boolean true) = codes "true"
literal_text (literals.Boolean false) = codes "false"
literal_text (literals.Text content) = quoted content

abbrev pub enumerated_text : EnumeratedValue → List ℕ
enumerated_text (enumerated.State state) = state_word state
enumerated_text (enumerated.Outcome outcome) = outcome_word outcome
enumerated_text (enumerated.Failure failure) = failure_word failure
enumerated_text (enumerated.Handle handle) = handle_word handle

abbrev pub look_text : LookWord → List ℕ
look_text looks.Lookup = codes "Lookup"
look_text looks.LookupNow = codes "LookupNow"
look_text looks.LookupOnChange = codes "LookupOnChange"

abbrev pub unary_function_text : UnaryFunction → List ℕ
unary_function_text unary_functions.IsKnown = codes "isKnown"
unary_function_text unary_functions.Abs = codes "abs"
unary_function_text unary_functions.StrLen = codes "strlen"

abbrev pub binary_function_text : BinaryFunction → List ℕ
binary_function_text binary_functions.Min = codes "min"
binary_function_text binary_functions.Max = codes "max"

-- of an operator with two spellings the sign; XOR has none
abbrev pub unary_sign : UnaryOperator → List ℕ
unary_sign unary.Not = codes "!"
unary_sign unary.Negative = codes "-"

abbrev pub binary_sign : BinaryOperator → List ℕ
binary_sign binary.Or = codes "||"
binary_sign binary.Xor = codes "XOR"
binary_sign binary.And = codes "&&"
binary_sign binary.Equal = codes "=="
binary_sign binary.Differs = codes "!="
binary_sign binary.Less = codes "<"
binary_sign binary.AtMost = codes "<="
binary_sign binary.Greater = codes ">"
binary_sign binary.AtLeast = codes ">="
binary_sign binary.Plus = codes "+"
binary_sign binary.Minus = codes "-"
binary_sign binary.Times = codes "*"
binary_sign binary.Over = codes "/"
binary_sign binary.Rest = codes "%"

-- ---- expressions

abbrev pub node_text : NodeReference → List ℕ
node_text (nodes.Named name) = name.name
node_text (nodes.SelfNode token) = codes "Self"
node_text (nodes.Parent token) = codes "Parent"
node_text (nodes.Sibling token name) = codes "Sibling(" then name.name then codes ")"
node_text (nodes.Child token name) = codes "Child(" then name.name then codes ")"

abbrev pub tolerance_text : Option Tolerance → List ℕ
tolerance_text None = []
tolerance_text (Some tolerance) = codes ", " then decimal tolerance.distance

-- a text in parentheses
abbrev pub enclosed : List ℕ → List ℕ
enclosed text = codes "(" then text then codes ")"

-- An operand with this text: in parentheses where it is itself an operation.
abbrev pub as_operand : Term → List ℕ → List ℕ
as_operand (Unary operator token operand) text = enclosed text
as_operand (Binary operator left right) text = enclosed text
as_operand term text = text

-- the arguments of a lookup with this text: in parentheses where there are any
abbrev pub as_optional : Terms → List ℕ → List ℕ
as_optional NoTerms text = []
as_optional (More first rest) text = enclosed text

abbrev mutual
  pub term_text : Term → List ℕ
  term_text (Literal value token) = literal_text value
  term_text (Enumerated value token) = enumerated_text value
  term_text (Variable name) = name.name
  term_text (Element array index) = array.name then codes "[" then term_text index then codes "]"
  term_text (Attribute node attribute) = node_text node then codes "." then attribute_word attribute
  term_text (Look word token name args tolerance) =
      look_text word then codes "(" then name.name
      then as_optional args (arguments_text args) then tolerance_text tolerance then codes ")"
  term_text (UnaryCall function token argument) =
      unary_function_text function then enclosed (term_text argument)
  term_text (BinaryCall function token first second) =
      binary_function_text function then codes "(" then term_text first then codes ", " then term_text second then codes ")"
  term_text (Unary operator token operand) = unary_sign operator then as_operand operand (term_text operand)
  term_text (Binary operator left right) =
      as_operand left (term_text left)
      then codes " " then binary_sign operator then codes " " then as_operand right (term_text right)

  -- expressions with commas between them
  pub arguments_text : Terms → List ℕ
  arguments_text NoTerms = []
  arguments_text (More first rest) = term_text first then further_text rest

  -- each behind a comma
  pub further_text : Terms → List ℕ
  further_text NoTerms = []
  further_text (More first rest) = codes ", " then term_text first then further_text rest

abbrev pub operand_text : Term → List ℕ
operand_text term = as_operand term (term_text term)
