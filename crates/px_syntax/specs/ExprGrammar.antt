-- Which tokens spell an expression: the grammar of expressions, a line for each production. The levels are those of the
-- table of operators, and an expression that is no operation is tighter than all of them.
use Rattle.std.specs.Prelude.{◌≡◌, ℕ, ◌+◌, ◌≤◌, true, false, Option, Some, None, List, codes}
use Rattle.std.specs.Option.{option_and_then}
use Rattle.px_lex.specs.Keyword.{keyword_of}
use Rattle.px_lex.specs.declared.keyword.Keyword.{Keyword}
use Rattle.px_lex.specs.declared.keyword.Keyword.TheVariants as words
use Rattle.px_lex.specs.declared.sign.Sign.TheVariants as signs
use Rattle.px_lex.specs.declared.token.Token.{Token}
use Rattle.px_lex.specs.declared.token.TokenKind.{TokenKind}
use Rattle.px_lex.specs.declared.token.TokenKind.TheVariants as kinds
use Rattle.px_value.specs.Enums.{state_word, outcome_word, failure_word, handle_word}
use Rattle.px_syntax.specs.declared.expr.Attribute.{Attribute as AttributeWord}
use Rattle.px_syntax.specs.declared.expr.Attribute.TheVariants as attributes
use Rattle.px_syntax.specs.declared.expr.Enumerated.{Enumerated as EnumeratedValue}
use Rattle.px_syntax.specs.declared.expr.Enumerated.TheVariants as enumerated
use Rattle.px_syntax.specs.declared.expr.Literal.{Literal as LiteralValue}
use Rattle.px_syntax.specs.declared.expr.Literal.TheVariants as literals
use Rattle.px_syntax.specs.declared.expr.NodeReference.{NodeReference}
use Rattle.px_syntax.specs.declared.expr.NodeReference.TheVariants as nodes
use Rattle.px_syntax.specs.declared.expr.Tolerance.{Tolerance}
use Rattle.px_syntax.specs.declared.operator.BinaryOperator.{BinaryOperator}
use Rattle.px_syntax.specs.declared.operator.Operator.TheVariants as operators
use Rattle.px_syntax.specs.declared.operator.TheConstants.{PRIMARY_LEVEL}
use Rattle.px_syntax.specs.declared.operator.UnaryOperator.{UnaryOperator}
use Rattle.px_syntax.specs.declared.word.BinaryFunction.{BinaryFunction}
use Rattle.px_syntax.specs.declared.word.BinaryFunction.TheVariants as binary_functions
use Rattle.px_syntax.specs.declared.word.LookWord.{LookWord}
use Rattle.px_syntax.specs.declared.word.LookWord.TheVariants as looks
use Rattle.px_syntax.specs.declared.word.UnaryFunction.{UnaryFunction}
use Rattle.px_syntax.specs.declared.word.UnaryFunction.TheVariants as unary_functions
use Rattle.px_syntax.specs.Form.{Form, kind_at, one, sign, keyword, number, numbered, identifier, nothing, never, ◌then◌, either, in_pairs}
use Rattle.px_syntax.specs.Operator.{binary_of, unary_of, level_of}
use Rattle.px_syntax.specs.Expr.{Term, Terms, Literal, Enumerated, Variable, Element, Attribute, Look, UnaryCall, BinaryCall, Unary, Binary, NoTerms, More}

-- ---- words

-- the token of a literal
abbrev pub literal_kind : LiteralValue → TokenKind
literal_kind (literals.Integer value) = kinds.Integer value
literal_kind (literals.Boolean true) = kinds.Keyword words.True
literal_kind (literals.Boolean false) = kinds.Keyword words.False
literal_kind (literals.Text content) = kinds.Text content

-- the keyword that is the name of a state, an outcome, a failure or a handle
unfoldable pub enumerated_keyword : EnumeratedValue → Option Keyword
enumerated_keyword (enumerated.State state) = keyword_of (state_word state)
enumerated_keyword (enumerated.Outcome outcome) = keyword_of (outcome_word outcome)
enumerated_keyword (enumerated.Failure failure) = keyword_of (failure_word failure)
enumerated_keyword (enumerated.Handle handle) = keyword_of (handle_word handle)

abbrev pub enumerated_name : EnumeratedValue → Form
enumerated_name value tokens from to =
    (which : Keyword) × (enumerated_keyword value ≡ Some which) × keyword which tokens from to

abbrev pub attribute_word : AttributeWord → List ℕ
attribute_word attributes.State = codes "state"
attribute_word attributes.Outcome = codes "outcome"
attribute_word attributes.Failure = codes "failure"
attribute_word attributes.CommandHandle = codes "command_handle"

abbrev pub look_keyword : LookWord → Keyword
look_keyword looks.Lookup = words.Lookup
look_keyword looks.LookupNow = words.LookupNow
look_keyword looks.LookupOnChange = words.LookupOnChange

abbrev pub unary_keyword : UnaryFunction → Keyword
unary_keyword unary_functions.IsKnown = words.IsKnown
unary_keyword unary_functions.Abs = words.Abs
unary_keyword unary_functions.StrLen = words.StrLen

abbrev pub binary_keyword : BinaryFunction → Keyword
binary_keyword binary_functions.Min = words.Min
binary_keyword binary_functions.Max = words.Max

-- the operator between two operands that a token is
abbrev pub binary_at : List Token → ℕ → Option BinaryOperator
binary_at tokens place = option_and_then binary_of (kind_at tokens place)

-- the operator before one operand that a token is
abbrev pub unary_at : List Token → ℕ → Option UnaryOperator
unary_at tokens place = option_and_then unary_of (kind_at tokens place)

-- a token that the table of operators has for an operator between two operands, or before one
abbrev pub binary_operator : BinaryOperator → Form
binary_operator operator tokens from to = (binary_at tokens from ≡ Some operator) × (to ≡ from + 1)

abbrev pub unary_operator : UnaryOperator → Form
unary_operator operator tokens from to = (unary_at tokens from ≡ Some operator) × (to ≡ from + 1)

-- ---- expressions

-- a node: ID, Self, Parent, Sibling "(" ID ")" or Child "(" ID ")"
abbrev pub node_reference : NodeReference → Form
node_reference (nodes.Named name) = identifier name
node_reference (nodes.SelfNode token) = numbered token (keyword words.SelfNode)
node_reference (nodes.Parent token) = numbered token (keyword words.Parent)
node_reference (nodes.Sibling token name) =
    numbered token (keyword words.Sibling)
    then sign signs.OpenParen then identifier name then sign signs.CloseParen
node_reference (nodes.Child token name) =
    numbered token (keyword words.Child)
    then sign signs.OpenParen then identifier name then sign signs.CloseParen

-- the level of an expression in no parentheses
abbrev pub term_level : Term → ℕ
term_level (Unary operator token operand) = level_of (operators.Unary operator)
term_level (Binary operator left right) = level_of (operators.Binary operator)
term_level term = PRIMARY_LEVEL

-- An expression that is spelled bare by a form stands in parentheses, or bare where its level is at least the floor.
abbrev pub at_least : ℕ → Term → Form → Form
at_least floor term bare tokens from to =
    (pairs : ℕ) × (pairs ≡ 0 → floor ≤ term_level term) × in_pairs pairs bare tokens from to

-- the arguments of a lookup in parentheses, which may be left out where there are none
abbrev pub optional_arguments : Terms → Form → Form
optional_arguments NoTerms arguments =
    either nothing (sign signs.OpenParen then arguments then sign signs.CloseParen)
optional_arguments (More first rest) arguments =
    sign signs.OpenParen then arguments then sign signs.CloseParen

-- a tolerance, and the number of its token
abbrev pub tolerance_number : Tolerance → Form
tolerance_number tolerance = numbered tolerance.token (number tolerance.distance)

-- What closes a lookup: the parenthesis, with a comma and the tolerance before it where there is one. Only
-- LookupOnChange may have one.
abbrev pub look_end : LookWord → Option Tolerance → Form
look_end which None = sign signs.CloseParen
look_end looks.LookupOnChange (Some tolerance) =
    sign signs.Comma then tolerance_number tolerance then sign signs.CloseParen
look_end which (Some tolerance) = never

abbrev mutual
  -- the tokens of an expression without parentheses round it
  pub bare : Term → Form
  bare (Literal value token) = numbered token (one (literal_kind value))
  bare (Enumerated value token) = numbered token (enumerated_name value)
  bare (Variable name) = identifier name
  bare (Element array index) =
      identifier array
      then sign signs.OpenBracket then at_least 0 index (bare index) then sign signs.CloseBracket
  bare (Attribute node attribute) =
      node_reference node then sign signs.Dot then one (kinds.Identifier (attribute_word attribute))
  bare (Look which token name args tolerance) =
      numbered token (keyword (look_keyword which))
      then sign signs.OpenParen then identifier name
      then optional_arguments args (arguments args) then look_end which tolerance
  bare (UnaryCall function token argument) =
      numbered token (keyword (unary_keyword function))
      then sign signs.OpenParen then at_least 0 argument (bare argument) then sign signs.CloseParen
  bare (BinaryCall function token first second) =
      numbered token (keyword (binary_keyword function))
      then sign signs.OpenParen then at_least 0 first (bare first)
      then sign signs.Comma then at_least 0 second (bare second) then sign signs.CloseParen
  bare (Unary operator token operand) =
      numbered token (unary_operator operator)
      then at_least (level_of (operators.Unary operator)) operand (bare operand)
  bare (Binary operator left right) =
      at_least (level_of (operators.Binary operator)) left (bare left)
      then binary_operator operator
      then at_least (level_of (operators.Binary operator) + 1) right (bare right)

  -- expressions with commas between them, or none
  pub arguments : Terms → Form
  arguments NoTerms = nothing
  arguments (More first rest) = at_least 0 first (bare first) then further_arguments rest

  -- each with a comma before it
  pub further_arguments : Terms → Form
  further_arguments NoTerms = nothing
  further_arguments (More first rest) =
      sign signs.Comma then at_least 0 first (bare first) then further_arguments rest

-- an expression where one of at least this level may stand without parentheses
abbrev pub operand : ℕ → Term → Form
operand floor term = at_least floor term (bare term)

abbrev pub expression : Term → Form
expression = operand 0

-- an index in brackets
abbrev pub indexed : Term → Form
indexed index = sign signs.OpenBracket then expression index then sign signs.CloseBracket
