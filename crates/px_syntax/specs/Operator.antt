-- The operators, their spellings and their levels (PLEXIL reference manual), and what the rows of a table of them say.
use Rattle.std.specs.Prelude.{ℕ, Bool, false, List, [], ◌∷◌, Option, Some, None, if◌then◌else◌}
use denote.Enum.Bare.{sameb}
use Rattle.px_lex.specs.contracts.keyword.Keyword.{the_type as keyword_type}
use Rattle.px_lex.specs.contracts.sign.Sign.{the_type as sign_type}
use Rattle.px_lex.specs.declared.keyword.Keyword.TheVariants as words
use Rattle.px_lex.specs.declared.sign.Sign.TheVariants as signs
use Rattle.px_lex.specs.declared.token.TokenKind.{TokenKind}
use Rattle.px_lex.specs.declared.token.TokenKind.TheVariants as kinds
use Rattle.px_syntax.specs.contracts.operator.BinaryOperator.{the_type as binary_operators}
use Rattle.px_syntax.specs.contracts.operator.UnaryOperator.{the_type as unary_operators}
use Rattle.px_syntax.specs.declared.operator.BinaryOperator.{BinaryOperator}
use Rattle.px_syntax.specs.declared.operator.BinaryOperator.TheVariants as binary
use Rattle.px_syntax.specs.declared.operator.Operator.{Operator}
use Rattle.px_syntax.specs.declared.operator.Operator.TheVariants.{Binary, Unary}
use Rattle.px_syntax.specs.declared.operator.Spelling.{Spelling}
use Rattle.px_syntax.specs.declared.operator.Spelling.TheVariants as spellings
use Rattle.px_syntax.specs.declared.operator.UnaryOperator.{UnaryOperator}
use Rattle.px_syntax.specs.declared.operator.UnaryOperator.TheVariants as unary

-- a spelling, what it spells, and the level of that
abbrev pub Row : Type 0
Row = Spelling × Operator × ℕ

-- each spelling of each operator with the operator's level, loosest first
abbrev pub operator_rows : List Row
operator_rows =
    (spellings.Sign signs.OrOr, Binary binary.Or, 1)
    ∷ (spellings.Word words.Or, Binary binary.Or, 1)
    ∷ (spellings.Word words.Xor, Binary binary.Xor, 2)
    ∷ (spellings.Sign signs.AndAnd, Binary binary.And, 3)
    ∷ (spellings.Word words.And, Binary binary.And, 3)
    ∷ (spellings.Sign signs.EqualEqual, Binary binary.Equal, 4)
    ∷ (spellings.Sign signs.NotEqual, Binary binary.Differs, 4)
    ∷ (spellings.Sign signs.Less, Binary binary.Less, 5)
    ∷ (spellings.Sign signs.LessEqual, Binary binary.AtMost, 5)
    ∷ (spellings.Sign signs.Greater, Binary binary.Greater, 5)
    ∷ (spellings.Sign signs.GreaterEqual, Binary binary.AtLeast, 5)
    ∷ (spellings.Sign signs.Plus, Binary binary.Plus, 6)
    ∷ (spellings.Sign signs.Minus, Binary binary.Minus, 6)
    ∷ (spellings.Sign signs.Star, Binary binary.Times, 7)
    ∷ (spellings.Sign signs.Slash, Binary binary.Over, 7)
    ∷ (spellings.Sign signs.Percent, Binary binary.Rest, 7)
    ∷ (spellings.Sign signs.Bang, Unary unary.Not, 8)
    ∷ (spellings.Word words.Not, Unary unary.Not, 8)
    ∷ (spellings.Sign signs.Minus, Unary unary.Negative, 8)
    ∷ []

-- a token is this spelling
abbrev pub is_spelling : Spelling → TokenKind → Bool
is_spelling (spellings.Sign sign) (kinds.Sign other) = sameb sign_type sign other
is_spelling (spellings.Word word) (kinds.Keyword other) = sameb keyword_type word other
is_spelling spelling kind = false

-- two operators are the same
abbrev pub is_same_operator : Operator → Operator → Bool
is_same_operator (Binary operator) (Binary other) = sameb binary_operators operator other
is_same_operator (Unary operator) (Unary other) = sameb unary_operators operator other
is_same_operator operator other = false

-- the operator between two operands that a token is
abbrev pub binary_in : List Row → TokenKind → Option BinaryOperator
binary_in [] kind = None
binary_in ((spelling, Binary operator, level) ∷ rows) kind =
    if is_spelling spelling kind then Some operator else binary_in rows kind
binary_in ((spelling, Unary operator, level) ∷ rows) kind = binary_in rows kind

unfoldable pub binary_of : TokenKind → Option BinaryOperator
binary_of = binary_in operator_rows

-- the operator before one operand that a token is
abbrev pub unary_in : List Row → TokenKind → Option UnaryOperator
unary_in [] kind = None
unary_in ((spelling, Unary operator, level) ∷ rows) kind =
    if is_spelling spelling kind then Some operator else unary_in rows kind
unary_in ((spelling, Binary operator, level) ∷ rows) kind = unary_in rows kind

unfoldable pub unary_of : TokenKind → Option UnaryOperator
unary_of = unary_in operator_rows

-- the level of an operator; the table has a row for each
abbrev pub level_in : List Row → Operator → ℕ
level_in [] operator = 0
level_in ((spelling, other, level) ∷ rows) operator =
    if is_same_operator other operator then level else level_in rows operator

unfoldable pub level_of : Operator → ℕ
level_of = level_in operator_rows
