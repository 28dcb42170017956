-- What stands behind the first token of an expression.
use Rattle.std.specs.Prelude.{Bool, true, false, Option}
use Rattle.px_lex.specs.declared.sign.Sign.{Sign}
use Rattle.px_lex.specs.declared.sign.Sign.TheVariants as signs
use Rattle.px_lex.specs.declared.token.TokenKind.TheVariants as kinds
use Rattle.px_syntax.specs.declared.expr.Attribute.{Attribute}
use Rattle.px_syntax.specs.declared.expr.Identifier.{Identifier}
use Rattle.px_syntax.specs.declared.expr.Tolerance.{Tolerance}
use Rattle.px_syntax.specs.declared.word.LookWord.{LookWord}
use Rattle.px_syntax.specs.Expr.{Term, Terms}
use Rattle.px_syntax.specs.ExprGrammar.{arguments, attribute_word, expression, look_end, optional_arguments}
use Rattle.px_syntax.specs.Form.{Form, identifier, one, sign, ◌then◌}

-- a sign that may stand behind an expression that it closes
abbrev pub is_closer : Sign → Bool
is_closer signs.CloseParen = true
is_closer signs.CloseBracket = true
is_closer signs.Comma = true
is_closer signs.Semicolon = true
is_closer sign = false

-- an expression, and the sign that closes it
abbrev pub closed : Sign → Term → Form
closed which tree = expression tree then sign which

-- a dot and an attribute
abbrev pub attribute : Attribute → Form
attribute which = sign signs.Dot then one (kinds.Identifier (attribute_word which))

-- a name in parentheses
abbrev pub named : Identifier → Form
named name = sign signs.OpenParen then identifier name then sign signs.CloseParen

-- one argument in parentheses
abbrev pub argument : Term → Form
argument tree = sign signs.OpenParen then closed signs.CloseParen tree

-- an argument behind a comma, and the parenthesis that closes it
abbrev pub second_argument : Term → Form
second_argument tree = sign signs.Comma then closed signs.CloseParen tree

-- two arguments in parentheses
abbrev pub two_arguments : Term × Term → Form
two_arguments parts = sign signs.OpenParen then expression parts.0 then second_argument parts.1

-- arguments, and the parenthesis that closes them
abbrev pub closed_arguments : Terms → Form
closed_arguments args = arguments args then sign signs.CloseParen

-- the arguments of a lookup of a word, and what closes the lookup
abbrev pub look_rest : LookWord → Terms × Option Tolerance → Form
look_rest word parts = optional_arguments parts.0 (arguments parts.0) then look_end word parts.1

-- what a lookup of a word asks for, in parentheses
abbrev pub look_state : LookWord → Identifier × (Terms × Option Tolerance) → Form
look_state word parts = sign signs.OpenParen then identifier parts.0 then look_rest word parts.1
