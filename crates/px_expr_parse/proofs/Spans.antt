-- Whether a form spans some tokens depends on these alone.
use Rattle.std.proofs.Common.{◌≡◌, ℕ, zero, suc, ◌+◌, ◌≤◌, inl, inr, sym, subst, pos, List, Option, Some, None, arith}
use Rattle.std.specs.Option.{option_and_then}
use Rattle.px_lex.specs.declared.keyword.Keyword.TheVariants as words
use Rattle.px_lex.specs.declared.sign.Sign.{Sign}
use Rattle.px_lex.specs.declared.sign.Sign.TheVariants as signs
use Rattle.px_lex.specs.declared.token.Token.{Token}
use Rattle.px_lex.specs.declared.token.TokenKind.{TokenKind}
use Rattle.px_lex.specs.declared.token.TokenKind.TheVariants as kinds
use Rattle.px_syntax.specs.declared.expr.Attribute.{Attribute as AttributeWord}
use Rattle.px_syntax.specs.declared.expr.Enumerated.{Enumerated as EnumeratedValue}
use Rattle.px_syntax.specs.declared.expr.Identifier.{Identifier}
use Rattle.px_syntax.specs.declared.expr.NodeReference.{NodeReference}
use Rattle.px_syntax.specs.declared.expr.NodeReference.TheVariants as nodes
use Rattle.px_syntax.specs.declared.expr.Tolerance.{Tolerance}
use Rattle.px_syntax.specs.declared.operator.BinaryOperator.{BinaryOperator}
use Rattle.px_syntax.specs.declared.operator.UnaryOperator.{UnaryOperator}
use Rattle.px_syntax.specs.declared.word.LookWord.{LookWord}
use Rattle.px_syntax.specs.declared.word.LookWord.TheVariants as looks
use Rattle.px_syntax.specs.Expr.{Term, Terms, Literal, Enumerated, Variable, Element, Attribute, Look, UnaryCall, BinaryCall, Unary, Binary, NoTerms, More}
use Rattle.px_syntax.specs.ExprGrammar.{arguments, at_least, attribute_word, bare, binary_keyword, binary_operator, enumerated_keyword, enumerated_name, expression, further_arguments, literal_kind, look_end, look_keyword, node_reference, operand, optional_arguments, term_level, tolerance_number, unary_keyword, unary_operator}
use Rattle.px_syntax.specs.Form.{Form, kind_at, one, sign, numbered, identifier, nothing, never, ◌then◌, either, in_pairs}
use Rattle.px_syntax.specs.Operator.{binary_of, unary_of}
use Rattle.px_expr_parse.specs.Tail.{attribute, closed, closed_arguments, named}
use Rattle.px_expr_parse.specs.Verdict.{AgreeBefore}

-- a form that stands in tokens stands in all that are the same before its end
pub record IsLocal (form : Form) : Type 0 where
  pub rises : (tokens : List Token) (from to : ℕ) → form tokens from to → from ≤ to
  pub moves :
      (tokens others : List Token) (from to : ℕ) → AgreeBefore tokens others to → form tokens from to → form others from to

-- ---- small forms

-- a token that is so
local_token : (P : Option TokenKind → Type 0) → IsLocal (λ tokens from to. P (kind_at tokens from) × (to ≡ from + 1))
local_token P =
    record {
      rises = λ tokens from to o. omega (arith, o.1);
      moves = λ tokens others from to agree o. (subst P (sym (agree from (omega (arith, o.1)))) o.0, o.1);
    }

pub local_one : (kind : TokenKind) → IsLocal (one kind)
local_one kind = local_token (λ token. token ≡ Some kind)

pub local_sign : (which : Sign) → IsLocal (sign which)
local_sign which = local_one (kinds.Sign which)

pub local_nothing : IsLocal nothing
local_nothing =
    record {
      rises = λ tokens from to o. omega (arith, o);
      moves = λ tokens others from to agree o. o;
    }

pub local_never : IsLocal never
local_never =
    record {
      rises = λ tokens from to o. absurd o;
      moves = λ tokens others from to agree o. absurd o;
    }

pub local_numbered : (token : ℕ) {form : Form} → IsLocal form → IsLocal (numbered token form)
local_numbered token l =
    record {
      rises = λ tokens from to o. l.rises tokens from to o.1;
      moves = λ tokens others from to agree o. (o.0, l.moves tokens others from to agree o.1);
    }

pub local_then : {first second : Form} → IsLocal first → IsLocal second → IsLocal (first then second)
local_then f g =
    record {
      rises = λ tokens from to o. omega (arith, f.rises tokens from o.0 o.1, g.rises tokens o.0 to o.2);
      moves = λ tokens others from to agree o. (
        o.0,
        f.moves tokens others from o.0 (λ place before. agree place (omega (arith, before, g.rises tokens o.0 to o.2))) o.1,
        g.moves tokens others o.0 to agree o.2,
      );
    }

pub local_either : {first second : Form} → IsLocal first → IsLocal second → IsLocal (either first second)
local_either f g =
    record {
      rises = λ tokens from to o. elim o [ inl a ↦ f.rises tokens from to a | inr b ↦ g.rises tokens from to b ];
      moves = λ tokens others from to agree o. elim o [
        | inl a ↦ inl (f.moves tokens others from to agree a)
        | inr b ↦ inr (g.moves tokens others from to agree b)
      ];
    }

-- a form of something that is so
pub local_some : {A : Type 0} {form : A → Form} (P : A → Type 0) → ((some : A) → IsLocal (form some))
    → IsLocal (λ tokens from to. (some : A) × P some × form some tokens from to)
local_some P l =
    record {
      rises = λ tokens from to o. (l o.0).rises tokens from to o.2;
      moves = λ tokens others from to agree o. (o.0, o.1, (l o.0).moves tokens others from to agree o.2);
    }

pub local_identifier : (name : Identifier) → IsLocal (identifier name)
local_identifier name = local_numbered name.token (local_one (kinds.Identifier name.name))

-- between two signs
pub local_between : (left right : Sign) {form : Form} → IsLocal form → IsLocal (sign left then form then sign right)
local_between left right l = local_then (local_sign left) (local_then l (local_sign right))

local_in_pairs : (pairs : ℕ) {form : Form} → IsLocal form → IsLocal (in_pairs pairs form)
local_in_pairs zero l = l
local_in_pairs (suc pairs) l = local_between signs.OpenParen signs.CloseParen (local_in_pairs pairs l)

local_at_least : (floor : ℕ) (term : Term) {form : Form} → IsLocal form → IsLocal (at_least floor term form)
local_at_least floor term l = local_some (λ (pairs : ℕ). pairs ≡ 0 → floor ≤ term_level term) (λ pairs. local_in_pairs pairs l)

-- ---- words

local_enumerated : (value : EnumeratedValue) → IsLocal (enumerated_name value)
local_enumerated value = local_some (λ which. enumerated_keyword value ≡ Some which) (λ which. local_one (kinds.Keyword which))

local_binary : (operator : BinaryOperator) → IsLocal (binary_operator operator)
local_binary operator = local_token (λ token. option_and_then binary_of token ≡ Some operator)

local_unary : (operator : UnaryOperator) → IsLocal (unary_operator operator)
local_unary operator = local_token (λ token. option_and_then unary_of token ≡ Some operator)

-- ---- expressions

pub local_attribute : (which : AttributeWord) → IsLocal (attribute which)
local_attribute which = local_then (local_sign signs.Dot) (local_one (kinds.Identifier (attribute_word which)))

pub local_named : (name : Identifier) → IsLocal (named name)
local_named name = local_between signs.OpenParen signs.CloseParen (local_identifier name)

local_node : (node : NodeReference) → IsLocal (node_reference node)
local_node (nodes.Named name) = local_identifier name
local_node (nodes.SelfNode token) = local_numbered token (local_one (kinds.Keyword words.SelfNode))
local_node (nodes.Parent token) = local_numbered token (local_one (kinds.Keyword words.Parent))
local_node (nodes.Sibling token name) =
    local_then (local_numbered token (local_one (kinds.Keyword words.Sibling))) (local_named name)
local_node (nodes.Child token name) =
    local_then (local_numbered token (local_one (kinds.Keyword words.Child))) (local_named name)

local_optional : (args : Terms) {form : Form} → IsLocal form → IsLocal (optional_arguments args form)
local_optional NoTerms l = local_either local_nothing (local_between signs.OpenParen signs.CloseParen l)
local_optional (More first rest) l = local_between signs.OpenParen signs.CloseParen l

pub local_tolerance : (tolerance : Tolerance) → IsLocal (tolerance_number tolerance)
local_tolerance tolerance = local_numbered tolerance.token (local_one (kinds.Integer (pos tolerance.distance)))

local_look_end : (which : LookWord) (tolerance : Option Tolerance) → IsLocal (look_end which tolerance)
local_look_end which None = local_sign signs.CloseParen
local_look_end looks.Lookup (Some tolerance) = local_never
local_look_end looks.LookupNow (Some tolerance) = local_never
local_look_end looks.LookupOnChange (Some tolerance) = local_between signs.Comma signs.CloseParen (local_tolerance tolerance)

mutual
  local_bare : (term : Term) → IsLocal (bare term)
  local_bare (Literal value token) = local_numbered token (local_one (literal_kind value))
  local_bare (Enumerated value token) = local_numbered token (local_enumerated value)
  local_bare (Variable name) = local_identifier name
  local_bare (Element array index) =
      local_then (local_identifier array)
      (local_between signs.OpenBracket signs.CloseBracket (local_at_least 0 index (local_bare index)))
  local_bare (Attribute node which) = local_then (local_node node) (local_attribute which)
  local_bare (Look which token name args tolerance) =
      local_then (local_numbered token (local_one (kinds.Keyword (look_keyword which))))
      (local_then (local_sign signs.OpenParen)
      (local_then (local_identifier name)
      (local_then (local_optional args (local_arguments args)) (local_look_end which tolerance))))
  local_bare (UnaryCall function token argument) =
      local_then (local_numbered token (local_one (kinds.Keyword (unary_keyword function))))
      (local_between signs.OpenParen signs.CloseParen (local_at_least 0 argument (local_bare argument)))
  local_bare (BinaryCall function token first second) =
      local_then (local_numbered token (local_one (kinds.Keyword (binary_keyword function))))
      (local_then (local_sign signs.OpenParen)
      (local_then (local_at_least 0 first (local_bare first))
      (local_between signs.Comma signs.CloseParen (local_at_least 0 second (local_bare second)))))
  local_bare (Unary operator token operand) =
      local_then (local_numbered token (local_unary operator)) (local_at_least _ operand (local_bare operand))
  local_bare (Binary operator left right) =
      local_then (local_at_least _ left (local_bare left))
      (local_then (local_binary operator) (local_at_least _ right (local_bare right)))

  pub local_arguments : (args : Terms) → IsLocal (arguments args)
  local_arguments NoTerms = local_nothing
  local_arguments (More first rest) = local_then (local_at_least 0 first (local_bare first)) (local_further rest)

  local_further : (args : Terms) → IsLocal (further_arguments args)
  local_further NoTerms = local_nothing
  local_further (More first rest) =
      local_then (local_sign signs.Comma) (local_then (local_at_least 0 first (local_bare first)) (local_further rest))

pub local_operand : (floor : ℕ) (term : Term) → IsLocal (operand floor term)
local_operand floor term = local_at_least floor term (local_bare term)

pub local_expression : (term : Term) → IsLocal (expression term)
local_expression = local_operand 0

pub local_closed : (which : Sign) (term : Term) → IsLocal (closed which term)
local_closed which term = local_then (local_expression term) (local_sign which)

pub local_closed_arguments : (args : Terms) → IsLocal (closed_arguments args)
local_closed_arguments args = local_then (local_arguments args) (local_sign signs.CloseParen)
