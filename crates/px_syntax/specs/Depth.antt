-- Which tokens are too deep: said of each by the tokens before it.
use Rattle.std.specs.Prelude.{ℕ, ◌+◌, Bool, true, false, not, ◌&&◌, ◌||◌, nat_le, nat_lt, is_some, List, length, take, filter, count_by, slice_range}
use Rattle.std.specs.List.{list_all, list_any, range_with_len}
use Rattle.std.specs.Option.{option_map_or}
use Rattle.px_lex.specs.declared.sign.Sign.TheVariants.{OpenBrace, CloseBrace, OpenParen, CloseParen, OpenBracket, CloseBracket, OpenList, Semicolon, Minus}
use Rattle.px_lex.specs.declared.token.Token.{Token}
use Rattle.px_lex.specs.declared.token.TokenKind.{TokenKind}
use Rattle.px_lex.specs.declared.token.TokenKind.TheVariants as kinds
use Rattle.px_syntax.specs.Form.{kind_at}
use Rattle.px_syntax.specs.Operator.{binary_of, unary_of}

abbrev pub is_list_opening : TokenKind → Bool
is_list_opening (kinds.Sign OpenList) = true
is_list_opening kind = false

abbrev pub is_opening : TokenKind → Bool
is_opening (kinds.Sign OpenBrace) = true
is_opening (kinds.Sign OpenParen) = true
is_opening (kinds.Sign OpenBracket) = true
is_opening kind = is_list_opening kind

abbrev pub is_closing : TokenKind → Bool
is_closing (kinds.Sign CloseBrace) = true
is_closing (kinds.Sign CloseParen) = true
is_closing (kinds.Sign CloseBracket) = true
is_closing kind = false

-- a token behind which the operators are counted anew
abbrev pub ends_statement : TokenKind → Bool
ends_statement (kinds.Sign Semicolon) = true
ends_statement (kinds.Sign OpenBrace) = true
ends_statement (kinds.Sign CloseBrace) = true
ends_statement kind = false

abbrev pub is_minus : TokenKind → Bool
is_minus (kinds.Sign Minus) = true
is_minus kind = false

-- an operator of one of the levels
abbrev pub is_operator : TokenKind → Bool
is_operator kind = is_some (binary_of kind) || is_some (unary_of kind)

-- the token with a number is such a one
abbrev pub passes : (TokenKind → Bool) → List Token → ℕ → Bool
passes test tokens number = option_map_or test (kind_at tokens number) false

abbrev pub count_of : (TokenKind → Bool) → List Token → ℕ
count_of test tokens = count_by (λ token. test token.kind) tokens

-- A bracket before these tokens is still open behind them: no front of them has more closing brackets than opening ones.
abbrev pub stays_open : List Token → Bool
stays_open between =
    list_all
    (λ n. nat_le (count_of is_closing (take n between)) (count_of is_opening (take n between)))
    (range_with_len 0 (length between + 1))

-- how many opening brackets of a sort stand before a token and are still open there
abbrev pub open_before : (TokenKind → Bool) → List Token → ℕ → ℕ
open_before test tokens number =
    count_by
    (λ place. passes test tokens place && stays_open (slice_range tokens (place + 1) number))
    (range_with_len 0 number)

-- an operator, but a minus inside a list belongs to its number
abbrev pub counts_as_operator : List Token → ℕ → Bool
counts_as_operator tokens number =
    passes is_operator tokens number
    && not (passes is_minus tokens number && nat_lt 0 (open_before is_list_opening tokens number))

-- how many operators stand before a token in its statement
abbrev pub operators_before : List Token → ℕ → ℕ
operators_before tokens number =
    count_by
    (λ place. counts_as_operator tokens place
    && not (list_any (λ token. ends_statement token.kind) (slice_range tokens (place + 1) number)))
    (range_with_len 0 number)

-- the 65th opening bracket in one another and those inside it, or the 65th operator of a statement and those behind it
abbrev pub is_too_deep : List Token → ℕ → Bool
is_too_deep tokens number =
    (passes is_opening tokens number && nat_le 64 (open_before is_opening tokens number))
    || (counts_as_operator tokens number && nat_le 64 (operators_before tokens number))

-- the numbers of all tokens that are too deep
abbrev pub too_deep : List Token → List ℕ
too_deep tokens = filter (is_too_deep tokens) (range_with_len 0 (length tokens))
