-- One walk over tokens for those that are too deep.
use Rattle.std.specs.Prelude.{ℕ, ◌+◌, ◌-◌, Bool, not, ◌&&◌, ◌||◌, nat_le, nat_lt, if◌then◌else◌}
use Rattle.px_lex.specs.declared.token.TokenKind.{TokenKind}
use Rattle.px_syntax.specs.Depth.{ends_statement, is_closing, is_list_opening, is_minus, is_opening, is_operator}
use Rattle.px_plan_parse.specs.declared.depth.Walk.{Walk}

-- an operator, but a minus inside a list belongs to its number
abbrev pub counts : Walk → TokenKind → Bool
counts walk kind = is_operator kind && not (is_minus kind && nat_lt 0 walk.in_list)

abbrev pub is_deep : Walk → TokenKind → Bool
is_deep walk kind =
    (is_opening kind && nat_le 64 walk.brackets) || (counts walk kind && nat_le 64 walk.operators)

abbrev pub brackets_behind : Walk → TokenKind → ℕ
brackets_behind walk kind =
    if is_opening kind then walk.brackets + 1 else (if is_closing kind then walk.brackets - 1 else walk.brackets)

abbrev pub in_list_behind : Walk → TokenKind → ℕ
in_list_behind walk kind =
    if is_opening kind
    then (if (nat_lt 0 walk.in_list || is_list_opening kind) then walk.in_list + 1 else walk.in_list)
    else (if is_closing kind then walk.in_list - 1 else walk.in_list)

abbrev pub operators_behind : Walk → TokenKind → ℕ
operators_behind walk kind =
    if ends_statement kind then 0 else (if counts walk kind then walk.operators + 1 else walk.operators)

abbrev pub walk_behind : Walk → TokenKind → Walk
walk_behind walk kind =
    record {
      brackets = brackets_behind walk kind;
      in_list = in_list_behind walk kind;
      operators = operators_behind walk kind;
    }
