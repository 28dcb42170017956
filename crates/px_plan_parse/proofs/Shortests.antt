-- The shortest of each part of a plan.
use Rattle.std.proofs.Common.{ℕ, ◌+◌, pos, inl, refl, List, [], Option, Some, None, true}
use Rattle.std.specs.Option.{unwrap_or}
use Rattle.px_lex.specs.declared.keyword.Keyword.TheVariants as words
use Rattle.px_lex.specs.declared.sign.Sign.TheVariants as signs
use Rattle.px_lex.specs.declared.token.Token.{Token}
use Rattle.px_lex.specs.declared.token.TokenKind.TheVariants as kinds
use Rattle.px_syntax.specs.declared.expr.Literal.TheVariants as literals
use Rattle.px_syntax.specs.declared.word.BlockForm.{BlockForm}
use Rattle.px_syntax.specs.declared.word.BlockForm.TheVariants as forms
use Rattle.px_syntax.specs.declared.word.TypeName.TheVariants as types
use Rattle.px_syntax.specs.Block.{Priority, Braces, NoActions, Branch, NoElseIfs, NoElse, Inner}
use Rattle.px_syntax.specs.BlockGrammar.{block, body, branch, else_ifs, first_value, item, label, literal, otherwise, signed}
use Rattle.px_syntax.specs.ExprGrammar.{expression}
use Rattle.px_syntax.specs.Form.{Form, identifier, number, optional}
use Rattle.px_syntax.specs.Plan.{Command}
use Rattle.px_syntax.specs.PlanGrammar.{declaration, parameter}
use Rattle.px_expr_parse.specs.Tail.{closed}
use Rattle.px_expr_parse.proofs.Completions.{Shortest, in_one, short_as, short_before, short_behind, short_closed, short_expression, short_name, short_nothing}
use Rattle.px_expr_parse.proofs.Parts.{short_pair}
use Rattle.px_plan_parse.specs.Named.{written}
use Rattle.px_plan_parse.specs.Named as named_parts
use Rattle.px_plan_parse.specs.Tail.{array_size, closed_actions, closed_branch, declared_parameters, end_if, list_word, signature}
use Rattle.px_plan_parse.proofs.Blocks.{block_tail}
use Rattle.px_plan_parse.proofs.Globals.{worded}
use Rattle.px_plan_parse.proofs.Parts.{before, behind, both, each_of}

-- ---- blocks

pub short_actions : Shortest closed_actions
short_actions = in_one (kinds.Sign signs.CloseBrace) (λ others place has. (NoActions, (place, refl, (has, refl))))

-- a block without NodeList
no_list_word : (word : Option BlockForm) (others : List Token) (place : ℕ) → list_word word (unwrap_or word forms.Plain) others place place
no_list_word None others place = refl
no_list_word (Some form) others place = (refl, refl)

pub short_list : (word : Option BlockForm) → Shortest (both (list_word word) closed_actions)
short_list word =
    short_as short_actions (λ others from end actions o. ((unwrap_or word forms.Plain, actions), (from, no_list_word word others from, o)))

pub short_tail : Shortest (each_of block_tail)
short_tail =
    short_as short_actions (λ others from end actions o. (
      λ word. ([], (unwrap_or word forms.Plain, actions)),
      λ word. (from, refl, (from, no_list_word word others from, o)),
    ))

pub short_block : Shortest block
short_block =
    short_as (short_behind (kinds.Sign signs.OpenBrace) short_actions)
    (λ others from end actions o. (Braces forms.Plain [] actions, (from, refl, (o.0, o.1, (o.0, refl, (o.0, refl, o.2))))))

pub short_root : Shortest (both label block)
short_root = short_as short_block (λ others from end tree o. ((None, tree), (from, refl, o)))

pub short_body : Shortest body
short_body = short_as short_block (λ others from end tree o. (Inner tree, o))

pub short_branch : Shortest branch
short_branch = short_as short_block (λ others from end tree o. (Branch None tree, (from, refl, o)))

-- a test that is open, and its branch
pub short_tested : Shortest closed_branch
short_tested = short_pair (short_closed signs.CloseParen) short_branch

pub short_loop : Shortest (both (closed signs.Semicolon) closed_branch)
short_loop = short_pair (short_closed signs.Semicolon) short_tested

pub short_optional : {form : Form} → Shortest (λ (none : Unit {0}). optional form)
short_optional = short_nothing (λ others place. (tt, inl refl))

pub short_otherwise : Shortest (both otherwise end_if)
short_otherwise = short_nothing (λ others place. ((NoElse, tt), (place, refl, inl refl)))

pub short_else_ifs : Shortest (both else_ifs (both otherwise end_if))
short_else_ifs = short_nothing (λ others place. ((NoElseIfs, (NoElse, tt)), (place, refl, (place, refl, inl refl))))

-- ---- what stands behind a name

pub short_written : Shortest written
short_written =
    short_as (short_before (kinds.Sign signs.Semicolon) short_expression) (λ others from end tree o. (named_parts.Value tree, o))

pub short_assigned : Shortest (behind (kinds.Sign signs.Assign) written)
short_assigned = short_behind (kinds.Sign signs.Assign) short_written

pub short_paired : Shortest (behind (kinds.Sign signs.Assign) expression)
short_paired = short_behind (kinds.Sign signs.Assign) short_expression

-- ---- items

pub short_number : Shortest number
short_number = in_one (kinds.Integer (pos 0)) (λ others place has. (0, (has, refl)))

pub short_signed : Shortest signed
short_signed = in_one (kinds.Integer (pos 0)) (λ others place has. (pos 0, inl (has, refl)))

pub short_literal : Shortest literal
short_literal = in_one (kinds.Keyword words.True) (λ others place has. (literals.Boolean true, (has, refl)))

pub short_first_value : Shortest first_value
short_first_value = short_nothing (λ others place. (None, refl))

pub short_unsized : Shortest (both array_size first_value)
short_unsized = short_nothing (λ others place. ((None, None), (place, refl, refl)))

pub short_item : Shortest item
short_item =
    short_as (short_behind (kinds.Keyword words.Priority) (short_before (kinds.Sign signs.Semicolon) short_number))
    (λ others from end value o. (Priority from value, (o.0, (refl, o.1), (o.0, inl refl, o.2))))

-- ---- declarations

pub short_parameter : Shortest parameter
short_parameter =
    in_one (kinds.Keyword words.Integer)
    (λ others place has. (record { of_type = types.Integer; name = None }, (place + 1, (has, refl), refl)))

pub short_declared : Shortest declared_parameters
short_declared = in_one (kinds.Sign signs.Semicolon) (λ others place has. ([], (place, inl refl, (has, refl))))

pub short_signature : Shortest signature
short_signature = short_pair short_name short_declared

pub short_worded : Shortest worded
short_worded =
    short_as (short_behind (kinds.Keyword words.Command) short_signature) (λ others from end parts o. ((true, parts), o))

pub short_declaration : Shortest declaration
short_declaration =
    short_as (short_behind (kinds.Keyword words.Command) short_signature)
    (λ others from end parts o. (Command None parts.0 parts.1, (from, refl, o)))

-- ---- what a `for` counts

pub short_first : Shortest (before signed (kinds.Sign signs.Semicolon))
short_first = short_before (kinds.Sign signs.Semicolon) short_signed

pub short_counted : Shortest (both identifier (behind (kinds.Sign signs.Assign) (before signed (kinds.Sign signs.Semicolon))))
short_counted = short_pair short_name (short_behind (kinds.Sign signs.Assign) short_first)
