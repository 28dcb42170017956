-- What the forms of plans span depends on those tokens alone.
use Rattle.std.proofs.Common.{◌≡◌, ℕ, arith, ℤ, neg_ℤ, pos, List, [], ◌∷◌, Option, Some, None}
use Rattle.px_lex.specs.declared.keyword.Keyword.{Keyword}
use Rattle.px_lex.specs.declared.keyword.Keyword.TheVariants as words
use Rattle.px_lex.specs.declared.sign.Sign.TheVariants as signs
use Rattle.px_lex.specs.declared.token.TokenKind.TheVariants as kinds
use Rattle.px_syntax.specs.declared.block.ListedLiteral.{ListedLiteral}
use Rattle.px_syntax.specs.declared.expr.Identifier.{Identifier}
use Rattle.px_syntax.specs.declared.expr.Literal.{Literal}
use Rattle.px_syntax.specs.declared.expr.Literal.TheVariants as literals
use Rattle.px_syntax.specs.declared.plan.Parameter.{Parameter}
use Rattle.px_syntax.specs.declared.word.BlockForm.{BlockForm}
use Rattle.px_syntax.specs.declared.word.BlockForm.TheVariants as forms
use Rattle.px_syntax.specs.declared.word.Condition.{Condition}
use Rattle.px_syntax.specs.declared.word.Condition.TheVariants as conditions
use Rattle.px_syntax.specs.declared.word.TypeName.{TypeName}
use Rattle.px_syntax.specs.declared.word.TypeName.TheVariants as types
use Rattle.px_syntax.specs.Block.{InitialData, Value, Listed, VariableData, ItemData, Variables, Conditions, Priority, TargetData, CallData, PairData, BlockTree, Braces, Actions, NoActions, More, ActionTree, Labelled, BranchTree, Branch, GuardedTree, Guarded, ElseIfs, NoElseIfs, ElseIf, ElseTree, NoElse, Else, BodyTree, Inner, Assign, CallInto, Call, Update, If, While, For}
use Rattle.px_syntax.specs.BlockGrammar.{action, block, body, branch, call, condition_word, each_action, else_ifs, form_word, guarded, initial, item, label, listed, literal, negative, node_list_word, otherwise, pair, signed, target, type_word, variable}
use Rattle.px_syntax.specs.Expr.{Term}
use Rattle.px_syntax.specs.ExprGrammar.{literal_kind}
use Rattle.px_syntax.specs.Form.{Form, each, keyword, maybe, optional, sign, ◌then◌, number}
use Rattle.px_syntax.specs.Plan.{DeclarationData, Command, Lookup, PlanTree}
use Rattle.px_syntax.specs.PlanGrammar.{declaration, parameter, parameters, plan}
use Rattle.px_expr_parse.proofs.Spans.{IsLocal, local_arguments, local_between, local_either, local_expression, local_identifier, local_never, local_nothing, local_numbered, local_one, local_sign, local_some, local_then}
use Rattle.px_plan_parse.specs.Named.{optional_index}
use Rattle.px_plan_parse.specs.Tail.{array_size, closed_parameters, counter, head, list_word, test}
use Rattle.px_plan_parse.proofs.Commas.{local_commas}
use Rattle.px_plan_parse.proofs.Parts.{local_each}

local_keyword : (which : Keyword) → IsLocal (keyword which)
local_keyword which = local_one (kinds.Keyword which)

local_optional : {form : Form} → IsLocal form → IsLocal (optional form)
local_optional l = local_either local_nothing l

local_maybe : {A : Type 0} {form : A → Form} → ((part : A) → IsLocal (form part)) → (part : Option A) → IsLocal (maybe form part)
local_maybe l None = local_nothing
local_maybe l (Some part) = l part

-- ---- items

local_type : (of_type : TypeName) → IsLocal (type_word of_type)
local_type types.Integer = local_keyword words.Integer
local_type types.Boolean = local_keyword words.Boolean
local_type types.String = local_keyword words.String

local_condition : (condition : Condition) → IsLocal (condition_word condition)
local_condition conditions.Start = local_either (local_keyword words.Start) (local_keyword words.StartCondition)
local_condition conditions.End = local_either (local_keyword words.End) (local_keyword words.EndCondition)
local_condition conditions.Exit = local_either (local_keyword words.Exit) (local_keyword words.ExitCondition)
local_condition conditions.Skip = local_either (local_keyword words.Skip) (local_keyword words.SkipCondition)
local_condition conditions.Repeat = local_either (local_keyword words.Repeat) (local_keyword words.RepeatCondition)
local_condition conditions.Pre = local_either (local_keyword words.Pre) (local_keyword words.PreCondition)
local_condition conditions.Post = local_either (local_keyword words.Post) (local_keyword words.PostCondition)
local_condition conditions.Invariant = local_either (local_keyword words.Invariant) (local_keyword words.InvariantCondition)

pub local_number : (value : ℕ) → IsLocal (number value)
local_number value = local_one (kinds.Integer (pos value))

local_minus : (size : ℕ) → IsLocal (sign signs.Minus then number size)
local_minus size = local_then (local_sign signs.Minus) (local_number size)

local_negative : (value : ℤ) → IsLocal (negative value)
local_negative value = local_some (λ (size : ℕ). value ≡ neg_ℤ (pos size)) local_minus

pub local_signed : (value : ℤ) → IsLocal (signed value)
local_signed value = local_either (local_one (kinds.Integer value)) (local_negative value)

pub local_literal : (value : Literal) → IsLocal (literal value)
local_literal (literals.Integer value) = local_signed value
local_literal (literals.Boolean value) = local_one (literal_kind (literals.Boolean value))
local_literal (literals.Text content) = local_one (literal_kind (literals.Text content))

pub local_listed : (part : ListedLiteral) → IsLocal (listed part)
local_listed part = local_then (local_numbered part.token (local_literal part.value)) (local_optional (local_sign signs.Comma))

pub local_initial : (part : InitialData) → IsLocal (initial part)
local_initial (Value value token) = local_numbered token (local_literal value)
local_initial (Listed values token) =
    local_then (local_numbered token (local_sign signs.OpenList)) (local_then (local_each local_listed values) (local_sign signs.CloseParen))

pub local_size : (size : Option ℕ) → IsLocal (array_size size)
local_size = local_maybe (λ size. local_between signs.OpenBracket signs.CloseBracket (local_number size))

pub local_variable : (parts : VariableData) → IsLocal (variable parts)
local_variable parts =
    local_then (local_identifier parts.name)
    (local_then (local_size parts.size) (local_maybe (λ value. local_then (local_sign signs.Assign) (local_initial value)) parts.initial))

pub local_item : (part : ItemData) → IsLocal (item part)
local_item (Variables of_type variables) =
    local_then (local_type of_type) (local_then (local_commas local_variable variables) (local_sign signs.Semicolon))
local_item (Conditions condition token test) =
    local_then (local_numbered token (local_condition condition))
    (local_then (local_optional (local_sign signs.Colon)) (local_then (local_expression test) (local_sign signs.Semicolon)))
local_item (Priority token priority) =
    local_then (local_numbered token (local_keyword words.Priority))
    (local_then (local_optional (local_sign signs.Colon)) (local_then (local_number priority) (local_sign signs.Semicolon)))

-- ---- actions

pub local_label : (name : Option Identifier) → IsLocal (label name)
local_label = local_maybe (λ name. local_then (local_identifier name) (local_sign signs.Colon))

pub local_index : (index : Option Term) → IsLocal (optional_index index)
local_index = local_maybe (λ index. local_between signs.OpenBracket signs.CloseBracket (local_expression index))

local_target : (parts : TargetData) → IsLocal (target parts)
local_target parts = local_then (local_identifier parts.name) (local_index parts.index)

local_call : (parts : CallData) → IsLocal (call parts)
local_call parts =
    local_then (local_identifier parts.name) (local_between signs.OpenParen signs.CloseParen (local_arguments parts.args))

pub local_pair : (parts : PairData) → IsLocal (pair parts)
local_pair parts = local_then (local_identifier parts.name) (local_then (local_sign signs.Assign) (local_expression parts.value))

local_form : (form : BlockForm) → IsLocal (form_word form)
local_form forms.Plain = local_nothing
local_form forms.NodeList = local_nothing
local_form forms.Sequence = local_keyword words.Sequence
local_form forms.UncheckedSequence = local_keyword words.UncheckedSequence
local_form forms.Concurrence = local_keyword words.Concurrence
local_form forms.Try = local_keyword words.Try

local_node_list : (form : BlockForm) → IsLocal (node_list_word form)
local_node_list forms.NodeList = local_then (local_keyword words.NodeList) (local_sign signs.Colon)
local_node_list forms.Plain = local_nothing
local_node_list forms.Sequence = local_nothing
local_node_list forms.UncheckedSequence = local_nothing
local_node_list forms.Concurrence = local_nothing
local_node_list forms.Try = local_nothing

mutual
  pub local_block : (tree : BlockTree) → IsLocal (block tree)
  local_block (Braces form items actions) =
      local_then (local_form form)
      (local_then (local_sign signs.OpenBrace)
      (local_then (local_each local_item items)
      (local_then (local_node_list form) (local_then (local_each_action actions) (local_sign signs.CloseBrace)))))

  pub local_each_action : (actions : Actions) → IsLocal (each_action actions)
  local_each_action NoActions = local_nothing
  local_each_action (More first rest) = local_then (local_action first) (local_each_action rest)

  pub local_action : (tree : ActionTree) → IsLocal (action tree)
  local_action (Labelled name parts) = local_then (local_label name) (local_body parts)

  pub local_branch : (tree : BranchTree) → IsLocal (branch tree)
  local_branch (Branch name parts) = local_then (local_label name) (local_block parts)

  pub local_guarded : (tree : GuardedTree) → IsLocal (guarded tree)
  local_guarded (Guarded test parts) =
      local_then (local_sign signs.OpenParen)
      (local_then (local_expression test) (local_then (local_sign signs.CloseParen) (local_branch parts)))

  pub local_else_ifs : (tree : ElseIfs) → IsLocal (else_ifs tree)
  local_else_ifs NoElseIfs = local_nothing
  local_else_ifs (ElseIf first rest) = local_then (local_keyword words.ElseIf) (local_then (local_guarded first) (local_else_ifs rest))

  pub local_otherwise : (tree : ElseTree) → IsLocal (otherwise tree)
  local_otherwise NoElse = local_nothing
  local_otherwise (Else parts) = local_then (local_keyword words.Else) (local_branch parts)

  pub local_body : (tree : BodyTree) → IsLocal (body tree)
  local_body (Inner parts) = local_block parts
  local_body (Assign written value) =
      local_then (local_target written)
      (local_then (local_sign signs.Assign) (local_then (local_expression value) (local_sign signs.Semicolon)))
  local_body (CallInto written parts) =
      local_then (local_target written)
      (local_then (local_sign signs.Assign) (local_then (local_call parts) (local_sign signs.Semicolon)))
  local_body (Call parts) = local_then (local_call parts) (local_sign signs.Semicolon)
  local_body (Update token pairs) =
      local_then (local_numbered token (local_keyword words.Update))
      (local_then (local_optional (local_sign signs.Colon)) (local_then (local_commas local_pair pairs) (local_sign signs.Semicolon)))
  local_body (If first others last) =
      local_then (local_keyword words.If)
      (local_then (local_guarded first)
      (local_then (local_else_ifs others) (local_then (local_otherwise last) (local_optional (local_keyword words.EndIf)))))
  local_body (While parts) = local_then (local_keyword words.While) (local_guarded parts)
  local_body (For variable first test step parts) =
      local_then (local_keyword words.For)
      (local_then (local_sign signs.OpenParen)
      (local_then (local_keyword words.Integer)
      (local_then (local_identifier variable)
      (local_then (local_sign signs.Assign)
      (local_then (local_signed first)
      (local_then (local_sign signs.Semicolon)
      (local_then (local_expression test)
      (local_then (local_sign signs.Semicolon)
      (local_then (local_expression step) (local_then (local_sign signs.CloseParen) (local_branch parts)))))))))))

-- ---- declarations

pub local_parameter : (part : Parameter) → IsLocal (parameter part)
local_parameter part = local_then (local_type part.of_type) (local_maybe local_identifier part.name)

local_parameters : (parts : List Parameter) → IsLocal (parameters parts)
local_parameters [] = local_either local_nothing (local_then (local_sign signs.OpenParen) (local_sign signs.CloseParen))
local_parameters (first ∷ rest) =
    local_between signs.OpenParen signs.CloseParen (local_commas local_parameter (first ∷ rest))

pub local_declaration : (part : DeclarationData) → IsLocal (declaration part)
local_declaration (Command answer name parts) =
    local_then (local_maybe local_type answer)
    (local_then (local_keyword words.Command)
    (local_then (local_identifier name) (local_then (local_parameters parts) (local_sign signs.Semicolon))))
local_declaration (Lookup answer name parts) =
    local_then (local_type answer)
    (local_then (local_keyword words.Lookup)
    (local_then (local_identifier name) (local_then (local_parameters parts) (local_sign signs.Semicolon))))

pub local_declarations : (parts : List DeclarationData) → IsLocal (each declaration parts)
local_declarations = local_each local_declaration

pub local_plan : (tree : PlanTree) → IsLocal (plan tree)
local_plan tree = local_then (local_declarations tree.declarations) (local_then (local_label tree.label) (local_block tree.root))

-- ---- parts that the readers tell apart

pub local_closed_parameters : (parts : List Parameter) → IsLocal (closed_parameters parts)
local_closed_parameters [] = local_sign signs.CloseParen
local_closed_parameters (first ∷ rest) = local_then (local_commas local_parameter (first ∷ rest)) (local_sign signs.CloseParen)

pub local_counter : (parts : Identifier × ℤ) → IsLocal (counter parts)
local_counter parts =
    local_then (local_sign signs.OpenParen)
    (local_then (local_keyword words.Integer)
    (local_then (local_identifier parts.0)
    (local_then (local_sign signs.Assign) (local_then (local_signed parts.1) (local_sign signs.Semicolon)))))

pub local_head : (word : Option BlockForm) → IsLocal (head word)
local_head None = local_sign signs.OpenBrace
local_head (Some forms.Plain) = local_then local_never (local_sign signs.OpenBrace)
local_head (Some forms.NodeList) = local_then local_never (local_sign signs.OpenBrace)
local_head (Some forms.Sequence) = local_then (local_keyword words.Sequence) (local_sign signs.OpenBrace)
local_head (Some forms.UncheckedSequence) = local_then (local_keyword words.UncheckedSequence) (local_sign signs.OpenBrace)
local_head (Some forms.Concurrence) = local_then (local_keyword words.Concurrence) (local_sign signs.OpenBrace)
local_head (Some forms.Try) = local_then (local_keyword words.Try) (local_sign signs.OpenBrace)

pub local_list_word : (word : Option BlockForm) (form : BlockForm) → IsLocal (list_word word form)
local_list_word (Some word) form =
    record {
      rises = λ tokens from to o. omega (arith, o.1);
      moves = λ tokens others from to agree o. o;
    }
local_list_word None forms.Plain = local_nothing
local_list_word None forms.NodeList = local_then (local_keyword words.NodeList) (local_sign signs.Colon)
local_list_word None forms.Sequence = local_never
local_list_word None forms.UncheckedSequence = local_never
local_list_word None forms.Concurrence = local_never
local_list_word None forms.Try = local_never
