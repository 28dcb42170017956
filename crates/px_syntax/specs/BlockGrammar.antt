-- Which tokens spell a block: the grammar of items and actions, a line for each production.
use Rattle.std.specs.Prelude.{◌≡◌, ℕ, ℤ, pos, neg_ℤ, Option}
use Rattle.px_lex.specs.declared.keyword.Keyword.TheVariants as words
use Rattle.px_lex.specs.declared.sign.Sign.TheVariants as signs
use Rattle.px_lex.specs.declared.token.TokenKind.TheVariants as kinds
use Rattle.px_syntax.specs.declared.block.ListedLiteral.{ListedLiteral}
use Rattle.px_syntax.specs.declared.expr.Identifier.{Identifier}
use Rattle.px_syntax.specs.declared.expr.Literal.{Literal}
use Rattle.px_syntax.specs.declared.expr.Literal.TheVariants as literals
use Rattle.px_syntax.specs.declared.word.BlockForm.{BlockForm}
use Rattle.px_syntax.specs.declared.word.BlockForm.TheVariants as forms
use Rattle.px_syntax.specs.declared.word.Condition.{Condition}
use Rattle.px_syntax.specs.declared.word.Condition.TheVariants as conditions
use Rattle.px_syntax.specs.declared.word.TypeName.{TypeName}
use Rattle.px_syntax.specs.declared.word.TypeName.TheVariants as types
use Rattle.px_syntax.specs.ExprGrammar.{literal_kind, arguments, expression, indexed}
use Rattle.px_syntax.specs.Form.{Form, one, sign, keyword, number, numbered, identifier, nothing, ◌then◌, either, optional, maybe, each, with_commas}
use Rattle.px_syntax.specs.Block.{InitialData, Value, Listed, VariableData, ItemData, Variables, Conditions, Priority, TargetData, CallData, PairData, BlockTree, Braces, Actions, NoActions, More, ActionTree, Labelled, BranchTree, Branch, GuardedTree, Guarded, ElseIfs, NoElseIfs, ElseIf, ElseTree, NoElse, Else, BodyTree, Inner, Assign, CallInto, Call, Update, If, While, For}

-- ---- items

abbrev pub type_word : TypeName → Form
type_word types.Integer = keyword words.Integer
type_word types.Boolean = keyword words.Boolean
type_word types.String = keyword words.String

-- the two spellings of a condition
abbrev pub condition_word : Condition → Form
condition_word conditions.Start = either (keyword words.Start) (keyword words.StartCondition)
condition_word conditions.End = either (keyword words.End) (keyword words.EndCondition)
condition_word conditions.Exit = either (keyword words.Exit) (keyword words.ExitCondition)
condition_word conditions.Skip = either (keyword words.Skip) (keyword words.SkipCondition)
condition_word conditions.Repeat = either (keyword words.Repeat) (keyword words.RepeatCondition)
condition_word conditions.Pre = either (keyword words.Pre) (keyword words.PreCondition)
condition_word conditions.Post = either (keyword words.Post) (keyword words.PostCondition)
condition_word conditions.Invariant =
    either (keyword words.Invariant) (keyword words.InvariantCondition)

-- a minus and the number of which this is the negative
abbrev pub negative : ℤ → Form
negative value tokens from to =
    (size : ℕ) × (value ≡ neg_ℤ (pos size)) × (sign signs.Minus then number size) tokens from to

-- a number that a minus may stand before
abbrev pub signed : ℤ → Form
signed value = either (one (kinds.Integer value)) (negative value)

abbrev pub literal : Literal → Form
literal (literals.Integer value) = signed value
literal value = one (literal_kind value)

abbrev pub listed : ListedLiteral → Form
listed part = numbered part.token (literal part.value) then optional (sign signs.Comma)

abbrev pub initial : InitialData → Form
initial (Value value token) = numbered token (literal value)
initial (Listed values token) =
    numbered token (sign signs.OpenList) then each listed values then sign signs.CloseParen

abbrev pub size_of : ℕ → Form
size_of size = sign signs.OpenBracket then number size then sign signs.CloseBracket

abbrev pub first_value : Option InitialData → Form
first_value = maybe (λ value. sign signs.Assign then initial value)

abbrev pub variable : VariableData → Form
variable parts = identifier parts.name then maybe size_of parts.size then first_value parts.initial

abbrev pub item : ItemData → Form
item (Variables of_type variables) =
    type_word of_type then with_commas variable variables then sign signs.Semicolon
item (Conditions condition token test) =
    numbered token (condition_word condition)
    then optional (sign signs.Colon) then expression test then sign signs.Semicolon
item (Priority token priority) =
    numbered token (keyword words.Priority)
    then optional (sign signs.Colon) then number priority then sign signs.Semicolon

-- ---- actions

abbrev pub label : Option Identifier → Form
label = maybe (λ name. identifier name then sign signs.Colon)

abbrev pub target : TargetData → Form
target parts =
    identifier parts.name then maybe indexed parts.index

abbrev pub call : CallData → Form
call parts =
    identifier parts.name
    then sign signs.OpenParen then arguments parts.args then sign signs.CloseParen

abbrev pub pair : PairData → Form
pair parts = identifier parts.name then sign signs.Assign then expression parts.value

-- what stands before the brace of a block
abbrev pub form_word : BlockForm → Form
form_word forms.Plain = nothing
form_word forms.NodeList = nothing
form_word forms.Sequence = keyword words.Sequence
form_word forms.UncheckedSequence = keyword words.UncheckedSequence
form_word forms.Concurrence = keyword words.Concurrence
form_word forms.Try = keyword words.Try

-- what stands between the items and the actions of a block
abbrev pub node_list_word : BlockForm → Form
node_list_word forms.NodeList = keyword words.NodeList then sign signs.Colon
node_list_word form = nothing

abbrev mutual
  pub block : BlockTree → Form
  block (Braces form items actions) =
      form_word form then sign signs.OpenBrace then each item items
      then node_list_word form then each_action actions then sign signs.CloseBrace

  pub each_action : Actions → Form
  each_action NoActions = nothing
  each_action (More first rest) = action first then each_action rest

  pub action : ActionTree → Form
  action (Labelled name parts) = label name then body parts

  pub branch : BranchTree → Form
  branch (Branch name parts) = label name then block parts

  -- a test in parentheses, and its branch
  pub guarded : GuardedTree → Form
  guarded (Guarded test parts) =
      sign signs.OpenParen then expression test then sign signs.CloseParen then branch parts

  pub else_ifs : ElseIfs → Form
  else_ifs NoElseIfs = nothing
  else_ifs (ElseIf first rest) = keyword words.ElseIf then guarded first then else_ifs rest

  pub otherwise : ElseTree → Form
  otherwise NoElse = nothing
  otherwise (Else parts) = keyword words.Else then branch parts

  pub body : BodyTree → Form
  body (Inner parts) = block parts
  body (Assign written value) =
      target written then sign signs.Assign then expression value then sign signs.Semicolon
  body (CallInto written parts) =
      target written then sign signs.Assign then call parts then sign signs.Semicolon
  body (Call parts) = call parts then sign signs.Semicolon
  body (Update token pairs) =
      numbered token (keyword words.Update)
      then optional (sign signs.Colon) then with_commas pair pairs then sign signs.Semicolon
  body (If first others last) =
      keyword words.If then guarded first then else_ifs others then otherwise last
      then optional (keyword words.EndIf)
  body (While parts) = keyword words.While then guarded parts
  body (For variable first test step parts) =
      keyword words.For then sign signs.OpenParen
      then keyword words.Integer then identifier variable then sign signs.Assign then signed first
      then sign signs.Semicolon then expression test
      then sign signs.Semicolon then expression step
      then sign signs.CloseParen then branch parts
