-- How blocks are laid out, with their items and actions: an equation for each production of the grammar. A line has a
-- margin of blanks, which each block makes deeper by two.
use Rattle.std.specs.Prelude.{ℕ, List, [], Option, Some, None, codes, decimal}
use Rattle.std.specs.Fmt.{signed_decimal}
use Rattle.std.specs.List.{flat_map, join_by}
use Rattle.px_value.specs.Text.{bracketed}
use Rattle.px_syntax.specs.declared.expr.Identifier.{Identifier}
use Rattle.px_syntax.specs.declared.word.BlockForm.{BlockForm}
use Rattle.px_syntax.specs.declared.word.BlockForm.TheVariants as forms
use Rattle.px_syntax.specs.declared.word.Condition.{Condition}
use Rattle.px_syntax.specs.declared.word.Condition.TheVariants as conditions
use Rattle.px_syntax.specs.declared.word.TypeName.{TypeName}
use Rattle.px_syntax.specs.declared.word.TypeName.TheVariants as types
use Rattle.px_syntax.specs.Block.{InitialData, Value, Listed, VariableData, ItemData, Variables, Conditions, Priority, TargetData, CallData, PairData, BlockTree, Braces, Actions, NoActions, More, ActionTree, Labelled, BranchTree, Branch, GuardedTree, Guarded, ElseIfs, NoElseIfs, ElseIf, ElseTree, NoElse, Else, BodyTree, Inner, Assign, CallInto, Call, Update, If, While, For}
use Rattle.px_syntax.specs.Expr.{Term}
use Rattle.px_print.specs.ExprLayout.{literal_text, term_text, arguments_text, enclosed}
use Rattle.px_print.specs.Texts.{◌then◌}

abbrev pub deeper : List ℕ → List ℕ
deeper margin = margin then codes "  "

abbrev pub line : List ℕ → List ℕ → List ℕ
line margin text = margin then text then codes "\n"

-- ---- items

abbrev pub type_text : TypeName → List ℕ
type_text types.Integer = codes "Integer"
type_text types.Boolean = codes "Boolean"
type_text types.String = codes "String"

-- of a condition's two words the short one
abbrev pub condition_text : Condition → List ℕ
condition_text conditions.Start = codes "Start"
condition_text conditions.End = codes "End"
condition_text conditions.Exit = codes "Exit"
condition_text conditions.Skip = codes "Skip"
condition_text conditions.Repeat = codes "Repeat"
condition_text conditions.Pre = codes "Pre"
condition_text conditions.Post = codes "Post"
condition_text conditions.Invariant = codes "Invariant"

-- literals of a list with a blank between each two
abbrev pub initial_text : InitialData → List ℕ
initial_text (Value value token) = literal_text value
initial_text (Listed values token) =
    codes "#(" then join_by (λ listed. literal_text listed.value) (codes " ") values then codes ")"

abbrev pub first_value_text : Option InitialData → List ℕ
first_value_text None = []
first_value_text (Some initial) = codes " = " then initial_text initial

abbrev pub variable_text : VariableData → List ℕ
variable_text variable = variable.name.name then bracketed variable.size then first_value_text variable.initial

abbrev pub item_text : ItemData → List ℕ
item_text (Variables of_type variables) =
    type_text of_type then codes " " then join_by variable_text (codes ", ") variables then codes ";"
item_text (Conditions condition token test) = condition_text condition then codes " " then term_text test then codes ";"
item_text (Priority token priority) = codes "Priority " then decimal priority then codes ";"

-- ---- actions

abbrev pub label_text : Option Identifier → List ℕ
label_text None = []
label_text (Some name) = name.name then codes ": "

abbrev pub index_text : Option Term → List ℕ
index_text None = []
index_text (Some index) = codes "[" then term_text index then codes "]"

abbrev pub target_text : TargetData → List ℕ
target_text target = target.name.name then index_text target.index

abbrev pub call_text : CallData → List ℕ
call_text call = call.name.name then enclosed (arguments_text call.args)

abbrev pub pair_text : PairData → List ℕ
pair_text pair = pair.name.name then codes " = " then term_text pair.value

-- what stands before the brace of a block
abbrev pub form_text : BlockForm → List ℕ
form_text forms.Plain = []
form_text forms.NodeList = []
form_text forms.Sequence = codes "Sequence "
form_text forms.UncheckedSequence = codes "UncheckedSequence "
form_text forms.Concurrence = codes "Concurrence "
form_text forms.Try = codes "Try "

-- what stands between the items and the actions of a block
abbrev pub node_list_text : List ℕ → BlockForm → List ℕ
node_list_text margin forms.NodeList = line margin (codes "NodeList:")
node_list_text margin form = []

abbrev mutual
  -- its form and its brace; its lines, deeper; and its closing brace on a line of its own, which others may end
  pub block_text : List ℕ → BlockTree → List ℕ
  block_text margin (Braces form items actions) =
      form_text form then codes "{\n"
      then flat_map (λ item. line (deeper margin) (item_text item)) items
      then node_list_text (deeper margin) form
      then actions_text (deeper margin) actions
      then margin then codes "}"

  -- each action begins a line
  pub actions_text : List ℕ → Actions → List ℕ
  actions_text margin NoActions = []
  actions_text margin (More first rest) = line margin (action_text margin first) then actions_text margin rest

  pub action_text : List ℕ → ActionTree → List ℕ
  action_text margin (Labelled label body) = label_text label then body_text margin body

  pub branch_text : List ℕ → BranchTree → List ℕ
  branch_text margin (Branch label block) = label_text label then block_text margin block

  pub guarded_text : List ℕ → GuardedTree → List ℕ
  guarded_text margin (Guarded test branch) = codes "(" then term_text test then codes ") " then branch_text margin branch

  pub else_ifs_text : List ℕ → ElseIfs → List ℕ
  else_ifs_text margin NoElseIfs = []
  else_ifs_text margin (ElseIf first rest) =
      (codes " elseif " then guarded_text margin first) then else_ifs_text margin rest

  pub else_text : List ℕ → ElseTree → List ℕ
  else_text margin NoElse = []
  else_text margin (Else branch) = codes " else " then branch_text margin branch

  pub body_text : List ℕ → BodyTree → List ℕ
  body_text margin (Inner block) = block_text margin block
  body_text margin (Assign target value) = target_text target then codes " = " then term_text value then codes ";"
  body_text margin (CallInto target call) = target_text target then codes " = " then call_text call then codes ";"
  body_text margin (Call call) = call_text call then codes ";"
  body_text margin (Update token pairs) = codes "Update " then join_by pair_text (codes ", ") pairs then codes ";"
  body_text margin (If first others otherwise) =
      codes "if " then guarded_text margin first then else_ifs_text margin others then else_text margin otherwise
      then codes " endif"
  body_text margin (While guarded) = codes "while " then guarded_text margin guarded
  body_text margin (For variable first test step branch) =
      codes "for (Integer " then variable.name then codes " = " then signed_decimal first then codes "; " then term_text test
      then codes "; " then term_text step then codes ") " then branch_text margin branch
