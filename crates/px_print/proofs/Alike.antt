-- Trees without the numbers of their tokens are laid out as they were.
use Rattle.std.proofs.Common.{◌≡◌, ℕ, List, [], ◌∷◌, ◌++◌, map, Option, Some, None, refl, sym, ap, ◌∙◌}
use Rattle.std.specs.Prelude.{codes}
use Rattle.std.specs.Fmt.{signed_decimal}
use Rattle.std.specs.List.{flat_map, join_by}
use Rattle.std.specs.Option.{option_map}
use Rattle.std.proofs.lemmas.List.Folds.{flat_map-map}
use Rattle.px_value.specs.Text.{bracketed}
use Rattle.px_syntax.specs.declared.block.ListedLiteral.{ListedLiteral}
use Rattle.px_syntax.specs.declared.expr.Identifier.{Identifier}
use Rattle.px_syntax.specs.declared.expr.NodeReference.{NodeReference}
use Rattle.px_syntax.specs.declared.expr.NodeReference.TheVariants as nodes
use Rattle.px_syntax.specs.declared.expr.Tolerance.{Tolerance}
use Rattle.px_syntax.specs.declared.plan.Parameter.{Parameter}
use Rattle.px_syntax.specs.Block as blocks
use Rattle.px_syntax.specs.Block.{InitialData, VariableData, ItemData, TargetData, CallData, PairData, BlockTree, Actions, ActionTree, BranchTree, GuardedTree, ElseIfs, ElseTree, BodyTree}
use Rattle.px_syntax.specs.Expr as exprs
use Rattle.px_syntax.specs.Expr.{Term, Terms}
use Rattle.px_syntax.specs.ExprGrammar.{attribute_word}
use Rattle.px_syntax.specs.Plan as plans
use Rattle.px_syntax.specs.Plan.{DeclarationData, PlanTree}
use Rattle.px_print.specs.Texts.{◌then◌}
use Rattle.px_print.specs.ExprLayout.{literal_text, look_text, unary_function_text, binary_function_text, unary_sign, binary_sign, node_text, tolerance_text, as_operand, as_optional, term_text, arguments_text, further_text}
use Rattle.px_print.specs.BlockLayout.{deeper, line, type_text, condition_text, initial_text, first_value_text, variable_text, item_text, label_text, index_text, target_text, call_text, pair_text, form_text, node_list_text, block_text, actions_text, action_text, branch_text, guarded_text, else_ifs_text, else_text, body_text}
use Rattle.px_print.specs.Layout.{name_text, parameter_text, parameters_text, answer_text, declaration_text, layout}
use Rattle.px_print.specs.Unnumbered.{plain_name, plain_node, plain_tolerance, plain_term, plain_terms, plain_listed, plain_initial, plain_variable, plain_item, plain_target, plain_call, plain_pair, plain_block, plain_actions, plain_action, plain_branch, plain_guarded, plain_else_ifs, plain_else, plain_body, plain_parameter, plain_declaration, plain_plan, IsSame}

-- ---- lists

module _ {A : Type 0} (plain : A → A) (text : A → List ℕ) (one : (part : A) → text (plain part) ≡ text part) where
  each_alike : (parts : List A) → flat_map text (map plain parts) ≡ flat_map text parts
  each_alike parts = flat_map-map text plain parts ∙ (λ i. flat_map (λ part. one part i) parts)

joined_alike : {A : Type 0} (plain : A → A) (text : A → List ℕ) → ((part : A) → text (plain part) ≡ text part) → (between : List ℕ)
    (parts : List A) → join_by text between (map plain parts) ≡ join_by text between parts
joined_alike plain text one between [] = refl
joined_alike plain text one between (part ∷ parts) =
    λ i. one part i ++ each_alike plain (λ part. between ++ text part) (λ part. ap (λ t. between ++ t) (one part)) parts i

-- ---- expressions

node_alike : (node : NodeReference) → node_text (plain_node node) ≡ node_text node
node_alike (nodes.Named name) = refl
node_alike (nodes.SelfNode token) = refl
node_alike (nodes.Parent token) = refl
node_alike (nodes.Sibling token name) = refl
node_alike (nodes.Child token name) = refl

tolerance_alike : (tolerance : Option Tolerance) → tolerance_text (option_map plain_tolerance tolerance) ≡ tolerance_text tolerance
tolerance_alike None = refl
tolerance_alike (Some tolerance) = refl

operand_alike : (term : Term) (text : List ℕ) → as_operand (plain_term term) text ≡ as_operand term text
operand_alike (exprs.Literal value token) text = refl
operand_alike (exprs.Enumerated value token) text = refl
operand_alike (exprs.Variable name) text = refl
operand_alike (exprs.Element array index) text = refl
operand_alike (exprs.Attribute node attribute) text = refl
operand_alike (exprs.Look word token name args tolerance) text = refl
operand_alike (exprs.UnaryCall function token argument) text = refl
operand_alike (exprs.BinaryCall function token first second) text = refl
operand_alike (exprs.Unary operator token operand) text = refl
operand_alike (exprs.Binary operator left right) text = refl

optional_alike : (args : Terms) (text : List ℕ) → as_optional (plain_terms args) text ≡ as_optional args text
optional_alike exprs.NoTerms text = refl
optional_alike (exprs.More first rest) text = refl

mutual
  term_alike : (term : Term) → term_text (plain_term term) ≡ term_text term
  term_alike (exprs.Literal value token) = refl
  term_alike (exprs.Enumerated value token) = refl
  term_alike (exprs.Variable name) = refl
  term_alike (exprs.Element array index) = ap (λ t. array.name then codes "[" then t then codes "]") (term_alike index)
  term_alike (exprs.Attribute node attribute) = ap (λ t. t then codes "." then attribute_word attribute) (node_alike node)
  term_alike (exprs.Look word token name args tolerance) = λ i.
      look_text word then codes "(" then name.name
      then (optional_alike args (arguments_text (plain_terms args)) ∙ ap (as_optional args) (arguments_alike args)) i
      then tolerance_alike tolerance i then codes ")"
  term_alike (exprs.UnaryCall function token argument) =
      ap (λ t. unary_function_text function then codes "(" then t then codes ")") (term_alike argument)
  term_alike (exprs.BinaryCall function token first second) = λ i.
      binary_function_text function then codes "(" then term_alike first i then codes ", " then term_alike second i then codes ")"
  term_alike (exprs.Unary operator token operand) =
      ap (λ t. unary_sign operator then t) (operand_alike operand (term_text (plain_term operand)) ∙ ap (as_operand operand) (term_alike operand))
  term_alike (exprs.Binary operator left right) = λ i.
      (operand_alike left (term_text (plain_term left)) ∙ ap (as_operand left) (term_alike left)) i
      then codes " " then binary_sign operator then codes " "
      then (operand_alike right (term_text (plain_term right)) ∙ ap (as_operand right) (term_alike right)) i

  arguments_alike : (args : Terms) → arguments_text (plain_terms args) ≡ arguments_text args
  arguments_alike exprs.NoTerms = refl
  arguments_alike (exprs.More first rest) = λ i. term_alike first i then further_alike rest i

  further_alike : (args : Terms) → further_text (plain_terms args) ≡ further_text args
  further_alike exprs.NoTerms = refl
  further_alike (exprs.More first rest) = λ i. codes ", " then term_alike first i then further_alike rest i

-- ---- items

initial_alike : (initial : InitialData) → initial_text (plain_initial initial) ≡ initial_text initial
initial_alike (blocks.Value value token) = refl
initial_alike (blocks.Listed values token) =
    ap (λ t. codes "#(" then t then codes ")")
    (joined_alike plain_listed (λ (listed : ListedLiteral). literal_text listed.value) (λ listed. refl) (codes " ") values)

first_value_alike : (initial : Option InitialData) → first_value_text (option_map plain_initial initial) ≡ first_value_text initial
first_value_alike None = refl
first_value_alike (Some initial) = ap (λ t. codes " = " then t) (initial_alike initial)

variable_alike : (variable : VariableData) → variable_text (plain_variable variable) ≡ variable_text variable
variable_alike variable = ap (λ t. variable.name.name then bracketed variable.size then t) (first_value_alike variable.initial)

item_alike : (item : ItemData) → item_text (plain_item item) ≡ item_text item
item_alike (blocks.Variables of_type variables) =
    ap (λ t. type_text of_type then codes " " then t then codes ";") (joined_alike plain_variable variable_text variable_alike (codes ", ") variables)
item_alike (blocks.Conditions condition token test) =
    ap (λ t. condition_text condition then codes " " then t then codes ";") (term_alike test)
item_alike (blocks.Priority token priority) = refl

-- ---- actions

label_alike : (label : Option Identifier) → label_text (option_map plain_name label) ≡ label_text label
label_alike None = refl
label_alike (Some name) = refl

index_alike : (index : Option Term) → index_text (option_map plain_term index) ≡ index_text index
index_alike None = refl
index_alike (Some index) = ap (λ t. codes "[" then t then codes "]") (term_alike index)

target_alike : (target : TargetData) → target_text (plain_target target) ≡ target_text target
target_alike target = ap (λ t. target.name.name then t) (index_alike target.index)

call_alike : (call : CallData) → call_text (plain_call call) ≡ call_text call
call_alike call = ap (λ t. call.name.name then codes "(" then t then codes ")") (arguments_alike call.args)

pair_alike : (pair : PairData) → pair_text (plain_pair pair) ≡ pair_text pair
pair_alike pair = ap (λ t. pair.name.name then codes " = " then t) (term_alike pair.value)

mutual
  block_alike : (margin : List ℕ) (tree : BlockTree) → block_text margin (plain_block tree) ≡ block_text margin tree
  block_alike margin (blocks.Braces form items actions) = λ i.
      form_text form then codes "{\n"
      then each_alike plain_item (λ item. line (deeper margin) (item_text item)) (λ item. ap (line (deeper margin)) (item_alike item)) items i
      then node_list_text (deeper margin) form then actions_alike (deeper margin) actions i then margin then codes "}"

  actions_alike : (margin : List ℕ) (tree : Actions) → actions_text margin (plain_actions tree) ≡ actions_text margin tree
  actions_alike margin blocks.NoActions = refl
  actions_alike margin (blocks.More first rest) = λ i. line margin (action_alike margin first i) then actions_alike margin rest i

  action_alike : (margin : List ℕ) (tree : ActionTree) → action_text margin (plain_action tree) ≡ action_text margin tree
  action_alike margin (blocks.Labelled label body) = λ i. label_alike label i then body_alike margin body i

  branch_alike : (margin : List ℕ) (tree : BranchTree) → branch_text margin (plain_branch tree) ≡ branch_text margin tree
  branch_alike margin (blocks.Branch label block) = λ i. label_alike label i then block_alike margin block i

  guarded_alike : (margin : List ℕ) (tree : GuardedTree) → guarded_text margin (plain_guarded tree) ≡ guarded_text margin tree
  guarded_alike margin (blocks.Guarded test branch) = λ i. codes "(" then term_alike test i then codes ") " then branch_alike margin branch i

  else_ifs_alike : (margin : List ℕ) (tree : ElseIfs) → else_ifs_text margin (plain_else_ifs tree) ≡ else_ifs_text margin tree
  else_ifs_alike margin blocks.NoElseIfs = refl
  else_ifs_alike margin (blocks.ElseIf first rest) = λ i. (codes " elseif " then guarded_alike margin first i) then else_ifs_alike margin rest i

  else_alike : (margin : List ℕ) (tree : ElseTree) → else_text margin (plain_else tree) ≡ else_text margin tree
  else_alike margin blocks.NoElse = refl
  else_alike margin (blocks.Else branch) = ap (λ t. codes " else " then t) (branch_alike margin branch)

  body_alike : (margin : List ℕ) (tree : BodyTree) → body_text margin (plain_body tree) ≡ body_text margin tree
  body_alike margin (blocks.Inner block) = block_alike margin block
  body_alike margin (blocks.Assign target value) = λ i. target_alike target i then codes " = " then term_alike value i then codes ";"
  body_alike margin (blocks.CallInto target call) = λ i. target_alike target i then codes " = " then call_alike call i then codes ";"
  body_alike margin (blocks.Call call) = ap (λ t. t then codes ";") (call_alike call)
  body_alike margin (blocks.Update token pairs) =
      ap (λ t. codes "Update " then t then codes ";") (joined_alike plain_pair pair_text pair_alike (codes ", ") pairs)
  body_alike margin (blocks.If first others otherwise) = λ i.
      codes "if " then guarded_alike margin first i then else_ifs_alike margin others i then else_alike margin otherwise i then codes " endif"
  body_alike margin (blocks.While guarded) = ap (λ t. codes "while " then t) (guarded_alike margin guarded)
  body_alike margin (blocks.For variable first test step branch) = λ i.
      codes "for (Integer " then variable.name then codes " = " then signed_decimal first then codes "; " then term_alike test i
      then codes "; " then term_alike step i then codes ") " then branch_alike margin branch i

-- ---- plans

parameter_alike : (parameter : Parameter) → parameter_text (plain_parameter parameter) ≡ parameter_text parameter
parameter_alike parameter = ap (λ t. type_text parameter.of_type then t) (name_alike parameter.name)
  where
    name_alike : (name : Option Identifier) → name_text (option_map plain_name name) ≡ name_text name
    name_alike None = refl
    name_alike (Some name) = refl

parameters_alike : (parameters : List Parameter) → parameters_text (map plain_parameter parameters) ≡ parameters_text parameters
parameters_alike [] = refl
parameters_alike (first ∷ rest) =
    ap (λ t. codes "(" then t then codes ")") (joined_alike plain_parameter parameter_text parameter_alike (codes ", ") (first ∷ rest))

declaration_alike : (part : DeclarationData) → declaration_text (plain_declaration part) ≡ declaration_text part
declaration_alike (plans.Command answer name parameters) =
    ap (λ t. answer_text answer then codes "Command " then name.name then t then codes ";") (parameters_alike parameters)
declaration_alike (plans.Lookup answer name parameters) =
    ap (λ t. type_text answer then codes " Lookup " then name.name then t then codes ";") (parameters_alike parameters)

layout_alike : (tree : PlanTree) → layout (plain_plan tree) ≡ layout tree
layout_alike tree = λ i.
    each_alike plain_declaration (λ part. line [] (declaration_text part)) (λ part. ap (line []) (declaration_alike part)) tree.declarations i
    then line [] (label_alike tree.label i then block_alike [] tree.root i)

pub one_layout : (tree other : PlanTree) → IsSame tree other → layout tree ≡ layout other
one_layout tree other same = sym (layout_alike tree) ∙ ap layout same ∙ layout_alike other
