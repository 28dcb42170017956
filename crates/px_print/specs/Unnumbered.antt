-- A tree without the numbers of its tokens: each is 0.
use Rattle.std.specs.Prelude.{◌≡◌, map}
use Rattle.std.specs.Option.{option_map}
use Rattle.px_syntax.specs.declared.block.ListedLiteral.{ListedLiteral}
use Rattle.px_syntax.specs.declared.expr.Identifier.{Identifier}
use Rattle.px_syntax.specs.declared.expr.NodeReference.{NodeReference}
use Rattle.px_syntax.specs.declared.expr.NodeReference.TheVariants as nodes
use Rattle.px_syntax.specs.declared.expr.Tolerance.{Tolerance}
use Rattle.px_syntax.specs.declared.plan.Parameter.{Parameter}
use Rattle.px_syntax.specs.Block as blocks
use Rattle.px_syntax.specs.Block.{InitialData, VariableData, ItemData, TargetData, CallData, PairData, BlockTree, Actions, ActionTree, BranchTree, GuardedTree, ElseIfs, ElseTree, BodyTree}
use Rattle.px_syntax.specs.Expr as exprs
use Rattle.px_syntax.specs.Expr.{Term, Terms}
use Rattle.px_syntax.specs.Plan as plans
use Rattle.px_syntax.specs.Plan.{DeclarationData, PlanTree}

abbrev pub plain_name : Identifier → Identifier
plain_name name = record { name = name.name; token = 0 }

-- ---- expressions

abbrev pub plain_node : NodeReference → NodeReference
plain_node (nodes.Named name) = nodes.Named (plain_name name)
plain_node (nodes.SelfNode token) = nodes.SelfNode 0
plain_node (nodes.Parent token) = nodes.Parent 0
plain_node (nodes.Sibling token name) = nodes.Sibling 0 (plain_name name)
plain_node (nodes.Child token name) = nodes.Child 0 (plain_name name)

abbrev pub plain_tolerance : Tolerance → Tolerance
plain_tolerance tolerance = record { distance = tolerance.distance; token = 0 }

abbrev mutual
  pub plain_term : Term → Term
  plain_term (exprs.Literal value token) = exprs.Literal value 0
  plain_term (exprs.Enumerated value token) = exprs.Enumerated value 0
  plain_term (exprs.Variable name) = exprs.Variable (plain_name name)
  plain_term (exprs.Element array index) = exprs.Element (plain_name array) (plain_term index)
  plain_term (exprs.Attribute node attribute) = exprs.Attribute (plain_node node) attribute
  plain_term (exprs.Look word token name args tolerance) =
      exprs.Look word 0 (plain_name name) (plain_terms args) (option_map plain_tolerance tolerance)
  plain_term (exprs.UnaryCall function token argument) = exprs.UnaryCall function 0 (plain_term argument)
  plain_term (exprs.BinaryCall function token first second) =
      exprs.BinaryCall function 0 (plain_term first) (plain_term second)
  plain_term (exprs.Unary operator token operand) = exprs.Unary operator 0 (plain_term operand)
  plain_term (exprs.Binary operator left right) = exprs.Binary operator (plain_term left) (plain_term right)

  pub plain_terms : Terms → Terms
  plain_terms exprs.NoTerms = exprs.NoTerms
  plain_terms (exprs.More first rest) = exprs.More (plain_term first) (plain_terms rest)

-- ---- items

abbrev pub plain_listed : ListedLiteral → ListedLiteral
plain_listed listed = record { value = listed.value; token = 0 }

abbrev pub plain_initial : InitialData → InitialData
plain_initial (blocks.Value value token) = blocks.Value value 0
plain_initial (blocks.Listed values token) = blocks.Listed (map plain_listed values) 0

abbrev pub plain_variable : VariableData → VariableData
plain_variable variable =
    record {
      name = plain_name variable.name;
      size = variable.size;
      initial = option_map plain_initial variable.initial;
    }

abbrev pub plain_item : ItemData → ItemData
plain_item (blocks.Variables of_type variables) = blocks.Variables of_type (map plain_variable variables)
plain_item (blocks.Conditions condition token test) = blocks.Conditions condition 0 (plain_term test)
plain_item (blocks.Priority token priority) = blocks.Priority 0 priority

-- ---- actions

abbrev pub plain_target : TargetData → TargetData
plain_target target = record { name = plain_name target.name; index = option_map plain_term target.index }

abbrev pub plain_call : CallData → CallData
plain_call call = record { name = plain_name call.name; args = plain_terms call.args }

abbrev pub plain_pair : PairData → PairData
plain_pair pair = record { name = plain_name pair.name; value = plain_term pair.value }

abbrev mutual
  pub plain_block : BlockTree → BlockTree
  plain_block (blocks.Braces form items actions) = blocks.Braces form (map plain_item items) (plain_actions actions)

  pub plain_actions : Actions → Actions
  plain_actions blocks.NoActions = blocks.NoActions
  plain_actions (blocks.More first rest) = blocks.More (plain_action first) (plain_actions rest)

  pub plain_action : ActionTree → ActionTree
  plain_action (blocks.Labelled label body) = blocks.Labelled (option_map plain_name label) (plain_body body)

  pub plain_branch : BranchTree → BranchTree
  plain_branch (blocks.Branch label block) = blocks.Branch (option_map plain_name label) (plain_block block)

  pub plain_guarded : GuardedTree → GuardedTree
  plain_guarded (blocks.Guarded test branch) = blocks.Guarded (plain_term test) (plain_branch branch)

  pub plain_else_ifs : ElseIfs → ElseIfs
  plain_else_ifs blocks.NoElseIfs = blocks.NoElseIfs
  plain_else_ifs (blocks.ElseIf first rest) = blocks.ElseIf (plain_guarded first) (plain_else_ifs rest)

  pub plain_else : ElseTree → ElseTree
  plain_else blocks.NoElse = blocks.NoElse
  plain_else (blocks.Else branch) = blocks.Else (plain_branch branch)

  pub plain_body : BodyTree → BodyTree
  plain_body (blocks.Inner block) = blocks.Inner (plain_block block)
  plain_body (blocks.Assign target value) = blocks.Assign (plain_target target) (plain_term value)
  plain_body (blocks.CallInto target call) = blocks.CallInto (plain_target target) (plain_call call)
  plain_body (blocks.Call call) = blocks.Call (plain_call call)
  plain_body (blocks.Update token pairs) = blocks.Update 0 (map plain_pair pairs)
  plain_body (blocks.If first others otherwise) =
      blocks.If (plain_guarded first) (plain_else_ifs others) (plain_else otherwise)
  plain_body (blocks.While guarded) = blocks.While (plain_guarded guarded)
  plain_body (blocks.For variable first test step branch) =
      blocks.For (plain_name variable) first (plain_term test) (plain_term step) (plain_branch branch)

-- ---- plans

abbrev pub plain_parameter : Parameter → Parameter
plain_parameter parameter = record { of_type = parameter.of_type; name = option_map plain_name parameter.name }

abbrev pub plain_declaration : DeclarationData → DeclarationData
plain_declaration (plans.Command answer name parameters) =
    plans.Command answer (plain_name name) (map plain_parameter parameters)
plain_declaration (plans.Lookup answer name parameters) =
    plans.Lookup answer (plain_name name) (map plain_parameter parameters)

abbrev pub plain_plan : PlanTree → PlanTree
plain_plan tree =
    record {
      declarations = map plain_declaration tree.declarations;
      label = option_map plain_name tree.label;
      root = plain_block tree.root;
    }

-- two trees are the same, apart from the numbers of tokens
abbrev pub IsSame : PlanTree → PlanTree → Type 0
IsSame tree other = plain_plan tree ≡ plain_plan other
