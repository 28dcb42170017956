-- What a name means somewhere in a plan: which declaration, and which node.
use Rattle.std.specs.Prelude.{ℕ, Bool, true, false, List, [], ◌∷◌, ◌++◌, map, slice_get, Option, Some, None, if◌then◌else◌}
use Rattle.std.specs.List.{find, flat_map}
use Rattle.std.specs.Option.{option_map, option_map_or, option_and_then}
use Rattle.std.specs.Str.{bytes_eq}
use Rattle.px_syntax.specs.declared.expr.Identifier.{Identifier}
use Rattle.px_syntax.specs.declared.expr.NodeReference.{NodeReference}
use Rattle.px_syntax.specs.declared.expr.NodeReference.TheVariants as nodes
use Rattle.px_syntax.specs.declared.plan.Parameter.{Parameter}
use Rattle.px_syntax.specs.declared.value_type.ValueType.{ValueType}
use Rattle.px_syntax.specs.declared.word.BlockForm.TheVariants as forms
use Rattle.px_syntax.specs.declared.word.TypeName.{TypeName}
use Rattle.px_syntax.specs.Block.{BlockTree, Braces, Actions, NoActions, More, Labelled, BranchTree, Branch, BodyTree, Inner, Assign, CallInto, Call, Update}
use Rattle.px_syntax.specs.Plan.{DeclarationData, Command, Lookup}
use Rattle.px_syntax.specs.ValueType.{named_type}

-- ---- what is visible

-- a variable
pub record Visible : Type 0 where
  pub name : List ℕ
  pub of_type : ValueType
  pub is_array : Bool

-- a command or a lookup that the plan declares: what it gives, if it gives anything, and what it takes
pub record Global : Type 0 where
  pub name : Identifier
  pub answer : Option ValueType
  pub parameters : List ValueType

-- what is seen of a node from outside: its label, where it has one, and whether it is a Command
pub record Head : Type 0 where
  pub label : Option (List ℕ)
  pub is_command : Bool

-- a node, and what is seen of its children
pub record Node : Type 0 where
  pub head : Head
  pub children : List Head

-- The declared commands and lookups; the visible variables, the nearest first; and the nodes round an expression, from
-- the one that it belongs to out.
pub record Scope : Type 0 where
  pub commands : List Global
  pub lookups : List Global
  pub variables : List Visible
  pub nodes : List Node

-- the scope inside a further node, which declares variables
abbrev pub inside : Scope → Node → List Visible → Scope
inside scope node variables = record {
  commands = scope.commands;
  lookups = scope.lookups;
  variables = variables ++ scope.variables;
  nodes = node ∷ scope.nodes;
}

-- ---- declarations

abbrev pub parameter_types : List Parameter → List ValueType
parameter_types = map (λ parameter. named_type parameter.of_type)

abbrev pub global : Option TypeName → Identifier → List Parameter → Global
global answer name parameters = record {
  name = name;
  answer = option_map named_type answer;
  parameters = parameter_types parameters;
}

-- commands and lookups are two sorts of names
abbrev pub commands_in : DeclarationData → List Global
commands_in (Command answer name parameters) = global answer name parameters ∷ []
commands_in (Lookup answer name parameters) = []

abbrev pub lookups_in : DeclarationData → List Global
lookups_in (Command answer name parameters) = []
lookups_in (Lookup answer name parameters) = global (Some answer) name parameters ∷ []

-- the declaration of a name among these; of two of one name the first counts
abbrev pub declared : List Global → List ℕ → Option Global
declared globals name = find (λ global. bytes_eq name global.name.name) globals

-- the nearest variable of a name
abbrev pub variable_named : Scope → List ℕ → Option Visible
variable_named scope name = find (λ variable. bytes_eq name variable.name) scope.variables

-- ---- nodes

abbrev pub head_of : Option Identifier → Bool → Head
head_of label is_command = record { label = option_map (λ name. name.name) label; is_command = is_command }

-- an action that its block may be one node with
abbrev pub is_simple : BodyTree → Bool
is_simple (Assign target value) = true
is_simple (CallInto target call) = true
is_simple (Call call) = true
is_simple (Update token pairs) = true
is_simple body = false

-- A plain block whose only action is an assignment, a command or an update without a label is one node with it.
abbrev pub own_action : BlockTree → Option BodyTree
own_action (Braces forms.Plain items (More (Labelled None body) NoActions)) =
    if is_simple body then Some body else None
own_action block = None

abbrev pub is_call : BodyTree → Bool
is_call (CallInto target call) = true
is_call (Call call) = true
is_call body = false

-- the node of a block, and of an action, is a Command
abbrev pub is_command_block : BlockTree → Bool
is_command_block block = option_map_or is_call (own_action block) false

abbrev pub is_command_body : BodyTree → Bool
is_command_body (Inner block) = is_command_block block
is_command_body body = is_call body

-- the children that actions are, and the one that a branch is
abbrev pub children_of : Actions → List Head
children_of NoActions = []
children_of (More (Labelled label body) rest) = head_of label (is_command_body body) ∷ children_of rest

abbrev pub branch_child : BranchTree → List Head
branch_child (Branch label block) = head_of label (is_command_block block) ∷ []

-- the node that a block is; what it is one node with has no label, and so can't be named as its child
abbrev pub block_node : Option Identifier → BlockTree → Node
block_node label (Braces form items actions) = record {
  head = head_of label (is_command_block (Braces form items actions));
  children = children_of actions;
}

-- ---- which node is meant

abbrev pub is_named : List ℕ → Head → Bool
is_named name head = option_map_or (bytes_eq name) head.label false

-- what a name is looked for in: from the innermost node out, the children of each and then itself
abbrev pub searched : List Node → List Head
searched = flat_map (λ node. node.children ++ node.head ∷ [])

abbrev pub child_named : List ℕ → Node → Option Head
child_named name node = find (is_named name) node.children

-- the node that an expression belongs to, and the node round that one
abbrev pub self_of : Scope → Option Node
self_of scope = slice_get scope.nodes 0

abbrev pub parent_of : Scope → Option Node
parent_of scope = slice_get scope.nodes 1

-- the node that a reference means, if it is there
abbrev pub meant : Scope → NodeReference → Option Head
meant scope (nodes.Named name) = find (is_named name.name) (searched scope.nodes)
meant scope (nodes.SelfNode token) = option_map (λ node. node.head) (self_of scope)
meant scope (nodes.Parent token) = option_map (λ node. node.head) (parent_of scope)
meant scope (nodes.Sibling token name) = option_and_then (child_named name.name) (parent_of scope)
meant scope (nodes.Child token name) = option_and_then (child_named name.name) (self_of scope)

-- the first token of a reference
abbrev pub reference_token : NodeReference → ℕ
reference_token (nodes.Named name) = name.token
reference_token (nodes.SelfNode token) = token
reference_token (nodes.Parent token) = token
reference_token (nodes.Sibling token name) = token
reference_token (nodes.Child token name) = token
