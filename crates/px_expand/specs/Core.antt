-- THE CORE PLAN OF A TREE, by recursion on the tree.
use Rattle.std.specs.Prelude.{ℕ, suc, List, [], ◌∷◌, map, Option, Some, None}
use Rattle.std.specs.Option.{option_to_list}
use Rattle.px_value.specs.Path.{below}
use Rattle.px_syntax.specs.declared.expr.Identifier.{Identifier}
use Rattle.px_syntax.specs.declared.word.BlockForm.{BlockForm}
use Rattle.px_syntax.specs.declared.word.BlockForm.TheVariants as forms
use Rattle.px_syntax.specs.Block.{ItemData, BlockTree, Braces, Actions, NoActions, More, ActionTree, Labelled, BranchTree, Branch, GuardedTree, Guarded, ElseIfs, NoElseIfs, ElseIf, ElseTree, NoElse, Else, BodyTree, Inner, Assign, CallInto, Call, Update, If, While, For}
use Rattle.px_syntax.specs.Plan.{PlanTree}
use Rattle.px_core.specs.declared.node.Kind.TheVariants as kinds
use Rattle.px_core.specs.Plan.{Tree, NoNode, Nothing}
use Rattle.px_forms.specs.Adding.{Added, nothing}
use Rattle.px_forms.specs.Conditions.{Given, none_given}
use Rattle.px_forms.specs.Forms.{after, sequence, try, where_found, where_not_found, conditional, repeated, counted, loop_path}
use Rattle.px_core.specs.Defaults.{default_priority}
use Rattle.px_scope.specs.Items.{priority_of, variables_of}
use Rattle.px_expand.specs.Items.{given_by}
use Rattle.px_scope.specs.Actions.{kind_of, body_of}
use Rattle.px_expand.specs.Kinds.{Shape, Rest, OneAction, Children, shape_of}
use Rattle.px_forms.specs.Names.{root_name, action_name, then_name, body_name, else_name}
use Rattle.px_expand.specs.Names.{named}
use Rattle.px_forms.specs.Nodes.{Place, Node, child, leaf, list, before, alone}
use Rattle.px_expand.specs.Children.{seen, paths_of, inside}
use Rattle.px_scope.specs.Resolving.{resolved}
use Rattle.px_scope.specs.Scope.{Scope, Table}

-- ---- blocks

-- what a block's form adds to the conditions of the List; a block without a form word is a Sequence
abbrev pub formed : BlockForm → List (List ℕ) → Given → Given
formed forms.Plain children given = sequence children given
formed forms.NodeList children given = given
formed forms.Sequence children given = sequence children given
formed forms.UncheckedSequence children given = given
formed forms.Concurrence children given = given
formed forms.Try children given = try children given

-- and to the conditions of a child that stands behind another, or is the first
abbrev pub follows : BlockForm → Option (List ℕ) → Added
follows forms.Plain behind = after behind
follows forms.NodeList behind = nothing
follows forms.Sequence behind = after behind
follows forms.UncheckedSequence behind = after behind
follows forms.Concurrence behind = nothing
follows forms.Try behind = after behind

-- the name of the action with this place in its block
abbrev pub name_of : ℕ → ActionTree → List ℕ
name_of place (Labelled label body) = named label (action_name place)

-- the actions of the block at a path, from the one with this place on
abbrev pub actions_seen : List ℕ → ℕ → Actions → Table
actions_seen path place NoActions = []
actions_seen path place (More first rest) = seen path (name_of place first) ∷ actions_seen path (suc place) rest

-- the children that the text has of a block at a path; a block that is a single node has none
abbrev pub children_seen : Shape → List ℕ → Actions → Table
children_seen Children path actions = actions_seen path 1 actions
children_seen _ _ _ = []

abbrev pub form_of : BlockTree → BlockForm
form_of (Braces form _ _) = form

abbrev pub items_of : BlockTree → List ItemData
items_of (Braces _ items _) = items

abbrev pub actions_in : BlockTree → Actions
actions_in (Braces _ _ actions) = actions

abbrev pub block_seen : List ℕ → BlockTree → Table
block_seen path (Braces form items actions) = children_seen (shape_of (Braces form items actions)) path actions

abbrev pub block_scope : Scope → Place → BlockTree → Scope
block_scope scope place (Braces form items actions) =
    inside scope place (block_seen place.path (Braces form items actions))
    (map (λ variable. variable.name) (variables_of items))

-- a block of each shape, with what its items give in the scope inside it
abbrev pub shaped : Place → Shape → Scope → BlockForm → List ItemData → List (List ℕ) → Tree → Node
shaped place Rest scope form items paths children =
    leaf place kinds.Empty (given_by scope items) (priority_of items) (variables_of items) Nothing
shaped place (OneAction body) scope form items paths children =
    leaf place (kind_of body) (given_by scope items) (priority_of items) (variables_of items) (body_of scope body)
shaped place Children scope form items paths children =
    list place paths (formed form paths (given_by scope items)) (priority_of items) (variables_of items) children

abbrev pub shaped_as : Place → Scope → BlockTree → List (List ℕ) → Tree → Node
shaped_as place scope (Braces form items actions) =
    shaped place (shape_of (Braces form items actions)) scope form items

-- an assignment, a command or an update that is a node of its own
abbrev pub simple : Scope → Place → BodyTree → Node
simple scope place body =
    leaf place (kind_of body) none_given default_priority [] (body_of (inside scope place [] []) body)

-- ---- branches

-- the name of a branch
abbrev pub branch_name : List ℕ → BranchTree → List ℕ
branch_name unlabelled (Branch label block) = named label unlabelled

-- What stands after `else`, whichever `if` it belongs to: its name, if it is there, and its node in the scope inside
-- that `if` at its path.
pub record Otherwise : Type 0 where
  pub name : Option (List ℕ)
  pub nodes : Scope → List ℕ → Tree

-- the children that the text has of an `if` at a path, and of a `while` and the loop of a `for`
abbrev pub if_seen : List ℕ → BranchTree → Otherwise → Table
if_seen path branch otherwise =
    seen path (branch_name then_name branch) ∷ map (seen path) (option_to_list otherwise.name)

abbrev pub loop_seen : List ℕ → BranchTree → Table
loop_seen path branch = seen path (branch_name body_name branch) ∷ []

-- the scopes inside an `if`, a `while` and a `for`
abbrev pub if_scope : Scope → Place → BranchTree → Otherwise → Scope
if_scope scope place branch otherwise = inside scope place (if_seen place.path branch otherwise) []

abbrev pub while_scope : Scope → Place → BranchTree → Scope
while_scope scope place branch = inside scope place (loop_seen place.path branch) []

abbrev pub for_scope : Scope → Place → List ℕ → BranchTree → Scope
for_scope scope place variable branch =
    inside scope place (loop_seen (loop_path place.path) branch) (variable ∷ [])

abbrev mutual
  -- a block in its place
  pub block_core : Scope → Place → BlockTree → Node
  block_core scope place (Braces form items actions) =
      shaped place (shape_of (Braces form items actions)) (block_scope scope place (Braces form items actions)) form items
      (paths_of (block_seen place.path (Braces form items actions)))
      (actions_core (block_scope scope place (Braces form items actions)) place.path form None 1 actions)

  -- the actions of the block at a path, from the one with this place on, behind the one at another path
  pub actions_core : Scope → List ℕ → BlockForm → Option (List ℕ) → ℕ → Actions → Tree
  actions_core scope path form behind place NoActions = NoNode
  actions_core scope path form behind place (More first rest) =
      before (action_core scope (child path (name_of place first) (follows form behind)) first)
      (actions_core scope path form (Some (below path (name_of place first))) (suc place) rest)

  pub action_core : Scope → Place → ActionTree → Node
  action_core scope place (Labelled label body) = body_core scope place body

  -- what an action does, in its place
  pub body_core : Scope → Place → BodyTree → Node
  body_core scope place (Inner block) = block_core scope place block
  body_core scope place (Assign target value) = simple scope place (Assign target value)
  body_core scope place (CallInto target call) = simple scope place (CallInto target call)
  body_core scope place (Call call) = simple scope place (Call call)
  body_core scope place (Update token pairs) = simple scope place (Update token pairs)
  body_core scope place (If guarded others otherwise) =
      if_core scope place (chain_core (else_core otherwise) others) guarded
  body_core scope place (While (Guarded test branch)) =
      repeated place (resolved (while_scope scope place branch) test) (paths_of (loop_seen place.path branch))
      (alone
      (branch_core (while_scope scope place branch)
      (child place.path (branch_name body_name branch) (where_found place.path)) branch))
  body_core scope place (For variable first test step branch) =
      counted place variable.name first
      (resolved (for_scope scope place variable.name branch) test)
      (resolved (for_scope scope place variable.name branch) step)
      (below (loop_path place.path) (branch_name body_name branch))
      (branch_core (for_scope scope place variable.name branch)
      (child (loop_path place.path) (branch_name body_name branch) (where_found (loop_path place.path))) branch)

  -- an `if` in its place
  pub if_core : Scope → Place → Otherwise → GuardedTree → Node
  if_core scope place otherwise (Guarded test branch) =
      conditional place (resolved (if_scope scope place branch otherwise) test)
      (paths_of (if_seen place.path branch otherwise))
      (before
      (branch_core (if_scope scope place branch otherwise)
      (child place.path (branch_name then_name branch) (where_found place.path)) branch)
      (otherwise.nodes (if_scope scope place branch otherwise) place.path))

  -- An `elseif` is an `if` of its own, without a label, as the branch after `else`.
  pub chain_core : Otherwise → ElseIfs → Otherwise
  chain_core last NoElseIfs = last
  chain_core last (ElseIf guarded others) = record {
    name = Some else_name;
    nodes =
        λ scope path.
        alone (if_core scope (child path else_name (where_not_found path)) (chain_core last others) guarded);
  }

  pub else_core : ElseTree → Otherwise
  else_core NoElse = record { name = None; nodes = λ scope path. NoNode }
  else_core (Else branch) = record {
    name = Some (branch_name else_name branch);
    nodes =
        λ scope path.
        alone (branch_core scope (child path (branch_name else_name branch) (where_not_found path)) branch);
  }

  -- a branch in its place
  pub branch_core : Scope → Place → BranchTree → Node
  branch_core scope place (Branch label block) = block_core scope place block

-- ---- the whole

-- the path of a root is its name
abbrev pub root_place : Option Identifier → Place
root_place label = record { path = named label root_name; name = named label root_name; added = nothing }

abbrev pub core : PlanTree → Tree
core plan = alone (block_core [] (root_place plan.label) plan.root)
