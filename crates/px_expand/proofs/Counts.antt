-- The core plan of a tree has as many nodes as its size says.
use Rattle.std.proofs.Common.{◌≡◌, ℕ, suc, ◌+◌, List, [], Option, Some, None, refl, arith}
use Rattle.px_syntax.specs.declared.word.BlockForm.{BlockForm}
use Rattle.px_syntax.specs.Block.{ItemData, BlockTree, Braces, Actions, NoActions, More, ActionTree, Labelled, BranchTree, Branch, GuardedTree, Guarded, ElseIfs, NoElseIfs, ElseIf, ElseTree, NoElse, Else, BodyTree, Inner, Assign, CallInto, Call, Update, If, While, For}
use Rattle.px_syntax.specs.Plan.{PlanTree}
use Rattle.px_value.specs.Path.{below}
use Rattle.px_core.specs.Plan.{Tree, count_of}
use Rattle.px_expand.specs.Core.{Otherwise, name_of, branch_name, follows, shaped, block_scope, if_scope, while_scope, for_scope, root_place, block_core, actions_core, action_core, body_core, if_core, chain_core, else_core, branch_core, core}
use Rattle.px_forms.specs.Forms.{where_found, where_not_found, loop_path}
use Rattle.px_expand.specs.Kinds.{Shape, Rest, OneAction, Children, shape_of}
use Rattle.px_forms.specs.Names.{then_name, body_name, else_name}
use Rattle.px_forms.specs.Nodes.{Place, child, alone}
use Rattle.px_scope.specs.Scope.{Scope}
use Rattle.px_expand.specs.Size.{shaped_nodes, block_nodes, actions_nodes, action_nodes, body_nodes, guarded_nodes, else_if_nodes, else_nodes, branch_nodes}

shaped_count :
    (place : Place) (shape : Shape) (scope : Scope) (form : BlockForm) (items : List ItemData) (paths : List (List ℕ))
    (children : Tree) (k : ℕ)
    → count_of children ≡ k
    → count_of (alone (shaped place shape scope form items paths children)) ≡ shaped_nodes shape k
shaped_count place Rest scope form items paths children k h = refl
shaped_count place (OneAction body) scope form items paths children k h = refl
shaped_count place Children scope form items paths children k h = omega (arith, h)

mutual
  block_count :
      (scope : Scope) (place : Place) (block : BlockTree)
      → count_of (alone (block_core scope place block)) ≡ block_nodes block
  block_count scope place (Braces form items actions) =
      let inner : Scope = block_scope scope place (Braces form items actions) in
      shaped_count place (shape_of (Braces form items actions)) inner form items _
      (actions_core inner place.path form None 1 actions) (actions_nodes actions)
      (actions_count inner place.path form None 1 actions)

  actions_count :
      (scope : Scope) (path : List ℕ) (form : BlockForm) (behind : Option (List ℕ)) (place : ℕ) (actions : Actions)
      → count_of (actions_core scope path form behind place actions) ≡ actions_nodes actions
  actions_count scope path form behind place NoActions = refl
  actions_count scope path form behind place (More first rest) =
      let one = action_count scope (child path (name_of place first) (follows form behind)) first in
      let others = actions_count scope path form (Some (below path (name_of place first))) (suc place) rest in
      omega (arith, one, others)

  action_count :
      (scope : Scope) (place : Place) (action : ActionTree)
      → count_of (alone (action_core scope place action)) ≡ action_nodes action
  action_count scope place (Labelled label body) = body_count scope place body

  body_count :
      (scope : Scope) (place : Place) (body : BodyTree)
      → count_of (alone (body_core scope place body)) ≡ body_nodes body
  body_count scope place (Inner block) = block_count scope place block
  body_count scope place (Assign target value) = refl
  body_count scope place (CallInto target call) = refl
  body_count scope place (Call call) = refl
  body_count scope place (Update token pairs) = refl
  body_count scope place (If guarded others otherwise) =
      let all =
      if_count scope place (chain_core (else_core otherwise) others) (else_if_nodes others + else_nodes otherwise)
      (chain_count (else_core otherwise) (else_nodes otherwise) (else_count otherwise) others) guarded in
      omega (arith, all)
  body_count scope place (While (Guarded test branch)) =
      let own =
      branch_count (while_scope scope place branch)
      (child place.path (branch_name body_name branch) (where_found place.path)) branch in
      omega (arith, own)
  body_count scope place (For variable first test step branch) =
      let own =
      branch_count (for_scope scope place variable.name branch)
      (child (loop_path place.path) (branch_name body_name branch) (where_found (loop_path place.path))) branch in
      omega (arith, own)

  if_count :
      (scope : Scope) (place : Place) (otherwise : Otherwise) (k : ℕ)
      → ((inner : Scope) (path : List ℕ) → count_of (otherwise.nodes inner path) ≡ k)
      → (guarded : GuardedTree)
      → count_of (alone (if_core scope place otherwise guarded)) ≡ guarded_nodes guarded + k
  if_count scope place otherwise k behind (Guarded test branch) =
      let inner : Scope = if_scope scope place branch otherwise in
      let own = branch_count inner (child place.path (branch_name then_name branch) (where_found place.path)) branch in
      let others = behind inner place.path in
      omega (arith, own, others)

  chain_count :
      (last : Otherwise) (k : ℕ)
      → ((inner : Scope) (path : List ℕ) → count_of (last.nodes inner path) ≡ k)
      → (others : ElseIfs) (inner : Scope) (path : List ℕ)
      → count_of ((chain_core last others).nodes inner path) ≡ else_if_nodes others + k
  chain_count last k behind NoElseIfs inner path = omega (arith, behind inner path)
  chain_count last k behind (ElseIf guarded others) inner path =
      let all =
      if_count inner (child path else_name (where_not_found path)) (chain_core last others) (else_if_nodes others + k)
      (chain_count last k behind others) guarded in
      omega (arith, all)

  else_count :
      (otherwise : ElseTree) (inner : Scope) (path : List ℕ)
      → count_of ((else_core otherwise).nodes inner path) ≡ else_nodes otherwise
  else_count NoElse inner path = refl
  else_count (Else branch) inner path =
      branch_count inner (child path (branch_name else_name branch) (where_not_found path)) branch

  branch_count :
      (scope : Scope) (place : Place) (branch : BranchTree)
      → count_of (alone (branch_core scope place branch)) ≡ branch_nodes branch
  branch_count scope place (Branch label block) = block_count scope place block

pub core_count : (plan : PlanTree) → count_of (core plan) ≡ block_nodes plan.root
core_count plan = block_count [] (root_place plan.label) plan.root
