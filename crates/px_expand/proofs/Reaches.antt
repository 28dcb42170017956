-- The longest path of the core plan of a tree is as long as its size says.
use Rattle.std.proofs.Common.{◌≡◌, ℕ, suc, max, List, [], length, Option, Some, None, refl, ap, arith}
use Rattle.px_syntax.specs.declared.word.BlockForm.{BlockForm}
use Rattle.px_syntax.specs.Block.{ItemData, BlockTree, Braces, Actions, NoActions, More, ActionTree, Labelled, BranchTree, Branch, GuardedTree, Guarded, ElseIfs, NoElseIfs, ElseIf, ElseTree, NoElse, Else, BodyTree, Inner, Assign, CallInto, Call, Update, If, While, For}
use Rattle.px_syntax.specs.Plan.{PlanTree}
use Rattle.px_value.specs.Path.{below}
use Rattle.px_core.specs.Plan as plan
use Rattle.px_core.specs.Plan.{Tree, NoNode}
use Rattle.px_expand.specs.Core.{Otherwise, name_of, branch_name, follows, shaped, block_scope, if_scope, while_scope, for_scope, root_place, block_core, actions_core, action_core, body_core, if_core, chain_core, else_core, branch_core, core}
use Rattle.px_forms.specs.Forms.{where_found, where_not_found, loop_path}
use Rattle.px_expand.specs.Kinds.{Shape, Rest, OneAction, Children, shape_of}
use Rattle.px_forms.specs.Names.{then_name, body_name, else_name}
use Rattle.px_forms.specs.Nodes.{Place, child, alone}
use Rattle.px_scope.specs.Scope.{Scope}
use Rattle.px_expand.specs.Size.{through, shaped_reach, block_reach, actions_reach, action_reach, body_reach, guarded_reach, else_if_reach, else_reach, branch_reach, longest}

-- how many bytes the longest path of nodes side by side has behind that of their parent
abbrev pub reach_of : Tree → ℕ
reach_of NoNode = 0
reach_of (plan.Branch head children rest) = max (through head.name (reach_of children)) (reach_of rest)

shaped_reaches :
    (place : Place) (shape : Shape) (scope : Scope) (form : BlockForm) (items : List ItemData) (paths : List (List ℕ))
    (children : Tree) (k : ℕ)
    → reach_of children ≡ k
    → reach_of (alone (shaped place shape scope form items paths children)) ≡ through place.name (shaped_reach shape k)
shaped_reaches place Rest scope form items paths children k h = omega arith
shaped_reaches place (OneAction body) scope form items paths children k h = omega arith
shaped_reaches place Children scope form items paths children k h = omega (arith, h)

mutual
  block_reaches :
      (scope : Scope) (place : Place) (block : BlockTree)
      → reach_of (alone (block_core scope place block)) ≡ through place.name (block_reach block)
  block_reaches scope place (Braces form items actions) =
      let inner : Scope = block_scope scope place (Braces form items actions) in
      shaped_reaches place (shape_of (Braces form items actions)) inner form items _
      (actions_core inner place.path form None 1 actions) (actions_reach 1 actions)
      (actions_reaches inner place.path form None 1 actions)

  actions_reaches :
      (scope : Scope) (path : List ℕ) (form : BlockForm) (behind : Option (List ℕ)) (place : ℕ) (actions : Actions)
      → reach_of (actions_core scope path form behind place actions) ≡ actions_reach place actions
  actions_reaches scope path form behind place NoActions = refl
  actions_reaches scope path form behind place (More first rest) =
      let one = action_reaches scope (child path (name_of place first) (follows form behind)) first in
      let others = actions_reaches scope path form (Some (below path (name_of place first))) (suc place) rest in
      omega (arith, one, others)

  action_reaches :
      (scope : Scope) (place : Place) (action : ActionTree)
      → reach_of (alone (action_core scope place action)) ≡ through place.name (action_reach action)
  action_reaches scope place (Labelled label body) = body_reaches scope place body

  body_reaches :
      (scope : Scope) (place : Place) (body : BodyTree)
      → reach_of (alone (body_core scope place body)) ≡ through place.name (body_reach body)
  body_reaches scope place (Inner block) = block_reaches scope place block
  body_reaches scope place (Assign target value) = omega arith
  body_reaches scope place (CallInto target call) = omega arith
  body_reaches scope place (Call call) = omega arith
  body_reaches scope place (Update token pairs) = omega arith
  body_reaches scope place (If guarded others otherwise) =
      if_reaches scope place (chain_core (else_core otherwise) others) (else_if_reach (else_reach otherwise) others)
      (chain_reaches (else_core otherwise) (else_reach otherwise) (else_reaches otherwise) others) guarded
  body_reaches scope place (While (Guarded test branch)) =
      let own =
      branch_reaches (while_scope scope place branch) body_name
      (child place.path (branch_name body_name branch) (where_found place.path)) branch refl in
      omega (arith, own)
  body_reaches scope place (For variable first test step branch) =
      let own =
      branch_reaches (for_scope scope place variable.name branch) body_name
      (child (loop_path place.path) (branch_name body_name branch) (where_found (loop_path place.path))) branch refl in
      omega (arith, own)

  if_reaches :
      (scope : Scope) (place : Place) (otherwise : Otherwise) (k : ℕ)
      → ((inner : Scope) (path : List ℕ) → reach_of (otherwise.nodes inner path) ≡ k)
      → (guarded : GuardedTree)
      → reach_of (alone (if_core scope place otherwise guarded)) ≡ through place.name (max (guarded_reach then_name guarded) k)
  if_reaches scope place otherwise k behind (Guarded test branch) =
      let inner : Scope = if_scope scope place branch otherwise in
      let own = branch_reaches inner then_name
      (child place.path (branch_name then_name branch) (where_found place.path)) branch refl in
      let others = behind inner place.path in
      omega (arith, own, others)

  chain_reaches :
      (last : Otherwise) (k : ℕ)
      → ((inner : Scope) (path : List ℕ) → reach_of (last.nodes inner path) ≡ k)
      → (others : ElseIfs) (inner : Scope) (path : List ℕ)
      → reach_of ((chain_core last others).nodes inner path) ≡ else_if_reach k others
  chain_reaches last k behind NoElseIfs inner path = behind inner path
  chain_reaches last k behind (ElseIf guarded others) inner path =
      if_reaches inner (child path else_name (where_not_found path)) (chain_core last others) (else_if_reach k others)
      (chain_reaches last k behind others) guarded

  else_reaches :
      (otherwise : ElseTree) (inner : Scope) (path : List ℕ)
      → reach_of ((else_core otherwise).nodes inner path) ≡ else_reach otherwise
  else_reaches NoElse inner path = refl
  else_reaches (Else branch) inner path =
      branch_reaches inner else_name (child path (branch_name else_name branch) (where_not_found path)) branch refl

  branch_reaches :
      (scope : Scope) (unlabelled : List ℕ) (place : Place) (branch : BranchTree)
      → place.name ≡ branch_name unlabelled branch
      → reach_of (alone (branch_core scope place branch)) ≡ branch_reach unlabelled branch
  branch_reaches scope unlabelled place (Branch label block) is =
      let own = block_reaches scope place block in
      omega (arith, own, ap length is)

pub core_reach : (plan : PlanTree) → reach_of (core plan) ≡ suc (longest plan)
core_reach plan =
    let own = block_reaches [] (root_place plan.label) plan.root in
    omega (arith, own)
