-- The variables of a core plan have as many cells as those of its tree, and at most one more for each node.
use Rattle.std.proofs.Common.{◌≡◌, ℕ, suc, ◌+◌, ◌≤◌, Bool, cond, List, [], ◌∷◌, ◌++◌, map, Option, Some, None, refl, sym, ap, ◌∙◌, inl, inr, arith}
use Rattle.std.specs.Prelude.{nat_lt, sum}
use Rattle.std.specs.List.{flat_map, sum_by}
use Rattle.std.proofs.lemmas.Bool.{ltb-false, cases_Bool}
use Rattle.std.proofs.lemmas.List.{map-append}
use Rattle.std.proofs.lemmas.List.Folds.{fold-map}
use Rattle.std.proofs.lemmas.List.Sums.{sum_by-append, sum_by-cons}
use Rattle.px_syntax.specs.declared.fault.FaultKind.TheVariants.{TooLarge}
use Rattle.px_syntax.specs.declared.word.BlockForm.{BlockForm}
use Rattle.px_syntax.specs.declared.word.TypeName.{TypeName}
use Rattle.px_syntax.specs.Block as text
use Rattle.px_syntax.specs.Block.{ItemData, Variables, Conditions, Priority, BlockTree, Braces, Actions, NoActions, More, ActionTree, Labelled, BranchTree, Branch, GuardedTree, Guarded, ElseIfs, NoElseIfs, ElseIf, ElseTree, NoElse, Else, BodyTree, Inner, Assign, CallInto, Call, Update, If, While, For}
use Rattle.px_syntax.specs.Fault.{fault_at}
use Rattle.px_syntax.specs.Plan.{PlanTree}
use Rattle.px_syntax.specs.PlanFaults.{Cells, variable_cells, item_cells, block_cells, actions_cells, action_cells, body_cells, guarded_cells, else_if_cells, else_cells, branch_cells, passing_fault}
use Rattle.px_value.specs.Path.{below}
use Rattle.px_core.specs.Fit.{cells_of, cells_of_site, cells_of_all}
use Rattle.px_core.specs.Plan as plan
use Rattle.px_core.specs.Plan.{VariableData, Site, Tree, NoNode, path_under, sites_under}
use Rattle.px_expand.specs.Core.{Otherwise, name_of, branch_name, follows, shaped, block_seen, block_scope, if_scope, while_scope, for_scope, root_place, block_core, actions_core, action_core, body_core, if_core, chain_core, else_core, branch_core, core}
use Rattle.px_forms.specs.Forms.{where_found, where_not_found, loop_path}
use Rattle.px_scope.specs.Items.{variable_of, variables_in, variables_of}
use Rattle.px_expand.specs.Kinds.{Shape, Rest, OneAction, Children, shape_of}
use Rattle.px_forms.specs.Names.{then_name, body_name, else_name}
use Rattle.px_forms.specs.Nodes.{Place, child, alone}
use Rattle.px_expand.specs.Children.{paths_of}
use Rattle.px_scope.specs.Scope.{Scope}
use Rattle.px_expand.specs.Size.{shaped_nodes, block_nodes, actions_nodes, action_nodes, body_nodes, guarded_nodes, else_if_nodes, else_nodes, branch_nodes}
use Rattle.px_expand.proofs.Faultless.{fault_some}

-- ---- the cells of a tree of nodes

abbrev cells_in_variables : List VariableData → ℕ
cells_in_variables variables = sum (map cells_of variables)

abbrev cells_in : Tree → ℕ
cells_in NoNode = 0
cells_in (plan.Branch head children rest) = cells_in_variables head.variables + cells_in children + cells_in rest

cells_of_sites : (above : List (List ℕ)) (tree : Tree) → sum (map cells_of_site (sites_under above tree)) ≡ cells_in tree
cells_of_sites above NoNode = refl
cells_of_sites above (plan.Branch head children rest) =
    let front : List Site = sites_under (path_under above head.name ∷ above) children in
    let back : List Site = sites_under above rest in
    let both = map-append cells_of_site front back in
    let split = sum_by-append (λ number. number) (map cells_of_site front) (map cells_of_site back) in
    let inside = cells_of_sites (path_under above head.name ∷ above) children in
    let behind = cells_of_sites above rest in
    let own = sum_by-cons (λ number. number) (cells_in_variables head.variables) (map cells_of_site (front ++ back)) in
    omega (arith, own, ap sum both, split, inside, behind)

-- ---- the cells of the text

abbrev count : Cells → ℕ
count cells = cells.count

abbrev total : List Cells → ℕ
total = sum_by count

few_cells : (before : ℕ) (cells : List Cells) → passing_fault before cells ≡ [] → before ≤ 65536 → before + total cells ≤ 65536
few_cells before [] none few = omega arith
few_cells before (first ∷ rest) none few =
    elim (cases_Bool (nat_lt 65536 (before + first.count))) [
      | inl past ↦ absurd (fault_some TooLarge first.token (ap (λ (test : Bool). cond test (fault_at TooLarge first.token) (passing_fault (before + first.count) rest)) (sym past) ∙ none))
      | inr within ↦
          let more = few_cells (before + first.count) rest
          (ap (λ (test : Bool). cond test (fault_at TooLarge first.token) (passing_fault (before + first.count) rest)) (sym within) ∙ none)
          (ltb-false 65536 (before + first.count) within) in
          omega (arith, more, sum_by-cons count first rest)
    ]

listed_cells : (of_type : TypeName) (variables : List text.VariableData)
    → cells_in_variables (map (variable_of of_type) variables) ≡ total (item_cells (Variables of_type variables))
listed_cells of_type variables =
    fold-map (λ (so_far cells : ℕ). so_far + cells) cells_of 0 (map (variable_of of_type) variables)
    ∙ fold-map (λ (so_far : ℕ) (variable : VariableData). so_far + cells_of variable) (variable_of of_type) 0 variables
    ∙ sym (fold-map (λ (so_far : ℕ) (cells : Cells). so_far + cells.count) variable_cells 0 variables)

item_sum : (item : ItemData) → cells_in_variables (variables_in item) ≡ total (item_cells item)
item_sum (Variables of_type variables) = listed_cells of_type variables
item_sum (Conditions condition token test) = refl
item_sum (Priority token priority) = refl

items_sum : (items : List ItemData) → cells_in_variables (variables_of items) ≡ total (flat_map item_cells items)
items_sum [] = refl
items_sum (item ∷ items) =
    let both = map-append cells_of (variables_in item) (variables_of items) in
    let split = sum_by-append (λ number. number) (map cells_of (variables_in item)) (map cells_of (variables_of items)) in
    let text = sum_by-append count (item_cells item) (flat_map item_cells items) in
    omega (arith, ap sum both, split, text, item_sum item, items_sum items)

-- ---- along the core plan

shaped_cells :
    (place : Place) (shape : Shape) (scope : Scope) (form : BlockForm) (items : List ItemData) (paths : List (List ℕ))
    (children : Tree) (cells nodes : ℕ) → cells_in children ≤ cells + nodes
    → cells_in (alone (shaped place shape scope form items paths children))
    ≤ total (flat_map item_cells items) + cells + shaped_nodes shape nodes
shaped_cells place Rest scope form items paths children cells nodes few = omega (arith, items_sum items)
shaped_cells place (OneAction body) scope form items paths children cells nodes few = omega (arith, items_sum items)
shaped_cells place Children scope form items paths children cells nodes few = omega (arith, items_sum items)

mutual
  block_few : (scope : Scope) (place : Place) (block : BlockTree)
      → cells_in (alone (block_core scope place block)) ≤ total (block_cells block) + block_nodes block
  block_few scope place (Braces form items actions) =
      let inner : Scope = block_scope scope place (Braces form items actions) in
      let own =
      shaped_cells place (shape_of (Braces form items actions)) inner form items
      (paths_of (block_seen place.path (Braces form items actions)))
      (actions_core inner place.path form None 1 actions) (total (actions_cells actions)) (actions_nodes actions)
      (actions_few inner place.path form None 1 actions) in
      let text = sum_by-append count (flat_map item_cells items) (actions_cells actions) in
      omega (arith, own, text)

  actions_few : (scope : Scope) (path : List ℕ) (form : BlockForm) (behind : Option (List ℕ)) (place : ℕ) (actions : Actions)
      → cells_in (actions_core scope path form behind place actions) ≤ total (actions_cells actions) + actions_nodes actions
  actions_few scope path form behind place NoActions = omega arith
  actions_few scope path form behind place (More first rest) =
      let one = action_few scope (child path (name_of place first) (follows form behind)) first in
      let others = actions_few scope path form (Some (below path (name_of place first))) (suc place) rest in
      omega (arith, one, others, sum_by-append count (action_cells first) (actions_cells rest))

  action_few : (scope : Scope) (place : Place) (action : ActionTree)
      → cells_in (alone (action_core scope place action)) ≤ total (action_cells action) + action_nodes action
  action_few scope place (Labelled label body) = body_few scope place body

  body_few : (scope : Scope) (place : Place) (body : BodyTree)
      → cells_in (alone (body_core scope place body)) ≤ total (body_cells body) + body_nodes body
  body_few scope place (Inner block) = block_few scope place block
  body_few scope place (Assign target value) = omega arith
  body_few scope place (CallInto target call) = omega arith
  body_few scope place (Call call) = omega arith
  body_few scope place (Update token pairs) = omega arith
  body_few scope place (If guarded others otherwise) =
      let all =
      if_few scope place (chain_core (else_core otherwise) others)
      (total (else_if_cells others) + else_if_nodes others + (total (else_cells otherwise) + else_nodes otherwise))
      (chain_few (else_core otherwise) (total (else_cells otherwise) + else_nodes otherwise) (else_few otherwise) others) guarded in
      omega (
        arith,
        all,
        sum_by-append count (guarded_cells guarded ++ else_if_cells others) (else_cells otherwise),
        sum_by-append count (guarded_cells guarded) (else_if_cells others),
      )
  body_few scope place (While (Guarded test branch)) =
      let own =
      branch_few (while_scope scope place branch)
      (child place.path (branch_name body_name branch) (where_found place.path)) branch in
      omega (arith, own)
  body_few scope place (For variable first test step branch) =
      let own =
      branch_few (for_scope scope place variable.name branch)
      (child (loop_path place.path) (branch_name body_name branch) (where_found (loop_path place.path))) branch in
      let counter : Cells = record { token = variable.token; count = 1 } in
      omega (arith, own, sum_by-cons count counter (branch_cells branch))

  if_few : (scope : Scope) (place : Place) (otherwise : Otherwise) (k : ℕ)
      → ((inner : Scope) (path : List ℕ) → cells_in (otherwise.nodes inner path) ≤ k)
      → (guarded : GuardedTree)
      → cells_in (alone (if_core scope place otherwise guarded)) ≤ total (guarded_cells guarded) + guarded_nodes guarded + k
  if_few scope place otherwise k behind (Guarded test branch) =
      let inner : Scope = if_scope scope place branch otherwise in
      let own = branch_few inner (child place.path (branch_name then_name branch) (where_found place.path)) branch in
      let others = behind inner place.path in
      omega (arith, own, others)

  chain_few : (last : Otherwise) (k : ℕ)
      → ((inner : Scope) (path : List ℕ) → cells_in (last.nodes inner path) ≤ k)
      → (others : ElseIfs) (inner : Scope) (path : List ℕ)
      → cells_in ((chain_core last others).nodes inner path) ≤ total (else_if_cells others) + else_if_nodes others + k
  chain_few last k behind NoElseIfs inner path = omega (arith, behind inner path)
  chain_few last k behind (ElseIf guarded others) inner path =
      let all =
      if_few inner (child path else_name (where_not_found path)) (chain_core last others)
      (total (else_if_cells others) + else_if_nodes others + k) (chain_few last k behind others) guarded in
      omega (arith, all, sum_by-append count (guarded_cells guarded) (else_if_cells others))

  else_few : (otherwise : ElseTree) (inner : Scope) (path : List ℕ)
      → cells_in ((else_core otherwise).nodes inner path) ≤ total (else_cells otherwise) + else_nodes otherwise
  else_few NoElse inner path = omega arith
  else_few (Else branch) inner path =
      branch_few inner (child path (branch_name else_name branch) (where_not_found path)) branch

  branch_few : (scope : Scope) (place : Place) (branch : BranchTree)
      → cells_in (alone (branch_core scope place branch)) ≤ total (branch_cells branch) + branch_nodes branch
  branch_few scope place (Branch label block) = block_few scope place block

pub core_cells : (tree : PlanTree) → passing_fault 0 (block_cells tree.root) ≡ [] → block_nodes tree.root ≤ 4096
    → cells_of_all (core tree) ≤ 131072
core_cells tree none few =
    let all = cells_of_sites [] (core tree) in
    let own = block_few [] (root_place tree.label) tree.root in
    let text = few_cells 0 (block_cells tree.root) none (omega arith) in
    omega (arith, all, own, text)
