-- What blocks and their actions are at fault for, noted part by part; and coming back from inside them.
use Rattle.std.proofs.Common.{◌≡◌, ℕ, ℤ, ◌+◌, ◌<◌, Bool, false, List, [], ◌∷◌, ◌++◌, map, drop, length, get_or}
use Rattle.std.proofs.Common.{Option, None, is_some, option_map, refl, sym, ap, ◌∙◌}
use Rattle.std.proofs.lemmas.List.Prefix.{end_rest}
use Rattle.px_value.proofs.General.{cut_at, is_some_mapped}
use Rattle.px_syntax.specs.declared.block.Action.{Action, out-Action}
use Rattle.px_syntax.specs.declared.block.Block.{Block, out-Block}
use Rattle.px_syntax.specs.declared.block.Branch.{Branch, out-Branch}
use Rattle.px_syntax.specs.declared.block.Guarded.{Guarded, out-Guarded}
use Rattle.px_syntax.specs.declared.expr.Identifier.{Identifier}
use Rattle.px_syntax.specs.declared.value_type.ValueType.TheVariants.{Boolean, Integer}
use Rattle.px_syntax.specs.Block.{BodyTree, BranchTree, Braces, GuardedTree, ElseIfs, NoElseIfs, ElseIf, ElseTree, If, For, item_data, block_of, body_of, branch_of, guarded_of, else_ifs_in_turn}
use Rattle.px_syntax.specs.BlockFaults.{redeclared, items_faults, action_labels, action_faults, actions_faults, body_faults, block_faults, branch_faults, guarded_faults, else_if_faults, else_faults, if_label_faults, if_children, else_child, inside_block, inside_list, inside_if, inside_last, inside_for}
use Rattle.px_syntax.specs.Expr.{Term, term_of}
use Rattle.px_syntax.specs.ExprFaults.{faults_as}
use Rattle.px_syntax.specs.Fault.{Fault}
use Rattle.px_syntax.specs.Scope.{Scope, Head, Node, own_action, head_of}
use Rattle.px_syntax.proofs.Trees.{block_is, action_is, branch_is, guarded_is, in_turn}
use Rattle.px_check.specs.Found.{Sought, noted}
use Rattle.px_check.specs.Scope.{outside}
use Rattle.px_check.proofs.Noting.{noted_append, noted_then}
use Rattle.px_check.proofs.Walking.{part_walked}

-- ---- a block

-- whether a block is one node with an action
pub own_told : {X : Type 0} (f : X → BodyTree) (own : Option X) (tree : Option BodyTree) → option_map f own ≡ tree
    → is_some own ≡ is_some tree
own_told f own tree own_is = is_some_mapped f own ∙ ap is_some own_is

pub block_noted : (scope : Scope) (label : Option Identifier) (block : Block) (own : Bool) (entered : Scope)
    (found after_items after_labels new : Sought)
    → entered ≡ inside_block scope label (block_of block)
    → after_items ≡ noted found (items_faults entered (map item_data (out-Block block).items.items))
    → after_labels ≡ noted after_items (redeclared (action_labels (in_turn (out-Block block).actions.items)))
    → own ≡ is_some (own_action (block_of block))
    → new ≡ noted after_labels (actions_faults entered own (in_turn (out-Block block).actions.items))
    → new ≡ noted found (block_faults scope label (block_of block))
block_noted scope label block own entered found after_items after_labels new entered_is items_is labels_are own_is actions_is =
    let items = map item_data (out-Block block).items.items in
    let actions = in_turn (out-Block block).actions.items in
    let tree = Braces (out-Block block).form items actions in
    let place = entered_is ∙ ap (inside_block scope label) (block_is block) in
    let one = own_is ∙ ap (λ tree. is_some (own_action tree)) (block_is block) in
    noted_then found after_labels new
    (items_faults (inside_block scope label tree) items ++ redeclared (action_labels actions))
    (actions_faults (inside_block scope label tree) (is_some (own_action tree)) actions)
    (noted_then found after_items after_labels (items_faults (inside_block scope label tree) items)
    (redeclared (action_labels actions))
    (items_is ∙ ap (λ place. noted found (items_faults place items)) place)
    labels_are)
    (actions_is ∙ (λ i. noted after_labels (actions_faults (place i) (one i) actions)))
    ∙ ap (λ tree. noted found (block_faults scope label tree)) (sym (block_is block))

-- an action more
pub action_walked : (scope : Scope) (is_one_node : Bool) (actions : List Action) (place : ℕ) (action : Action)
    (found new : Sought) → place < length actions → action ≡ get_or actions place action
    → new ≡ noted found (body_faults scope is_one_node (out-Action action).label (body_of (out-Action action).body))
    → noted new (actions_faults scope is_one_node (in_turn (drop (place + 1) actions)))
    ≡ noted found (actions_faults scope is_one_node (in_turn (drop place actions)))
action_walked scope is_one_node actions place action found new within is own =
    part_walked (λ left. actions_faults scope is_one_node (in_turn left))
    (λ action. body_faults scope is_one_node (out-Action action).label (body_of (out-Action action).body))
    (λ first rest. ap (λ tree. action_faults scope is_one_node tree ++ actions_faults scope is_one_node (in_turn rest))
    (action_is first))
    actions place action found new within is own

-- ---- a branch, and a test with its branch

pub branch_noted : (scope : Scope) (branch : Branch) (found new : Sought)
    → new ≡ noted found (block_faults scope (out-Branch branch).label (block_of (out-Branch branch).block))
    → new ≡ noted found (branch_faults scope (branch_of branch))
branch_noted scope branch found new own =
    own ∙ ap (λ tree. noted found (branch_faults scope tree)) (sym (branch_is branch))

pub guarded_noted : (scope : Scope) (guarded : Guarded) (found between new : Sought)
    → between ≡ noted found (faults_as (Boolean ∷ []) scope (term_of (out-Guarded guarded).test))
    → new ≡ noted between (branch_faults scope (branch_of (out-Guarded guarded).branch))
    → new ≡ noted found (guarded_faults scope (guarded_of guarded))
guarded_noted scope guarded found between new test branch =
    noted_then found between new (faults_as (Boolean ∷ []) scope (term_of (out-Guarded guarded).test))
    (branch_faults scope (branch_of (out-Guarded guarded).branch)) test branch
    ∙ ap (λ tree. noted found (guarded_faults scope tree)) (sym (guarded_is guarded))

-- ---- lists: `while`, `for` and `if`

-- what is found inside, where it is said of another name of that place
pub found_at : (faults_at : Scope → List Fault) (entered place : Scope) (found new : Sought) → entered ≡ place
    → new ≡ noted found (faults_at entered) → new ≡ noted found (faults_at place)
found_at faults_at entered place found new place_is own = own ∙ ap (λ place. noted found (faults_at place)) place_is

pub for_noted : (scope : Scope) (one : Bool) (label : Option Identifier) (variable : Identifier) (first : ℤ)
    (test step : Term) (branch : BranchTree) (entered : Scope) (found between new : Sought)
    → entered ≡ inside_for scope label variable branch
    → between ≡ noted found (faults_as (Boolean ∷ []) entered test ++ faults_as (Integer ∷ []) entered step)
    → new ≡ noted between (branch_faults entered branch)
    → new ≡ noted found (body_faults scope one label (For variable first test step branch))
for_noted scope one label variable first test step branch entered found between new entered_is tests_are branch_is =
    found_at (λ place. faults_as (Boolean ∷ []) place test ++ faults_as (Integer ∷ []) place step ++ branch_faults place branch)
    entered (inside_for scope label variable branch) found new entered_is
    (noted_then found between new (faults_as (Boolean ∷ []) entered test ++ faults_as (Integer ∷ []) entered step)
    (branch_faults entered branch) tests_are branch_is)

-- a scope inside further nodes without variables
abbrev IsWithin : Scope → Scope → Type 0
IsWithin scope inner = (nodes : List Node) × (inner ≡ record {
  commands = scope.commands;
  lookups = scope.lookups;
  variables = scope.variables;
  nodes = nodes ++ scope.nodes;
})

within_list : (scope inner : Scope) (label : Option Identifier) (children : List Head) → IsWithin scope inner
    → IsWithin scope (inside_list inner label children [])
within_list scope inner label children within = (
  record { head = head_of label false; children = children } ∷ within.0,
  ap (λ (inner : Scope). inside_list inner label children []) within.1,
)

within_last : (scope inner : Scope) (others : ElseIfs) (last : List Head) → IsWithin scope inner
    → IsWithin scope (inside_last inner others last)
within_last scope inner NoElseIfs last within = within
within_last scope inner (ElseIf next others) last within =
    within_last scope (inside_if inner None next others last) others last
    (within_list scope inner None (if_children next others last) within)

pub if_left : (scope : Scope) (label : Option Identifier) (first : GuardedTree) (others : ElseIfs) (last : List Head)
    (entered deepest new : Scope) → entered ≡ inside_if scope label first others last
    → deepest ≡ inside_last entered others last
    → new ≡ outside (length scope.nodes) (length scope.variables) deepest → new ≡ scope
if_left scope label first others last entered deepest new entered_is deepest_is new_is =
    let within = within_last scope (inside_if scope label first others last) others last
    (within_list scope scope label (if_children first others last) ([], refl)) in
    new_is
    ∙ ap (outside (length scope.nodes) (length scope.variables))
    (deepest_is ∙ ap (λ entered. inside_last entered others last) entered_is ∙ within.1)
    ∙ (λ i. record {
      commands = scope.commands;
      lookups = scope.lookups;
      variables = end_rest scope.variables scope.variables [] refl i;
      nodes = end_rest (within.0 ++ scope.nodes) scope.nodes within.0 refl i;
    })

-- an `if` with its labels, and the parts of its chain
pub if_noted : (scope : Scope) (one : Bool) (label : Option Identifier) (first : GuardedTree) (others : ElseIfs)
    (otherwise : ElseTree) (entered tested deepest : Scope) (found after_labels after_first after_others new : Sought)
    → entered ≡ inside_if scope label first others (else_child otherwise) → tested ≡ entered
    → deepest ≡ inside_last tested others (else_child otherwise)
    → after_labels ≡ noted found (if_label_faults first others otherwise)
    → after_first ≡ noted after_labels (guarded_faults entered first)
    → after_others ≡ noted after_first (else_if_faults tested others (else_child otherwise))
    → new ≡ noted after_others (else_faults deepest otherwise)
    → new ≡ noted found (body_faults scope one label (If first others otherwise))
if_noted scope one label first others otherwise entered tested deepest found after_labels after_first after_others new entered_is tested_is deepest_is labels_is first_is others_is last_is =
    let last = else_child otherwise in
    let labels = if_label_faults first others otherwise in
    let chain = else_if_faults entered others last in
    let deepest_at = deepest_is ∙ ap (λ place. inside_last place others last) tested_is in
    found_at (λ place. labels ++ guarded_faults place first ++ else_if_faults place others last
    ++ else_faults (inside_last place others last) otherwise)
    entered (inside_if scope label first others last) found new entered_is
    (noted_then found after_others new (labels ++ guarded_faults entered first ++ chain)
    (else_faults (inside_last entered others last) otherwise)
    (noted_then found after_first after_others (labels ++ guarded_faults entered first) chain
    (noted_then found after_labels after_first labels (guarded_faults entered first) labels_is first_is)
    (others_is ∙ ap (λ place. noted after_first (else_if_faults place others last)) tested_is))
    (last_is ∙ ap (λ place. noted after_others (else_faults place otherwise)) deepest_at))

-- an `elseif` more
pub chain_walked : (others : List Guarded) (place : ℕ) (next : Guarded) (later : List Guarded) (last : List Head)
    (scope entered new_scope : Scope) (found new : Sought) → place < length others → next ≡ get_or others place next
    → later ≡ drop (place + 1) others
    → entered ≡ inside_if scope None (guarded_of next) (else_ifs_in_turn (map guarded_of later)) last
    → new_scope ≡ entered → new ≡ noted found (guarded_faults entered (guarded_of next))
    → (inside_last new_scope (else_ifs_in_turn (map guarded_of (drop (place + 1) others))) last
    ≡ inside_last scope (else_ifs_in_turn (map guarded_of (drop place others))) last)
    × (noted new (else_if_faults new_scope (else_ifs_in_turn (map guarded_of (drop (place + 1) others))) last)
    ≡ noted found (else_if_faults scope (else_ifs_in_turn (map guarded_of (drop place others))) last))
chain_walked others place next later last scope entered new_scope found new within is later_is entered_is scope_is new_is =
    let rest = else_ifs_in_turn (map guarded_of (drop (place + 1) others)) in
    let start = inside_if scope None (guarded_of next) rest last in
    let entered_at = entered_is
    ∙ ap (λ later. inside_if scope None (guarded_of next) (else_ifs_in_turn (map guarded_of later)) last) later_is in
    let new_at = scope_is ∙ entered_at in
    let cut = cut_at others place next within is in (
      ap (λ place. inside_last place rest last) new_at
          ∙ ap (λ left. inside_last scope (else_ifs_in_turn (map guarded_of left)) last) (sym cut),
      (λ i. noted ((new_is ∙ ap (λ place. noted found (guarded_faults place (guarded_of next))) entered_at) i)
          (else_if_faults (new_at i) rest last))
          ∙ sym (noted_append found (guarded_faults start (guarded_of next)) (else_if_faults start rest last))
          ∙ ap (λ left. noted found (else_if_faults scope (else_ifs_in_turn (map guarded_of left)) last)) (sym cut),
    )
