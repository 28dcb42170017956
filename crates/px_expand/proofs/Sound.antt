-- THE NODES OF A CORE PLAN ARE SOUND EACH BY ITSELF: what a node has is of its kind, its children differ in name, and so do its
-- variables, which have right sizes and values of their types.
use Rattle.std.proofs.Common.{◌≡◌, ℕ, suc, ◌≤◌, Bool, true, false, cond, not, List, [], ◌∷◌, ◌++◌, Option, Some, None, refl, ap, ◌∙◌, arith}
use Rattle.std.specs.List.{list_any}
use Rattle.std.specs.Option.{option_to_list, is_some}
use Rattle.std.proofs.lemmas.Cmp.{nat_list_eq_equiv}
use Rattle.std.proofs.lemmas.Bool.{and_from, and_parts, or_from, or_parts, not-true, not_from_false}
use Rattle.std.proofs.lemmas.List.Folds.{list_all-append}
use Rattle.px_value.proofs.General.{list_all_parts, neither}
use Rattle.px_syntax.specs.declared.expr.Identifier.{Identifier}
use Rattle.px_syntax.specs.declared.value_type.ValueType.TheVariants.{Boolean, Integer}
use Rattle.px_syntax.specs.declared.word.BlockForm.{BlockForm}
use Rattle.px_syntax.specs.declared.word.BlockForm.TheVariants as forms
use Rattle.px_syntax.specs.Block.{ItemData, BlockTree, Braces, Actions, NoActions, More, ActionTree, Labelled, BranchTree, Branch, GuardedTree, Guarded, ElseIfs, NoElseIfs, ElseIf, ElseTree, NoElse, Else, BodyTree, Inner, Assign, CallInto, Call, Update, If, While, For}
use Rattle.px_syntax.specs.BlockFaults.{redeclared, items_faults, action_labels, actions_faults, block_faults, body_faults, guarded_faults, else_if_faults, else_faults, branch_faults, if_label_faults, inside_block, inside_list, inside_if, inside_last, inside_for, guarded_child, else_child, else_label}
use Rattle.px_syntax.specs.ExprFaults.{faults_as}
use Rattle.px_syntax.specs.Fault.{Fault}
use Rattle.px_syntax.specs.Plan.{PlanTree}
use Rattle.px_syntax.specs.PlanFaults.{faults, outermost}
use Rattle.px_syntax.specs.Scope as seen
use Rattle.px_syntax.specs.Scope.{own_action, is_simple}
use Rattle.px_value.specs.Name.{is_identifier}
use Rattle.px_value.specs.Path.{below}
use Rattle.px_core.specs.declared.node.Kind.{Kind}
use Rattle.px_core.specs.declared.node.Kind.TheVariants as kinds
use Rattle.px_core.specs.Fit.{may_have, names_of, all_differ, is_body_of, has_right_cells}
use Rattle.px_core.specs.Plan as plan
use Rattle.px_core.specs.Plan.{VariableData, Tree, NoNode, is_same}
use Rattle.px_expand.specs.Core.{Otherwise, name_of, branch_name, follows, shaped, block_scope, if_scope, while_scope, for_scope, block_core, actions_core, body_core, if_core, chain_core, else_core, branch_core, root_place, core}
use Rattle.px_forms.specs.Forms.{where_found, where_not_found, test_variable, counter, loop_path}
use Rattle.px_scope.specs.Items.{variables_of}
use Rattle.px_scope.specs.Actions.{kind_of, body_of}
use Rattle.px_expand.specs.Kinds.{Shape, Rest, OneAction, Children, shape_of}
use Rattle.px_expand.specs.Labels.{are_identifiers, block_labels, actions_labels, body_labels, guarded_labels, else_if_labels, else_labels, branch_labels, has_identifiers}
use Rattle.px_forms.specs.Names.{then_name, body_name, else_name, set_name, step_name}
use Rattle.px_expand.specs.Names.{named}
use Rattle.px_forms.specs.Nodes.{Place, child, alone}
use Rattle.px_scope.specs.Scope.{Scope}
use Rattle.px_expand.specs.Size.{block_nodes, actions_nodes, body_nodes, guarded_nodes, else_if_nodes, else_nodes, branch_nodes}
use Rattle.px_expand.specs.Typed.{is_typed}
use Rattle.px_expand.proofs.Apart.{all_apart}
use Rattle.px_expand.proofs.Declaring.{IsDeclared, items_declared}
use Rattle.px_expand.proofs.Faultless.{has_none}
use Rattle.px_expand.proofs.Naming.{hash_from_named, names_from, actions_differ}
use Rattle.px_expand.proofs.Sizes.{actions_some, actions_few}

-- ---- nodes

-- a node with its children
pub record IsSound (head : plan.Head) (children : Tree) : Type 0 where
  pub lists : may_have head.kind children ≡ true
  pub siblings : all_differ (names_of children) ≡ true
  pub body : is_body_of head.kind head.body ≡ true
  pub declared : IsDeclared head.variables

-- what holds of each of nodes side by side and of those below them, said of a node and its children
abbrev pub EachNode : (plan.Head → Tree → Type 0) → Tree → Type 0
EachNode P NoNode = Unit {0}
EachNode P (plan.Branch head children rest) = P head children × EachNode P children × EachNode P rest

abbrev pub AreSound : Tree → Type 0
AreSound = EachNode IsSound

may_have_none : (kind : Kind) → may_have kind NoNode ≡ true
may_have_none kinds.List = refl
may_have_none kinds.Empty = refl
may_have_none kinds.Assignment = refl
may_have_none kinds.Command = refl
may_have_none kinds.Update = refl

leaf_sound : {head : plan.Head} → is_body_of head.kind head.body ≡ true → IsDeclared head.variables
    → AreSound (plan.Branch head NoNode NoNode)
leaf_sound {head} own declared =
    (record { lists = may_have_none head.kind; siblings = refl; body = own; declared = declared }, tt, tt)

list_sound : {head : plan.Head} {children : Tree} → may_have head.kind children ≡ true → is_body_of head.kind head.body ≡ true
    → IsDeclared head.variables → all_differ (names_of children) ≡ true → AreSound children
    → AreSound (plan.Branch head children NoNode)
list_sound lists own declared differ sound =
    (record { lists = lists; siblings = differ; body = own; declared = declared }, sound, tt)

none_declared : IsDeclared []
none_declared = record { differ = refl; cells = refl; values = refl }

-- ---- what holds of a part of the text: it has no fault, its labels are identifiers, and it has not too many nodes

pub record IsGood (faults : List Fault) (identifiers : List Identifier) (nodes : ℕ) : Type 0 where
  pub none : faults ≡ []
  pub labels : are_identifiers identifiers ≡ true
  pub few : nodes ≤ 4096

pub both_labels : (front back : List Identifier) → are_identifiers (front ++ back) ≡ true
    → (are_identifiers front ≡ true) × (are_identifiers back ≡ true)
both_labels front back all = list_all_parts (λ (label : Identifier). is_identifier label.name) front back all

-- ---- the shape of a block

-- what a block of a shape is one node with, and its actions
abbrev pub View : Shape → Option BodyTree → Actions → Type 0
View Rest own inner = (own ≡ None) × (inner ≡ NoActions)
View (OneAction body) own inner =
    (own ≡ Some body) × (inner ≡ More (Labelled None body) NoActions) × (is_simple body ≡ true)
View Children own inner = own ≡ None

pub view : (form : BlockForm) (items : List ItemData) (actions : Actions)
    → View (shape_of (Braces form items actions)) (own_action (Braces form items actions)) actions
view forms.Plain items NoActions = (refl, refl)
view forms.Plain items (More (Labelled None body) NoActions) = of_test (is_simple body) refl
  where
    of_test : (test : Bool) → is_simple body ≡ test
        → View (cond test (OneAction body) Children) (cond test (Some body) None) (More (Labelled None body) NoActions)
    of_test true simple = (refl, refl, simple)
    of_test false simple = refl
view forms.Plain items (More (Labelled (Some label) body) NoActions) = refl
view forms.Plain items (More (Labelled None body) (More second rest)) = refl
view forms.Plain items (More (Labelled (Some label) body) (More second rest)) = refl
view forms.NodeList _ _ = refl
view forms.Sequence _ _ = refl
view forms.UncheckedSequence _ _ = refl
view forms.Concurrence _ _ = refl
view forms.Try _ _ = refl

simple_body : (scope : Scope) (body : BodyTree) → is_simple body ≡ true → is_body_of (kind_of body) (body_of scope body) ≡ true
simple_body scope (Inner block) simple = cc
simple_body scope (Assign target value) simple = refl
simple_body scope (CallInto target call) simple = refl
simple_body scope (Call call) simple = refl
simple_body scope (Update token pairs) simple = refl
simple_body scope (If guarded others otherwise) simple = cc
simple_body scope (While guarded) simple = cc
simple_body scope (For variable first test step branch) simple = cc

shaped_sound :
    (place : Place) (shape : Shape) (own : Option BodyTree) (scope : Scope) (form : BlockForm) (items : List ItemData)
    (paths : List (List ℕ)) (children : Tree) (inner : Actions) → View shape own inner → IsDeclared (variables_of items)
    → all_differ (names_of children) ≡ true → AreSound children
    → AreSound (alone (shaped place shape scope form items paths children))
shaped_sound place Rest own scope form items paths children inner viewed declared differ sound =
    leaf_sound refl declared
shaped_sound place (OneAction body) own scope form items paths children inner viewed declared differ sound =
    leaf_sound (simple_body scope body viewed.2) declared
shaped_sound place Children own scope form items paths children inner viewed declared differ sound =
    list_sound refl refl declared differ sound

-- ---- names

pub block_named : (scope : Scope) (place : Place) (block : BlockTree) → (block_core scope place block).head.name ≡ place.name
block_named scope place (Braces form items actions) =
    shaped_named place (shape_of (Braces form items actions)) (block_scope scope place (Braces form items actions)) form items _ _
  where
    shaped_named : (place : Place) (shape : Shape) (scope : Scope) (form : BlockForm) (items : List ItemData)
        (paths : List (List ℕ)) (children : Tree) → (shaped place shape scope form items paths children).head.name ≡ place.name
    shaped_named place Rest scope form items paths children = refl
    shaped_named place (OneAction body) scope form items paths children = refl
    shaped_named place Children scope form items paths children = refl

pub if_named : (scope : Scope) (place : Place) (otherwise : Otherwise) (guarded : GuardedTree)
    → (if_core scope place otherwise guarded).head.name ≡ place.name
if_named scope place otherwise (Guarded test branch) = refl

pub body_named : (scope : Scope) (place : Place) (body : BodyTree) → (body_core scope place body).head.name ≡ place.name
body_named scope place (Inner block) = block_named scope place block
body_named scope place (Assign target value) = refl
body_named scope place (CallInto target call) = refl
body_named scope place (Call call) = refl
body_named scope place (Update token pairs) = refl
body_named scope place (If guarded others otherwise) =
    if_named scope place (chain_core (else_core otherwise) others) guarded
body_named scope place (While (Guarded test branch)) = refl
body_named scope place (For variable first test step branch) = refl

pub branch_named : (scope : Scope) (place : Place) (branch : BranchTree) → (branch_core scope place branch).head.name ≡ place.name
branch_named scope place (Branch label block) = block_named scope place block

actions_named : (scope : Scope) (path : List ℕ) (form : BlockForm) (behind : Option (List ℕ)) (place : ℕ) (actions : Actions)
    → names_of (actions_core scope path form behind place actions) ≡ names_from place actions
actions_named scope path form behind place NoActions = refl
actions_named scope path form behind place (More (Labelled label body) rest) =
    let first : ActionTree = Labelled label body in
    (λ i. body_named scope (child path (name_of place first) (follows form behind)) body i
    ∷ actions_named scope path form (Some (below path (name_of place first))) (suc place) rest i)

pub own_labels : (actions : Actions) → are_identifiers (actions_labels actions) ≡ true → are_identifiers (action_labels actions) ≡ true
own_labels NoActions all = refl
own_labels (More (Labelled label body) rest) all =
    let parts = both_labels (option_to_list label ++ body_labels body) (actions_labels rest) all in
    let own = both_labels (option_to_list label) (body_labels body) parts.0 in
    list_all-append (λ label. is_identifier label.name) (option_to_list label) (action_labels rest)
    ∙ and_from _ _ own.0 (own_labels rest parts.1)

-- ---- the children of tests and loops differ in name

three_differ : (first second third : List ℕ) → is_same first second ≡ false → is_same first third ≡ false
    → is_same second third ≡ false → all_differ (first ∷ second ∷ third ∷ []) ≡ true
three_differ first second third one two three =
    and_from _ _ (not_from_false _ (or_from _ _ one (or_from _ _ two refl)))
    (and_from _ _ (not_from_false _ (or_from _ _ three refl)) refl)

two_differ : (first second : List ℕ) → is_same first second ≡ false → all_differ (first ∷ second ∷ []) ≡ true
two_differ first second one = and_from _ _ (not_from_false _ (or_from _ _ one refl)) refl

abbrev guarded_name : GuardedTree → List ℕ
guarded_name (Guarded test branch) = branch_name then_name branch

hash_from_branch : (hash unlabelled : List ℕ) (branch : BranchTree) → is_identifier hash ≡ false
    → are_identifiers (branch_labels branch) ≡ true → is_same hash unlabelled ≡ false
    → is_same hash (branch_name unlabelled branch) ≡ false
hash_from_branch hash unlabelled (Branch label block) none all other =
    hash_from_named hash label unlabelled none (both_labels (option_to_list label) (block_labels block) all).0 other

last_differs : (label : Option Identifier) (otherwise : ElseTree)
    → redeclared (option_to_list label ++ else_label otherwise) ≡ []
    → are_identifiers (option_to_list label) ≡ true → are_identifiers (else_labels otherwise) ≡ true
    → all_differ (set_name ∷ named label then_name ∷ option_to_list (else_core otherwise).name) ≡ true
last_differs label NoElse none own other = two_differ set_name (named label then_name) (hash_from_named set_name label then_name refl own refl)
last_differs None (Else (Branch None block)) none own other = refl
last_differs None (Else (Branch (Some second) block)) none own other =
    let labels = both_labels (second ∷ []) (block_labels block) other in
    three_differ set_name then_name second.name refl (hash_from_named set_name (Some second) else_name refl labels.0 refl)
    (hash_from_named then_name (Some second) else_name refl labels.0 refl)
last_differs (Some first) (Else (Branch None block)) none own other =
    three_differ set_name first.name else_name (hash_from_named set_name (Some first) then_name refl own refl) refl
    (nat_list_eq_equiv.symm first.name else_name ∙ hash_from_named else_name (Some first) then_name refl own refl)
last_differs (Some first) (Else (Branch (Some second) block)) none own other =
    let labels = both_labels (second ∷ []) (block_labels block) other in
    let apart = and_parts (not (list_any (is_same first.name) (second.name ∷ []))) _ (all_apart (first ∷ second ∷ []) none) in
    three_differ set_name first.name second.name (hash_from_named set_name (Some first) then_name refl own refl)
    (hash_from_named set_name (Some second) else_name refl labels.0 refl)
    (or_parts (is_same first.name second.name) false (not-true _ apart.0)).0

if_differs : (guarded : GuardedTree) (others : ElseIfs) (otherwise : ElseTree)
    → if_label_faults guarded others otherwise ≡ []
    → are_identifiers (guarded_labels guarded) ≡ true → are_identifiers (else_labels otherwise) ≡ true
    → all_differ (set_name ∷ guarded_name guarded ∷ option_to_list (chain_core (else_core otherwise) others).name) ≡ true
if_differs (Guarded test (Branch label block)) NoElseIfs otherwise none own other =
    last_differs label otherwise none (both_labels (option_to_list label) (block_labels block) own).0 other
if_differs (Guarded test (Branch label block)) (ElseIf next others) otherwise none own other =
    let labels = both_labels (option_to_list label) (block_labels block) own in
    three_differ set_name (named label then_name) else_name (hash_from_named set_name label then_name refl labels.0 refl) refl
    (nat_list_eq_equiv.symm (named label then_name) else_name ∙ hash_from_named else_name label then_name refl labels.0 refl)

-- ---- all nodes

-- what stands after `else` is sound, and has its name
record IsSoundElse (otherwise : Otherwise) : Type 0 where
  pub sound : (inner : Scope) (path : List ℕ) → AreSound (otherwise.nodes inner path)
  pub named : (inner : Scope) (path : List ℕ) → names_of (otherwise.nodes inner path) ≡ option_to_list otherwise.name

one_declared : (variable : VariableData) → has_right_cells variable ≡ true → is_typed variable ≡ true
    → IsDeclared (variable ∷ [])
one_declared variable cells values =
    record { differ = refl; cells = and_from _ _ cells refl; values = and_from _ _ values refl }

mutual
  block_sound : (outer : seen.Scope) (label : Option Identifier) (scope : Scope) (place : Place) (block : BlockTree)
      → IsGood (block_faults outer label block) (block_labels block) (block_nodes block)
      → AreSound (alone (block_core scope place block))
  block_sound outer label scope place (Braces form items actions) good =
      let block : BlockTree = Braces form items actions in
      let entered = inside_block outer label block in
      let inner : Scope = block_scope scope place (Braces form items actions) in
      let parts = neither (items_faults entered items ++ redeclared (action_labels actions))
      (actions_faults entered (is_some (own_action block)) actions) good.none in
      let front = neither (items_faults entered items) (redeclared (action_labels actions)) parts.0 in
      let few = actions_few form items actions in
      let long = actions_some actions in
      let bound = good.few in
      shaped_sound place (shape_of block) (own_action block) inner form items _ (actions_core inner place.path form None 1 actions)
      actions (view form items actions) (items_declared entered items front.0)
      (ap all_differ (actions_named inner place.path form None 1 actions)
      ∙ actions_differ 1 actions (omega arith) (own_labels actions good.labels)
      (all_apart (action_labels actions) front.1))
      (actions_sound entered (is_some (own_action block)) inner place.path form None 1 actions
      (record { none = parts.1; labels = good.labels; few = omega arith }))

  actions_sound : (entered : seen.Scope) (one : Bool) (scope : Scope) (path : List ℕ) (form : BlockForm)
      (behind : Option (List ℕ)) (place : ℕ) (actions : Actions)
      → IsGood (actions_faults entered one actions) (actions_labels actions) (actions_nodes actions)
      → AreSound (actions_core scope path form behind place actions)
  actions_sound entered one scope path form behind place NoActions good = tt
  actions_sound entered one scope path form behind place (More (Labelled label body) rest) good =
      let first : ActionTree = Labelled label body in
      let none = neither (body_faults entered one label body) (actions_faults entered one rest) good.none in
      let labels = both_labels (option_to_list label ++ body_labels body) (actions_labels rest) good.labels in
      let bound = good.few in
      let own = body_sound entered one label scope (child path (name_of place first) (follows form behind)) body
      (record {
        none = none.0;
        labels = (both_labels (option_to_list label) (body_labels body) labels.0).1;
        few = omega arith;
      }) in (
        own.0,
        own.1,
        actions_sound entered one scope path form (Some (below path (name_of place first))) (suc place) rest
            (record { none = none.1; labels = labels.1; few = omega arith }),
      )

  body_sound : (outer : seen.Scope) (one : Bool) (label : Option Identifier) (scope : Scope) (place : Place) (body : BodyTree)
      → IsGood (body_faults outer one label body) (body_labels body) (body_nodes body)
      → AreSound (alone (body_core scope place body))
  body_sound outer one label scope place (Inner block) good = block_sound outer label scope place block good
  body_sound outer one label scope place (Assign target value) good = leaf_sound refl none_declared
  body_sound outer one label scope place (CallInto target call) good = leaf_sound refl none_declared
  body_sound outer one label scope place (Call call) good = leaf_sound refl none_declared
  body_sound outer one label scope place (Update token pairs) good = leaf_sound refl none_declared
  body_sound outer one label scope place (If guarded others otherwise) good =
      let last = else_child otherwise in
      let entered = inside_if outer label guarded others last in
      let third = neither (if_label_faults guarded others otherwise ++ guarded_faults entered guarded
      ++ else_if_faults entered others last) (else_faults (inside_last entered others last) otherwise) good.none in
      let second = neither (if_label_faults guarded others otherwise ++ guarded_faults entered guarded)
      (else_if_faults entered others last) third.0 in
      let first = neither (if_label_faults guarded others otherwise) (guarded_faults entered guarded) second.0 in
      let behind = both_labels (guarded_labels guarded ++ else_if_labels others) (else_labels otherwise) good.labels in
      let before = both_labels (guarded_labels guarded) (else_if_labels others) behind.0 in
      let bound = good.few in
      if_sound entered scope place (chain_core (else_core otherwise) others) guarded
      (if_differs guarded others otherwise first.0 before.0 behind.1)
      (chain_sound entered guarded others otherwise first.0 before.0 behind.1
      (record { none = second.1; labels = before.1; few = omega arith })
      (else_sound (inside_last entered others last) otherwise (record { none = third.1; labels = behind.1; few = omega arith })))
      (record { none = first.1; labels = before.0; few = omega arith })
  body_sound outer one label scope place (While (Guarded test branch)) good =
      let entered = inside_list outer label (guarded_child (Guarded test branch)) [] in
      let none = neither (faults_as (Boolean ∷ []) entered test) (branch_faults entered branch) good.none in
      let bound = good.few in
      let inner : Scope = while_scope scope place branch in
      let at : Place = child place.path (branch_name body_name branch) (where_found place.path) in
      let own = branch_sound entered inner at branch (record { none = none.1; labels = good.labels; few = omega arith }) in
      list_sound refl refl (one_declared test_variable refl refl)
      (ap (λ text. all_differ (set_name ∷ text ∷ [])) (branch_named inner at branch)
      ∙ two_differ set_name (branch_name body_name branch) (hash_from_branch set_name body_name branch refl good.labels refl))
      (record { lists = refl; siblings = refl; body = refl; declared = none_declared }, tt, own)
  body_sound outer one label scope place (For variable first test step branch) good =
      let entered = inside_for outer label variable branch in
      let none = neither (faults_as (Boolean ∷ []) entered test ++ faults_as (Integer ∷ []) entered step)
      (branch_faults entered branch) good.none in
      let bound = good.few in
      let inner : Scope = for_scope scope place variable.name branch in
      let loop : List ℕ = loop_path place.path in
      let at : Place = child loop (branch_name body_name branch) (where_found loop) in
      let own = branch_sound entered inner at branch (record { none = none.1; labels = good.labels; few = omega arith }) in
      list_sound refl refl (one_declared (counter variable.name first) refl refl) refl
      (list_sound refl refl (one_declared test_variable refl refl)
      (ap (λ text. all_differ (set_name ∷ text ∷ step_name ∷ [])) (branch_named inner at branch)
      ∙ three_differ set_name (branch_name body_name branch) step_name (hash_from_branch set_name body_name branch refl good.labels refl) refl
      (nat_list_eq_equiv.symm (branch_name body_name branch) step_name ∙ hash_from_branch step_name body_name branch refl good.labels refl)) (
        record { lists = refl; siblings = refl; body = refl; declared = none_declared },
        tt,
        (own.0, own.1, leaf_sound refl none_declared),
      ))

  if_sound : (entered : seen.Scope) (scope : Scope) (place : Place) (otherwise : Otherwise) (guarded : GuardedTree)
      → all_differ (set_name ∷ guarded_name guarded ∷ option_to_list otherwise.name) ≡ true
      → IsSoundElse otherwise
      → IsGood (guarded_faults entered guarded) (guarded_labels guarded) (guarded_nodes guarded)
      → AreSound (alone (if_core scope place otherwise guarded))
  if_sound entered scope place otherwise (Guarded test branch) differ behind good =
      let none = neither (faults_as (Boolean ∷ []) entered test) (branch_faults entered branch) good.none in
      let bound = good.few in
      let inner : Scope = if_scope scope place branch otherwise in
      let at : Place = child place.path (branch_name then_name branch) (where_found place.path) in
      let own = branch_sound entered inner at branch (record { none = none.1; labels = good.labels; few = omega arith }) in
      list_sound refl refl (one_declared test_variable refl refl)
      ((λ i. all_differ (set_name ∷ branch_named inner at branch i ∷ behind.named inner place.path i)) ∙ differ)
      (record { lists = refl; siblings = refl; body = refl; declared = none_declared }, tt, (own.0, own.1, behind.sound inner place.path))

  chain_sound : (entered : seen.Scope) (first : GuardedTree) (others : ElseIfs) (otherwise : ElseTree)
      → if_label_faults first others otherwise ≡ []
      → are_identifiers (guarded_labels first) ≡ true → are_identifiers (else_labels otherwise) ≡ true
      → IsGood (else_if_faults entered others (else_child otherwise)) (else_if_labels others) (else_if_nodes others)
      → IsSoundElse (else_core otherwise)
      → IsSoundElse (chain_core (else_core otherwise) others)
  chain_sound entered first NoElseIfs otherwise apart labels last good behind = behind
  chain_sound entered first (ElseIf guarded others) otherwise apart labels last good behind =
      let inside = inside_if entered None guarded others (else_child otherwise) in
      let none = neither (guarded_faults inside guarded) (else_if_faults inside others (else_child otherwise)) good.none in
      let own = both_labels (guarded_labels guarded) (else_if_labels others) good.labels in
      let bound = good.few in
      let more = chain_sound inside guarded others otherwise apart own.0 last
      (record { none = none.1; labels = own.1; few = omega arith }) behind in
      record {
        sound =
            λ inner path.
            if_sound inside inner (child path else_name (where_not_found path)) (chain_core (else_core otherwise) others) guarded
            (if_differs guarded others otherwise apart own.0 last) more
            (record { none = none.0; labels = own.0; few = omega arith });
        named =
            λ inner path.
            ap (λ name. name ∷ [])
            (if_named inner (child path else_name (where_not_found path)) (chain_core (else_core otherwise) others) guarded);
      }

  else_sound : (entered : seen.Scope) (otherwise : ElseTree)
      → IsGood (else_faults entered otherwise) (else_labels otherwise) (else_nodes otherwise)
      → IsSoundElse (else_core otherwise)
  else_sound entered NoElse good = record { sound = λ inner path. tt; named = λ inner path. refl }
  else_sound entered (Else branch) good = record {
    sound =
        λ inner path. branch_sound entered inner (child path (branch_name else_name branch) (where_not_found path)) branch good;
    named =
        λ inner path.
        ap (λ name. name ∷ [])
        (branch_named inner (child path (branch_name else_name branch) (where_not_found path)) branch);
  }

  branch_sound : (entered : seen.Scope) (scope : Scope) (place : Place) (branch : BranchTree)
      → IsGood (branch_faults entered branch) (branch_labels branch) (branch_nodes branch)
      → AreSound (alone (branch_core scope place branch))
  branch_sound entered scope place (Branch label block) good =
      block_sound entered label scope place block
      (record { none = good.none; labels = (both_labels (option_to_list label) (block_labels block) good.labels).1; few = good.few })

-- ---- the whole

pub core_sound : (tree : PlanTree) → faults tree ≡ [] → has_identifiers tree ≡ true → block_nodes tree.root ≤ 4096
    → AreSound (core tree)
core_sound tree none labels few =
    block_sound (outermost tree) tree.label [] (root_place tree.label) tree.root
    (record { none = (has_none tree none).blocks; labels = (both_labels (option_to_list tree.label) (block_labels tree.root) labels).1; few = few })
