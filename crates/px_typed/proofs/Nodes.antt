-- The nodes of the core plan of a tree that tokens spell have names.
use Rattle.std.proofs.Common.{◌≡◌, ℕ, suc, ◌+◌, ◌<◌, ◌≤◌, ◌^◌, true, List, [], length, Option, Some, None, refl, arith}
use Rattle.std.specs.List.{list_all}
use Rattle.px_value.specs.Name.{is_name, generated_name}
use Rattle.px_value.specs.Path.{below}
use Rattle.px_value.proofs.Names.{generated_is_name}
use Rattle.px_lex.specs.declared.token.Token.{Token}
use Rattle.px_syntax.specs.declared.expr.Identifier.{Identifier}
use Rattle.px_syntax.specs.declared.word.BlockForm.{BlockForm}
use Rattle.px_syntax.specs.Block.{ItemData, BlockTree, Braces, Actions, NoActions, More, ActionTree, Labelled, BranchTree, Branch, GuardedTree, Guarded, ElseIfs, NoElseIfs, ElseIf, ElseTree, NoElse, Else, BodyTree, Inner, Assign, CallInto, Call, Update, If, While, For}
use Rattle.px_syntax.specs.BlockGrammar.{label, block, each_action, branch, guarded, else_ifs, otherwise, body}
use Rattle.px_syntax.specs.Plan.{PlanTree}
use Rattle.px_syntax.specs.PlanGrammar.{Spells}
use Rattle.px_core.specs.Fit.{has_name}
use Rattle.px_core.specs.Plan.{Tree, sites_under}
use Rattle.px_forms.specs.Adding.{Added}
use Rattle.px_expand.specs.Core.{Otherwise, name_of, branch_name, follows, shaped, block_scope, if_scope, while_scope, for_scope, block_core, actions_core, body_core, if_core, chain_core, else_core, branch_core, root_place, core}
use Rattle.px_forms.specs.Forms.{where_found, where_not_found, loop_path}
use Rattle.px_expand.specs.Kinds.{Shape, Rest, OneAction, Children, shape_of}
use Rattle.px_forms.specs.Names.{root_name, then_name, body_name, else_name}
use Rattle.px_expand.specs.Names.{named}
use Rattle.px_forms.specs.Nodes.{Place, child, alone}
use Rattle.px_scope.specs.Scope.{Scope}
use Rattle.px_expand.specs.Size.{block_nodes, actions_nodes, body_nodes, guarded_nodes, else_if_nodes, else_nodes, branch_nodes}
use Rattle.px_expand.proofs.Sizes.{length_of, actions_some, actions_few}
use Rattle.px_expand.proofs.Sound.{EachNode}
use Rattle.px_expand.proofs.SoundSites.{each_passes}
use Rattle.px_typed.proofs.Names.{AreNames}

-- nodes side by side have names, and so have those below them
abbrev pub HaveNames : Tree → Type 0
HaveNames = EachNode (λ head children. is_name head.name ≡ true)

pub sites_named : (above : List (List ℕ)) (tree : Tree) → HaveNames tree → list_all has_name (sites_under above tree) ≡ true
sites_named = each_passes (λ head children. is_name head.name ≡ true) (λ head. is_name head.name) (λ head children is. is)

shaped_named :
    (place : Place) (shape : Shape) (scope : Scope) (form : BlockForm) (items : List ItemData) (paths : List (List ℕ))
    (children : Tree) → is_name place.name ≡ true → HaveNames children
    → HaveNames (alone (shaped place shape scope form items paths children))
shaped_named place Rest scope form items paths children own below = (own, tt, tt)
shaped_named place (OneAction action) scope form items paths children own below = (own, tt, tt)
shaped_named place Children scope form items paths children own below = (own, below, tt)

-- what stands after `else` has names, wherever it stands
abbrev ElseHasNames : Otherwise → Type 0
ElseHasNames behind = (inner : Scope) (path : List ℕ) → HaveNames (behind.nodes inner path)

module _ (tokens : List Token) (names : AreNames tokens) where
  -- a label is a name, and so is what a node is called without one
  label_named :
      (name : Option Identifier) (unlabelled : List ℕ) (from to : ℕ) → label name tokens from to
      → is_name unlabelled ≡ true → is_name (named name unlabelled) ≡ true
  label_named None unlabelled from to o own = own
  label_named (Some name) unlabelled from to o own = names.at from name.name o.1.1.0

  mutual
    block_named :
        (scope : Scope) (place : Place) (tree : BlockTree) (from to : ℕ) → block tree tokens from to
        → is_name place.name ≡ true → block_nodes tree ≤ 4096 → HaveNames (alone (block_core scope place tree))
    block_named scope place (Braces form items actions) from to o own few =
        let inner : Scope = block_scope scope place (Braces form items actions) in
        let bound = actions_few form items actions in
        let long = actions_some actions in
        shaped_named place (shape_of (Braces form items actions)) inner form items _
        (actions_core inner place.path form None 1 actions) own
        (actions_named inner place.path form None 1 actions o.2.2.2.0 o.2.2.2.2.0 o.2.2.2.2.1 (omega arith) (omega arith))

    actions_named :
        (scope : Scope) (path : List ℕ) (form : BlockForm) (behind : Option (List ℕ)) (place : ℕ) (tree : Actions)
        (from to : ℕ) → each_action tree tokens from to → place + length_of tree < 2 ^ 32 → actions_nodes tree ≤ 4096
        → HaveNames (actions_core scope path form behind place tree)
    actions_named scope path form behind place NoActions from to o small few = tt
    actions_named scope path form behind place (More (Labelled name parts) rest) from to o small few =
        let first : ActionTree = Labelled name parts in
        let called =
        label_named name (generated_name place) from o.1.0 o.1.1 (generated_is_name place (omega arith)) in
        let own =
        body_named scope (child path (name_of place first) (follows form behind)) parts o.1.0 o.0 o.1.2 called (omega arith) in (
          own.0,
          own.1,
          actions_named scope path form (Some (below path (name_of place first))) (suc place) rest o.0 to o.2 (omega arith)
              (omega arith),
        )

    body_named :
        (scope : Scope) (place : Place) (tree : BodyTree) (from to : ℕ) → body tree tokens from to
        → is_name place.name ≡ true → body_nodes tree ≤ 4096 → HaveNames (alone (body_core scope place tree))
    body_named scope place (Inner parts) from to o own few = block_named scope place parts from to o own few
    body_named scope place (Assign target value) from to o own few = (own, tt, tt)
    body_named scope place (CallInto target call) from to o own few = (own, tt, tt)
    body_named scope place (Call call) from to o own few = (own, tt, tt)
    body_named scope place (Update token pairs) from to o own few = (own, tt, tt)
    body_named scope place (If first others last) from to o own few =
        if_named scope place (chain_core (else_core last) others) first o.0 o.2.0 o.2.1 own (omega arith)
        (chain_named (else_core last) others o.2.0 o.2.2.0 o.2.2.1 (omega arith)
        (else_named last o.2.2.0 o.2.2.2.0 o.2.2.2.1 (omega arith)))
    body_named scope place (While (Guarded test parts)) from to o own few = (
      own,
      (
        refl,
        tt,
        branch_named (while_scope scope place parts) place.path body_name (where_found place.path) parts o.2.2.2.0 to
            o.2.2.2.2 refl (omega arith),
      ),
      tt,
    )
    body_named scope place (For variable first test step parts) from to o own few =
        let named_branch =
        branch_named (for_scope scope place variable.name parts) (loop_path place.path) body_name
        (where_found (loop_path place.path)) parts o.2.2.2.2.2.2.2.2.2.2.0 to o.2.2.2.2.2.2.2.2.2.2.2 refl (omega arith) in
        (own, (refl, (refl, tt, (named_branch.0, named_branch.1, (refl, tt, tt))), tt), tt)

    if_named :
        (scope : Scope) (place : Place) (behind : Otherwise) (tree : GuardedTree) (from to : ℕ)
        → guarded tree tokens from to → is_name place.name ≡ true → guarded_nodes tree ≤ 4096 → ElseHasNames behind
        → HaveNames (alone (if_core scope place behind tree))
    if_named scope place behind (Guarded test parts) from to o own few others =
        let inner : Scope = if_scope scope place parts behind in
        let named_branch =
        branch_named inner place.path then_name (where_found place.path) parts o.2.2.0 to o.2.2.2 refl (omega arith) in
        (own, (refl, tt, (named_branch.0, named_branch.1, others inner place.path)), tt)

    chain_named :
        (last : Otherwise) (tree : ElseIfs) (from to : ℕ) → else_ifs tree tokens from to → else_if_nodes tree ≤ 4096
        → ElseHasNames last → ElseHasNames (chain_core last tree)
    chain_named last NoElseIfs from to o few behind = behind
    chain_named last (ElseIf first rest) from to o few behind = λ inner path.
        if_named inner (child path else_name (where_not_found path)) (chain_core last rest) first o.0 o.2.0 o.2.1 refl
        (omega arith) (chain_named last rest o.2.0 to o.2.2 (omega arith) behind)

    else_named :
        (tree : ElseTree) (from to : ℕ) → otherwise tree tokens from to → else_nodes tree ≤ 4096
        → ElseHasNames (else_core tree)
    else_named NoElse from to o few = λ inner path. tt
    else_named (Else parts) from to o few = λ inner path.
        branch_named inner path else_name (where_not_found path) parts o.0 to o.2 refl few

    branch_named :
        (scope : Scope) (parent unlabelled : List ℕ) (added : Added) (tree : BranchTree) (from to : ℕ)
        → branch tree tokens from to → is_name unlabelled ≡ true → branch_nodes tree ≤ 4096
        → HaveNames (alone (branch_core scope (child parent (branch_name unlabelled tree) added) tree))
    branch_named scope parent unlabelled added (Branch name parts) from to o own few =
        block_named scope (child parent (named name unlabelled) added) parts o.0 to o.2
        (label_named name unlabelled from o.0 o.1 own) few

  -- the core plan of a tree that the tokens spell, of at most 4,096 nodes
  pub core_named : (tree : PlanTree) → Spells tree tokens → block_nodes tree.root ≤ 4096 → HaveNames (core tree)
  core_named tree o few =
      block_named [] (root_place tree.label) tree.root o.2.0 (length tokens) o.2.2
      (label_named tree.label root_name o.0 o.2.0 o.2.1 (generated_is_name 1 (omega arith))) few
