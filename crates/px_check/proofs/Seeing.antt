-- What is seen of actions and branches, and which variables are seen, one after another.
use Rattle.std.proofs.Common.{◌≡◌, ℕ, ◌+◌, ◌<◌, ◌≤◌, Bool, true, false, List, [], ◌∷◌, ◌++◌, map, drop, length, get_or}
use Rattle.std.proofs.Common.{Option, Some, None, is_some, if◌then◌else◌, arith, refl, sym, ap, ◌∙◌, append_assoc}
use Rattle.std.specs.Option.{option_to_list}
use Rattle.std.proofs.lemmas.List.{map-append}
use Rattle.px_value.proofs.General.{cut_at, only_one}
use Rattle.px_syntax.specs.declared.block.Action.{Action, out-Action}
use Rattle.px_syntax.specs.declared.expr.Identifier.{Identifier}
use Rattle.px_syntax.specs.declared.block.Block.{Block, out-Block}
use Rattle.px_syntax.specs.declared.block.Guarded.{Guarded, out-Guarded}
use Rattle.px_syntax.specs.declared.word.BlockForm.{BlockForm}
use Rattle.px_syntax.specs.declared.word.BlockForm.TheVariants as forms
use Rattle.px_syntax.specs.Block.{ItemData, item_data, block_of, BodyTree, ActionTree, Labelled, Braces, body_of, branch_of, guarded_of, actions_in_turn, else_ifs_in_turn, NoActions, More}
use Rattle.px_syntax.specs.BlockFaults.{action_labels, guarded_child, if_children}
use Rattle.px_syntax.specs.Scope.{Scope, Visible, Head, head_of, is_simple, own_action, is_command_body, children_of, branch_child}
use Rattle.px_syntax.proofs.Trees.{action_is, block_is, guarded_is, in_turn}
use Rattle.px_check.specs.Nodes.{head_data}
use Rattle.px_check.specs.Scope.{with_variables}
use Rattle.px_check.specs.declared.nodes.NodeHead.{NodeHead}

-- ---- the nodes of actions, and their labels

pub child_walked : (actions : List Action) (place : ℕ) (action : Action) (heads more : List NodeHead) (head : NodeHead)
    → place < length actions → action ≡ get_or actions place action → more ≡ heads ++ head ∷ []
    → head_data head ≡ head_of (out-Action action).label (is_command_body (body_of (out-Action action).body))
    → map head_data more ++ children_of (in_turn (drop (place + 1) actions))
    ≡ map head_data heads ++ children_of (in_turn (drop place actions))
child_walked actions place action heads more head within is more_is head_is =
    let rest = drop (place + 1) actions in
    ap (λ more. map head_data more ++ children_of (in_turn rest)) more_is
    ∙ ap (λ seen. seen ++ children_of (in_turn rest)) (map-append head_data heads (head ∷ []))
    ∙ append_assoc (map head_data heads) (head_data head ∷ []) (children_of (in_turn rest))
    ∙ ap (λ first. map head_data heads ++ first ∷ children_of (in_turn rest)) head_is
    ∙ ap (λ tree. map head_data heads ++ children_of (More tree (in_turn rest))) (sym (action_is action))
    ∙ ap (λ left. map head_data heads ++ children_of (in_turn left)) (sym (cut_at actions place action within is))

pub label_walked : (actions : List Action) (place : ℕ) (action : Action) (labels more : List Identifier)
    → place < length actions → action ≡ get_or actions place action
    → more ≡ labels ++ option_to_list (out-Action action).label
    → more ++ action_labels (in_turn (drop (place + 1) actions)) ≡ labels ++ action_labels (in_turn (drop place actions))
label_walked actions place action labels more within is more_is =
    let rest = drop (place + 1) actions in
    ap (λ more. more ++ action_labels (in_turn rest)) more_is
    ∙ append_assoc labels (option_to_list (out-Action action).label) (action_labels (in_turn rest))
    ∙ ap (λ tree. labels ++ action_labels (More tree (in_turn rest))) (sym (action_is action))
    ∙ ap (λ left. labels ++ action_labels (in_turn left)) (sym (cut_at actions place action within is))

-- ---- variables, from the last to the first

pub more_visible : {X : Type 0} (visible : List X → List Visible) (part : X → List Visible) (rest others : List X) (last : X)
    (scope new : Scope)
    → ((xs : List X) (x : X) → visible (xs ++ x ∷ []) ≡ visible xs ++ part x)
    → rest ≡ others ++ last ∷ [] → new ≡ with_variables (part last) scope
    → with_variables (visible others) new ≡ with_variables (visible rest) scope
more_visible visible part rest others last scope new splits split new_is =
    let here : List Visible → Scope = λ variables. record {
      commands = scope.commands;
      lookups = scope.lookups;
      variables = variables;
      nodes = scope.nodes;
    } in
    ap (with_variables (visible others)) new_is
    ∙ ap here (sym (append_assoc (visible others) (part last) scope.variables))
    ∙ ap (λ variables. with_variables variables scope) (sym (splits others last))
    ∙ ap (λ rest. with_variables (visible rest) scope) (sym split)

-- ---- the action that a block is one node with

-- nor is one with no action or several
pub own_several : (form : BlockForm) (items : List ItemData) (actions : List ActionTree) → (length actions ≡ 1 → ⊥)
    → None ≡ own_action (Braces form items (actions_in_turn actions))
own_several forms.Plain items [] other = refl
own_several forms.Plain items (Labelled label body ∷ []) other = absurd (other refl)
own_several forms.Plain items (Labelled None body ∷ Labelled next more ∷ actions) other = refl
own_several forms.Plain items (Labelled (Some label) body ∷ Labelled next more ∷ actions) other = refl
own_several forms.NodeList items actions other = refl
own_several forms.Sequence items actions other = refl
own_several forms.UncheckedSequence items actions other = refl
own_several forms.Concurrence items actions other = refl
own_several forms.Try items actions other = refl

-- nor one whose action has a label
pub own_labelled : (form : BlockForm) (items : List ItemData) (label : Option Identifier) (body : BodyTree)
    → is_some label ≡ true → None ≡ own_action (Braces form items (More (Labelled label body) NoActions))
own_labelled forms.Plain items None body labelled = absurd (cc)
own_labelled forms.Plain items (Some label) body labelled = refl
own_labelled forms.NodeList items label body labelled = refl
own_labelled forms.Sequence items label body labelled = refl
own_labelled forms.UncheckedSequence items label body labelled = refl
own_labelled forms.Concurrence items label body labelled = refl
own_labelled forms.Try items label body labelled = refl

-- a plain one whose only action has no label is one node with it where it is simple
pub own_alone : (form : BlockForm) (items : List ItemData) (label : Option Identifier) (body : BodyTree) (simple : Bool)
    → form ≡ forms.Plain → is_some label ≡ false → simple ≡ is_simple body
    → (if simple then Some body else None) ≡ own_action (Braces form items (More (Labelled label body) NoActions))
own_alone forms.Plain items None body simple plain labelled is = ap (λ simple. if simple then Some body else None) is
own_alone forms.Plain items (Some label) body simple plain labelled is = absurd (cc)
own_alone forms.NodeList items label body simple plain labelled is = absurd (cc)
own_alone forms.Sequence items label body simple plain labelled is = absurd (cc)
own_alone forms.UncheckedSequence items label body simple plain labelled is = absurd (cc)
own_alone forms.Concurrence items label body simple plain labelled is = absurd (cc)
own_alone forms.Try items label body simple plain labelled is = absurd (cc)

-- a block of one action
pub block_of_one : (block : Block) (action : Action) → length (out-Block block).actions.items ≡ 1
    → action ≡ get_or (out-Block block).actions.items 0 action
    → block_of block ≡ Braces (out-Block block).form (map item_data (out-Block block).items.items)
    (More (Labelled (out-Action action).label (body_of (out-Action action).body)) NoActions)
block_of_one block action one is =
    block_is block
    ∙ ap (λ actions. Braces (out-Block block).form (map item_data (out-Block block).items.items) (in_turn actions))
    (only_one (out-Block block).actions.items action one is)
    ∙ ap (λ tree. Braces (out-Block block).form (map item_data (out-Block block).items.items) (More tree NoActions))
    (action_is action)

-- ---- branches

pub chain_children : (first : Guarded) (others : List Guarded) (last : List Head) → 0 < length others
    → branch_child (branch_of (out-Guarded first).branch)
    ≡ if_children (guarded_of first) (else_ifs_in_turn (map guarded_of others)) last
chain_children first [] last more = absurd (omega arith)
chain_children first (other ∷ others) last more = ap guarded_child (sym (guarded_is first))

pub end_children : (first : Guarded) (others : List Guarded) (last : List Head) → length others ≤ 0
    → branch_child (branch_of (out-Guarded first).branch) ++ last
    ≡ if_children (guarded_of first) (else_ifs_in_turn (map guarded_of others)) last
end_children first [] last none = ap (λ tree. guarded_child tree ++ last) (sym (guarded_is first))
end_children first (other ∷ others) last none = absurd (omega arith)
