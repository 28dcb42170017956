-- How many nodes there are at least.
use Rattle.std.proofs.Common.{◌≡◌, ℕ, suc, ◌+◌, ◌≤◌, true, List, Some, None, arith}
use Rattle.std.proofs.lemmas.Bool.{cond_both}
use Rattle.px_syntax.specs.declared.word.BlockForm.{BlockForm}
use Rattle.px_syntax.specs.declared.word.BlockForm.TheVariants as forms
use Rattle.px_syntax.specs.Block.{ItemData, BlockTree, Braces, Actions, NoActions, More, Labelled, BodyTree, Inner, Assign, CallInto, Call, Update, Guarded, If, While, For}
use Rattle.px_syntax.specs.Scope.{is_simple}
use Rattle.px_expand.specs.Kinds.{Shape, Rest, OneAction, Children, shape_of}
use Rattle.px_expand.specs.Size.{shaped_nodes, block_nodes, actions_nodes, body_nodes}

abbrev pub length_of : Actions → ℕ
length_of NoActions = 0
length_of (More first rest) = suc (length_of rest)

-- ---- a node is one at least

shaped_some : (shape : Shape) (below : ℕ) → 1 ≤ shaped_nodes shape below
shaped_some Rest below = omega arith
shaped_some (OneAction body) below = omega arith
shaped_some Children below = omega arith

pub block_some : (block : BlockTree) → 1 ≤ block_nodes block
block_some (Braces form items actions) = shaped_some (shape_of (Braces form items actions)) (actions_nodes actions)

pub body_some : (body : BodyTree) → 1 ≤ body_nodes body
body_some (Inner block) = block_some block
body_some (Assign target value) = omega arith
body_some (CallInto target call) = omega arith
body_some (Call call) = omega arith
body_some (Update token pairs) = omega arith
body_some (If (Guarded test branch) others otherwise) = omega arith
body_some (While (Guarded test branch)) = omega arith
body_some (For variable first test step branch) = omega arith

pub actions_some : (actions : Actions) → length_of actions ≤ actions_nodes actions
actions_some NoActions = omega arith
actions_some (More (Labelled label body) rest) =
    let one = body_some body in
    let others = actions_some rest in
    omega arith

-- ---- the actions of a block are no more than the block has

simple_one : (body : BodyTree) → is_simple body ≡ true → body_nodes body ≤ 1
simple_one (Inner block) simple = cc
simple_one (Assign target value) simple = omega arith
simple_one (CallInto target call) simple = omega arith
simple_one (Call call) simple = omega arith
simple_one (Update token pairs) simple = omega arith
simple_one (If guarded others otherwise) simple = cc
simple_one (While guarded) simple = cc
simple_one (For variable first test step branch) simple = cc

pub actions_few : (form : BlockForm) (items : List ItemData) (actions : Actions)
    → actions_nodes actions ≤ block_nodes (Braces form items actions)
actions_few forms.Plain items NoActions = omega arith
actions_few forms.Plain items (More (Labelled None body) NoActions) =
    cond_both (is_simple body) (OneAction body) Children (λ shape. body_nodes body + 0 ≤ shaped_nodes shape (body_nodes body + 0))
    (λ simple. let one = simple_one body simple in omega arith) (λ other. omega arith)
actions_few forms.Plain items (More (Labelled (Some label) body) NoActions) = omega arith
actions_few forms.Plain items (More first (More second rest)) = omega arith
actions_few forms.NodeList _ _ = omega arith
actions_few forms.Sequence _ _ = omega arith
actions_few forms.UncheckedSequence _ _ = omega arith
actions_few forms.Concurrence _ _ = omega arith
actions_few forms.Try _ _ = omega arith
