-- Blocks: how far the paths below them reach, and their nodes made of what is in them.
use Rattle.std.proofs.Common.{◌≡◌, ℕ, ◌+◌, ◌<◌, ◌≤◌, List, ◌∷◌, length, drop, None}
use Rattle.std.proofs.Common.{refl, ap, sym, ◌∙◌, arith, length-append}
use Rattle.px_syntax.specs.declared.word.BlockForm.{BlockForm}
use Rattle.px_syntax.specs.Block.{ItemData, BlockTree, Braces}
use Rattle.px_core.specs.Plan.{Tree}
use Rattle.px_forms.specs.Adding.{Added}
use Rattle.px_expand.specs.Core.{actions_core, actions_in, actions_seen, block_core, block_scope, block_seen, children_seen, form_of, shaped, shaped_as}
use Rattle.px_expand.specs.Kinds.{Shape, Rest, OneAction, Children, shape_of}
use Rattle.px_forms.specs.Nodes.{Place, child}
use Rattle.px_expand.specs.Children.{paths_of}
use Rattle.px_scope.specs.Scope.{Scope, here}
use Rattle.px_expand.specs.Size.{actions_nodes, actions_reach, block_nodes, block_reach, shaped_nodes, shaped_reach, through}

-- the room of a child is that of its parent
pub child_room : (at : Place) (path name : List ℕ) (added : Added) (reach : ℕ)
    → at ≡ child path name added
    → length path + through name reach ≤ 5000
    → length at.path + reach ≤ 5000
child_room at path name added reach is room =
    let far : length at.path ≡ length path + (1 + length name) =
    ap (λ (at : Place). length at.path) is ∙ length-append path (46 ∷ name) ∙ omega arith in
    omega (arith, far, room)

-- a List reaches as far as its children
pub list_reach : (block : BlockTree) → Children ≡ shape_of block → block_reach block ≡ actions_reach 1 (actions_in block)
list_reach (Braces form items actions) is = ap (λ shape. shaped_reach shape (actions_reach 1 actions)) (sym is)

-- and has a node for itself beside them
pub list_count : (block : BlockTree) → Children ≡ shape_of block → block_nodes block ≡ 1 + actions_nodes (actions_in block)
list_count (Braces form items actions) is = ap (λ shape. shaped_nodes shape (actions_nodes actions)) (sym is)

-- what is seen of it are its actions
pub list_seen : (path : List ℕ) (block : BlockTree) → Children ≡ shape_of block
    → block_seen path block ≡ actions_seen path 1 (actions_in block)
list_seen path (Braces form items actions) is = ap (λ shape. children_seen shape path actions) (sym is)

-- a block has a scope of its own
pub block_inside : (scope inner : Scope) (place : Place) (block : BlockTree)
    → inner ≡ block_scope scope place block → (0 < length inner) × (drop 1 inner ≡ scope)
block_inside scope inner place (Braces form items actions) is = (omega (arith, ap length is), ap (drop 1) is)

-- in which it is the innermost node
pub block_here : (scope inner : Scope) (place : Place) (block : BlockTree)
    → inner ≡ block_scope scope place block → here inner ≡ place.path
block_here scope inner place (Braces _ _ _) is = ap here is

same_shaped : (place : Place) (shape : Shape) (scope : Scope) (form : BlockForm) (items : List ItemData) (paths : List (List ℕ))
    (nodes others : Tree) → (Children ≡ shape → nodes ≡ others)
    → shaped place shape scope form items paths nodes ≡ shaped place shape scope form items paths others
same_shaped place Rest scope form items paths nodes others same = refl
same_shaped place (OneAction body) scope form items paths nodes others same = refl
same_shaped place Children scope form items paths nodes others same = ap (shaped place Children scope form items paths) (same refl)

pub block_made : (scope inner : Scope) (place : Place) (block : BlockTree) (paths : List (List ℕ)) (nodes : Tree)
    → inner ≡ block_scope scope place block
    → paths ≡ paths_of (block_seen place.path block)
    → (Children ≡ shape_of block → nodes ≡ actions_core inner place.path (form_of block) None 1 (actions_in block))
    → shaped_as place inner block paths nodes ≡ block_core scope place block
block_made scope inner place (Braces form items actions) paths nodes inner_is paths_is nodes_is =
    let shape : Shape = shape_of (Braces form items actions) in
    same_shaped place shape inner form items paths nodes (actions_core inner place.path form None 1 actions) nodes_is
    ∙ ap (λ paths. shaped place shape inner form items paths (actions_core inner place.path form None 1 actions)) paths_is
    ∙ ap (λ inner. shaped place shape inner form items (paths_of (block_seen place.path (Braces form items actions)))
    (actions_core inner place.path form None 1 actions)) inner_is
