-- Loops, made of what is in them.
use Rattle.std.proofs.Common.{◌≡◌, ℕ, ℤ, ◌+◌, ◌≤◌, List, length, ap, sym, subst, ◌∙◌, arith}
use Rattle.px_value.specs.Path.{below}
use Rattle.px_syntax.specs.declared.block.Branch.{Branch, out-Branch}
use Rattle.px_syntax.specs.declared.block.Guarded.{Guarded, out-Guarded}
use Rattle.px_syntax.specs.declared.expr.Identifier.{Identifier}
use Rattle.px_syntax.specs.Block as text
use Rattle.px_syntax.specs.Block.{BranchTree, GuardedTree, block_of, branch_of, guarded_of}
use Rattle.px_syntax.specs.Expr as surface
use Rattle.px_syntax.proofs.Trees.{branch_is, guarded_is}
use Rattle.px_core.specs.declared.node.CoreNode.{CoreNode}
use Rattle.px_core.specs.Expr.{Term}
use Rattle.px_core.specs.Plan.{Tree, tree_of_node}
use Rattle.px_forms.specs.Adding.{Added}
use Rattle.px_expand.specs.Chain.{test_in, branch_in}
use Rattle.px_expand.specs.Core.{block_core, body_core, branch_core, branch_name, for_scope, loop_seen, while_scope}
use Rattle.px_forms.specs.Forms.{counted, loop_path, repeated, where_found}
use Rattle.px_forms.specs.Names.{body_name}
use Rattle.px_forms.specs.Nodes.{Node, Place, alone, child}
use Rattle.px_expand.specs.Children.{paths_of}
use Rattle.px_forms.specs.Placed.{node_of}
use Rattle.px_scope.specs.Resolving.{resolved}
use Rattle.px_scope.specs.Scope.{Scope}
use Rattle.px_expand.specs.Size.{block_nodes, block_reach, branch_nodes, branch_reach, guarded_nodes, guarded_reach, through}
use Rattle.px_expand.proofs.Blocks.{child_room}
use Rattle.px_forms.proofs.Trees.{known_node}

pub while_made : (scope inner : Scope) (place : Place) (guarded : GuardedTree) (test : Term) (paths : List (List ℕ)) (nodes : Tree)
    → inner ≡ while_scope scope place (branch_in guarded)
    → test ≡ resolved (while_scope scope place (branch_in guarded)) (test_in guarded)
    → paths ≡ paths_of (loop_seen place.path (branch_in guarded))
    → nodes
    ≡ alone (branch_core inner (child place.path (branch_name body_name (branch_in guarded)) (where_found place.path)) (branch_in guarded))
    → alone (repeated place test paths nodes) ≡ alone (body_core scope place (text.While guarded))
while_made scope inner place (text.Guarded own branch) test paths nodes inner_is test_is paths_is nodes_is =
    let here : Scope = while_scope scope place branch in
    let seen : List (List ℕ) = paths_of (loop_seen place.path branch) in
    let at : Place = child place.path (branch_name body_name branch) (where_found place.path) in
    ap (λ test. alone (repeated place test paths nodes)) test_is
    ∙ ap (λ paths. alone (repeated place (resolved here own) paths nodes)) paths_is
    ∙ ap (λ nodes. alone (repeated place (resolved here own) seen nodes)) nodes_is
    ∙ ap (λ inner. alone (repeated place (resolved here own) seen (alone (branch_core inner at branch)))) inner_is

pub for_made : (scope inner : Scope) (place : Place) (variable : Identifier) (first : ℤ) (test step : surface.Term) (branch : BranchTree)
    (found next : Term) (body : List ℕ) (node : CoreNode)
    → inner ≡ for_scope scope place variable.name branch
    → found ≡ resolved (for_scope scope place variable.name branch) test
    → next ≡ resolved (for_scope scope place variable.name branch) step
    → body ≡ below (loop_path place.path) (branch_name body_name branch)
    → tree_of_node node
    ≡ alone (branch_core inner (child (loop_path place.path) (branch_name body_name branch) (where_found (loop_path place.path))) branch)
    → alone (counted place variable.name first found next body (node_of node))
    ≡ alone (body_core scope place (text.For variable first test step branch))
for_made scope inner place variable first test step branch found next body node inner_is found_is next_is body_is node_is =
    let here : Scope = for_scope scope place variable.name branch in
    let path : List ℕ = below (loop_path place.path) (branch_name body_name branch) in
    let at : Place = child (loop_path place.path) (branch_name body_name branch) (where_found (loop_path place.path)) in
    let own : node_of node ≡ branch_core here at branch =
    known_node node (branch_core inner at branch) node_is ∙ ap (λ inner. branch_core inner at branch) inner_is in
    ap (λ found. alone (counted place variable.name first found next body (node_of node))) found_is
    ∙ ap (λ next. alone (counted place variable.name first (resolved here test) next body (node_of node))) next_is
    ∙ ap (λ body. alone (counted place variable.name first (resolved here test) (resolved here step) body (node_of node))) body_is
    ∙ ap (λ (node : Node). alone (counted place variable.name first (resolved here test) (resolved here step) path node)) own

-- ---- branches

-- the room of a branch is that of the node that it stands in
pub branch_room : (at : Place) (path unlabelled : List ℕ) (added : Added) (branch : Branch)
    → at ≡ child path (branch_name unlabelled (branch_of branch)) added
    → length path + branch_reach unlabelled (branch_of branch) ≤ 5000
    → length at.path + block_reach (block_of (out-Branch branch).block) ≤ 5000
branch_room at path unlabelled added branch at_is room =
    let name : List ℕ = branch_name unlabelled (branch_of branch) in
    let reach : ℕ = block_reach (block_of (out-Branch branch).block) in
    let far : branch_reach unlabelled (branch_of branch) ≡ through name reach =
    ap (branch_reach unlabelled) (branch_is branch) ∙ ap (λ tree. through (branch_name unlabelled tree) reach) (sym (branch_is branch)) in
    child_room at path name added reach at_is (subst (λ n. length path + n ≤ 5000) far room)

-- a branch is its block
pub branch_made : (scope : Scope) (at own : Place) (branch : Branch) (nodes : Tree)
    → nodes ≡ alone (block_core scope at (block_of (out-Branch branch).block))
    → at ≡ own
    → nodes ≡ alone (branch_core scope own (branch_of branch))
branch_made scope at own branch nodes is at_is =
    is
    ∙ ap (λ at. alone (block_core scope at (block_of (out-Branch branch).block))) at_is
    ∙ ap (λ branch. alone (branch_core scope own branch)) (sym (branch_is branch))

pub guarded_branch : (guarded : Guarded) → branch_of (out-Guarded guarded).branch ≡ branch_in (guarded_of guarded)
guarded_branch guarded = sym (ap branch_in (guarded_is guarded))

guarded_far : (unlabelled : List ℕ) (guarded : GuardedTree) → branch_reach unlabelled (branch_in guarded) ≤ guarded_reach unlabelled guarded
guarded_far unlabelled (text.Guarded test branch) = omega arith

pub guarded_room : (at : Place) (path unlabelled : List ℕ) (added : Added) (guarded : Guarded)
    → at ≡ child path (branch_name unlabelled (branch_in (guarded_of guarded))) added
    → length path + guarded_reach unlabelled (guarded_of guarded) ≤ 5000
    → length at.path + block_reach (block_of (out-Branch (out-Guarded guarded).branch).block) ≤ 5000
guarded_room at path unlabelled added guarded at_is room =
    branch_room at path unlabelled added (out-Guarded guarded).branch
    (at_is ∙ ap (λ branch. child path (branch_name unlabelled branch) added) (sym (guarded_branch guarded)))
    (subst (λ branch. length path + branch_reach unlabelled branch ≤ 5000) (sym (guarded_branch guarded))
    (omega (arith, room, guarded_far unlabelled (guarded_of guarded))))

-- how many nodes a branch is, alone and behind a test
pub branch_count : (branch : Branch) → branch_nodes (branch_of branch) ≡ block_nodes (block_of (out-Branch branch).block)
branch_count branch = ap branch_nodes (branch_is branch)

pub guarded_count : (guarded : Guarded)
    → guarded_nodes (guarded_of guarded) ≡ 2 + block_nodes (block_of (out-Branch (out-Guarded guarded).branch).block)
guarded_count guarded =
    ap guarded_nodes (guarded_is guarded) ∙ ap (λ n. 2 + n) (branch_count (out-Guarded guarded).branch)
