-- A node's tree from its children's, and how many nodes it has.
use Rattle.std.proofs.Common.{◌≡◌, ℕ, ◌+◌, List, [], ◌∷◌, map, sum, refl, ap, sym, ◌∙◌, arith}
use Rattle.std.proofs.lemmas.List.Sums.{sum_by-cons}
use Rattle.px_core.specs.declared.node.CoreNode.{CoreNode}
use Rattle.px_core.specs.declared.node.CoreNode.TheOpen.{CoreNode-F}
use Rattle.px_core.specs.declared.node.CoreNode.TheViews.{out-CoreNode, roll-CoreNode}
use Rattle.px_core.specs.declared.node.CoreNode.TheFolds.{fold-CoreNode, fold-roll-CoreNode, fold_out-CoreNode}
use Rattle.px_core.specs.Plan.{Head, Tree, NoNode, Branch, head_of, branch, tree_of_node, trees_of, count_of}

abbrev pub nodes_of : CoreNode → ℕ
nodes_of node = count_of (tree_of_node node)

-- a node before others
pub node_tree : (node : CoreNode) (rest : Tree)
    → fold-CoreNode (Tree → Tree) branch node rest ≡ Branch (head_of (out-CoreNode node)) (trees_of (out-CoreNode node).children.items) rest
node_tree node rest = ap (λ (f : Tree → Tree). f rest) (fold_out-CoreNode (Tree → Tree) branch node)

-- a tree before others
abbrev pub before : Tree → Tree → Tree
before NoNode rest = rest
before (Branch head children more) rest = Branch head children (before more rest)

abbrev side_by_side : List Tree → Tree
side_by_side [] = NoNode
side_by_side (tree ∷ more) = before tree (side_by_side more)

pub first_tree : (node : CoreNode) (rest : Tree) → fold-CoreNode (Tree → Tree) branch node rest ≡ before (tree_of_node node) rest
first_tree node rest = node_tree node rest ∙ ap (λ tree. before tree rest) (sym (node_tree node NoNode))

-- nodes side by side are known from the tree of each
trees_by_each : (nodes : List CoreNode) → trees_of nodes ≡ side_by_side (map tree_of_node nodes)
trees_by_each [] = refl
trees_by_each (node ∷ nodes) = first_tree node (trees_of nodes) ∙ ap (before (tree_of_node node)) (trees_by_each nodes)

same_trees : (a b : List CoreNode) → map tree_of_node a ≡ map tree_of_node b → trees_of a ≡ trees_of b
same_trees a b same = trees_by_each a ∙ ap side_by_side same ∙ sym (trees_by_each b)

-- a node is made of its head and the nodes in it
pub node_made : (made : CoreNode-F CoreNode) (head : Head) → head_of made ≡ head
    → tree_of_node (roll-CoreNode made) ≡ Branch head (trees_of made.children.items) NoNode
node_made made head same =
    ap (λ (f : Tree → Tree). f NoNode) (fold-roll-CoreNode (Tree → Tree) branch made)
    ∙ ap (λ head. Branch head (trees_of made.children.items) NoNode) same

-- a node that is made anew of an equal head and equal children
pub same_node : (made : CoreNode-F CoreNode) (node : CoreNode) → head_of made ≡ head_of (out-CoreNode node)
    → map tree_of_node made.children.items ≡ map tree_of_node (out-CoreNode node).children.items
    → tree_of_node (roll-CoreNode made) ≡ tree_of_node node
same_node made node head children =
    node_made made (head_of (out-CoreNode node)) head
    ∙ ap (λ children. Branch (head_of (out-CoreNode node)) children NoNode) (same_trees made.children.items (out-CoreNode node).children.items children)
    ∙ sym (node_tree node NoNode)

count_first : (node : CoreNode) (rest : Tree) → count_of (fold-CoreNode (Tree → Tree) branch node rest) ≡ nodes_of node + count_of rest
count_first node rest = omega (arith, ap count_of (node_tree node rest), ap count_of (node_tree node NoNode))

count_trees : (nodes : List CoreNode) → count_of (trees_of nodes) ≡ sum (map nodes_of nodes)
count_trees [] = refl
count_trees (node ∷ nodes) = omega (arith, count_first node (trees_of nodes), count_trees nodes, sum_by-cons (λ n. n) (nodes_of node) (map nodes_of nodes))

-- a node and those below it
pub node_count : (node : CoreNode) → nodes_of node ≡ 1 + sum (map nodes_of (out-CoreNode node).children.items)
node_count node = omega (arith, ap count_of (node_tree node NoNode), count_trees (out-CoreNode node).children.items)
