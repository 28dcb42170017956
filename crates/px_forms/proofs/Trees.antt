-- Nodes of the code as trees.
use Rattle.std.proofs.Common.{◌≡◌, ap, sym, ◌∙◌}
use Rattle.px_core.specs.declared.node.CoreNode.{CoreNode}
use Rattle.px_core.specs.declared.node.CoreNode.TheFolds.{fold-CoreNode}
use Rattle.px_core.specs.Plan as plan
use Rattle.px_core.specs.Plan.{Tree, NoNode, Branch, tree_of_node}
use Rattle.px_core.proofs.Trees as trees
use Rattle.px_core.proofs.Trees.{node_tree, first_tree}
use Rattle.px_forms.specs.Nodes.{Node, before, alone}
use Rattle.px_forms.specs.Placed.{node_of}

-- a node that is known stands before others
pub known_before :
    (node : CoreNode) (known : Node) (rest : Tree)
    → tree_of_node node ≡ alone known
    → fold-CoreNode (Tree → Tree) plan.branch node rest ≡ before known rest
known_before node known rest is = first_tree node rest ∙ ap (λ tree. trees.before tree rest) is

-- the first of nodes side by side, or another where there is none
abbrev first_of : Node → Tree → Node
first_of other NoNode = other
first_of other (Branch head children rest) = record { head = head; children = children }

-- and a node that is known is that node
pub known_node : (node : CoreNode) (known : Node) → tree_of_node node ≡ alone known → node_of node ≡ known
known_node node known is = ap (first_of known) (sym (node_tree node NoNode) ∙ is)
