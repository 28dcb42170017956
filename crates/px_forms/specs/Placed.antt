-- What the code has of places and nodes, with terms in place of expressions and lists in place of vectors.
use Rattle.std.specs.Global.{Box}
use Rattle.px_core.specs.Plan.{Tree, below_it, head_of, tree_of_node}
use Rattle.px_core.specs.declared.node.CoreNode.{CoreNode}
use Rattle.px_core.specs.declared.node.CoreNode.TheViews.{out-CoreNode}
use Rattle.px_forms.specs.declared.place.Place.{Place as PlaceData}
use Rattle.px_forms.specs.Nodes.{Place, Node}
use Rattle.px_forms.specs.Shown.{added_terms}

abbrev pub place_terms : PlaceData → Place
place_terms place = record { path = place.path; name = place.name; added = added_terms place.added.value }

-- what is in a box
abbrev pub tree_in : Box CoreNode → Tree
tree_in boxed = tree_of_node boxed.value

-- a node without those beside it
abbrev pub node_of : CoreNode → Node
node_of node = record { head = head_of (out-CoreNode node); children = below_it node }
