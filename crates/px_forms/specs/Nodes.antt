-- Nodes of the core plan in their places.
use Rattle.std.specs.Prelude.{ℕ, List, []}
use Rattle.px_value.specs.Path.{below}
use Rattle.px_core.specs.declared.node.Kind.{Kind}
use Rattle.px_core.specs.declared.node.Kind.TheVariants as kinds
use Rattle.px_core.specs.Plan.{VariableData, BodyData, Nothing, Head, Tree, NoNode, Branch}
use Rattle.px_forms.specs.Adding.{Added, with_added}
use Rattle.px_forms.specs.Conditions.{Given, conditions}

-- ---- places

-- where a node stands: its path and its name, and what the form round it adds to its conditions
pub record Place : Type 0 where
  pub path : List ℕ
  pub name : List ℕ
  pub added : Added

-- a child of the node at a path
abbrev pub child : List ℕ → List ℕ → Added → Place
child parent name added = record { path = below parent name; name = name; added = added }

-- ---- nodes

-- what a node has beside its children, and these side by side
pub record Node : Type 0 where
  pub head : Head
  pub children : Tree

-- a node before others
abbrev pub before : Node → Tree → Tree
before node rest = Branch node.head node.children rest

abbrev pub alone : Node → Tree
alone node = before node NoNode

-- a node in its place, with children at these paths
abbrev pub node_at : Place → Kind → List (List ℕ) → Given → ℕ → List VariableData → BodyData → Tree → Node
node_at place kind paths given priority variables body children = record {
  head = record {
    name = place.name;
    kind = kind;
    conditions = conditions kind place.path paths (with_added place.added given);
    priority = priority;
    variables = variables;
    body = body;
  };
  children = children;
}

-- a node that has no children
abbrev pub leaf : Place → Kind → Given → ℕ → List VariableData → BodyData → Node
leaf place kind given priority variables body = node_at place kind [] given priority variables body NoNode

-- a List
abbrev pub list : Place → List (List ℕ) → Given → ℕ → List VariableData → Tree → Node
list place paths given priority variables children =
    node_at place kinds.List paths given priority variables Nothing children
