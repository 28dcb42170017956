-- Which variable and which node a name means somewhere in a plan: the paths of both in the core plan.
use Rattle.std.specs.Prelude.{ℕ, Bool, List, [], ◌∷◌, slice_get, unwrap_or, Option, Some, None, if◌then◌else◌}
use Rattle.std.specs.List.{list_any}
use Rattle.std.specs.Map.{lookup}
use Rattle.std.specs.Option.{option_map, option_and_then, option_or}
use Rattle.indexmap.specs.IndexMap.{insert_all}
use Rattle.indexmap.specs.IndexSet.{insert_all as insert_keys}
use Rattle.px_syntax.specs.declared.expr.NodeReference.{NodeReference}
use Rattle.px_syntax.specs.declared.expr.NodeReference.TheVariants as nodes
use Rattle.px_core.specs.Plan.{is_same}

-- ---- what is visible

-- paths by names
abbrev pub Table : Type 0
Table = List (List ℕ × List ℕ)

-- Names with their paths as a table. Of two paths of one name the last counts; a tree without faults has none such.
abbrev pub table : Table → Table
table = insert_all is_same []

-- names, each once
abbrev pub each_once : List (List ℕ) → List (List ℕ)
each_once = insert_keys is_same []

-- A node of the text, as it is seen from inside: its name and its path, the paths of its children by their names, and
-- the names of its variables. A generated name begins with `#`, so no name of the text means it.
pub record Frame : Type 0 where
  pub name : List ℕ
  pub path : List ℕ
  pub children : Table
  pub variables : List (List ℕ)

-- the nodes of the text round an expression, from the one that it belongs to out
abbrev pub Scope : Type 0
Scope = List Frame

-- the path of the node that an expression belongs to
abbrev pub here : Scope → List ℕ
here [] = []
here (frame ∷ outer) = frame.path

-- ---- variables

abbrev pub declares : List ℕ → Frame → Bool
declares name frame = list_any (is_same name) frame.variables

abbrev pub declared_in : List ℕ → Frame → Option (List ℕ)
declared_in name frame = if declares name frame then Some frame.path else None

-- the first node from the innermost one out that declares a variable
abbrev pub declared_from : List ℕ → Scope → Option (List ℕ)
declared_from name [] = None
declared_from name (frame ∷ outer) = option_or (declared_in name frame) (declared_from name outer)

-- in a tree without faults there is one
abbrev pub owner_of : Scope → List ℕ → List ℕ
owner_of scope name = unwrap_or (declared_from name scope) (here scope)

-- ---- nodes

abbrev pub child_named : List ℕ → Frame → Option (List ℕ)
child_named name frame = lookup (is_same name) frame.children

abbrev pub itself_named : List ℕ → Frame → Option (List ℕ)
itself_named name frame = if is_same name frame.name then Some frame.path else None

-- the node of a name among the children of one, and then itself
abbrev pub named_in : List ℕ → Frame → Option (List ℕ)
named_in name frame = option_or (child_named name frame) (itself_named name frame)

-- the first node of a name from the innermost one out
abbrev pub named_from : List ℕ → Scope → Option (List ℕ)
named_from name [] = None
named_from name (frame ∷ outer) = option_or (named_in name frame) (named_from name outer)

-- the node that an expression belongs to, and the node of the text round that one
abbrev pub self_of : Scope → Option Frame
self_of scope = slice_get scope 0

abbrev pub parent_of : Scope → Option Frame
parent_of scope = slice_get scope 1

-- the path of the node that a reference means, if it is there
abbrev pub meant : Scope → NodeReference → Option (List ℕ)
meant scope (nodes.Named name) = named_from name.name scope
meant scope (nodes.SelfNode token) = option_map (λ frame. frame.path) (self_of scope)
meant scope (nodes.Parent token) = option_map (λ frame. frame.path) (parent_of scope)
meant scope (nodes.Sibling token name) = option_and_then (child_named name.name) (parent_of scope)
meant scope (nodes.Child token name) = option_and_then (child_named name.name) (self_of scope)

-- in a tree without faults it is there
abbrev pub path_meant : Scope → NodeReference → List ℕ
path_meant scope node = unwrap_or (meant scope node) (here scope)
