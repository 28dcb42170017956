-- The children that the text has of a node, and the scope inside it.
use Rattle.std.specs.Prelude.{ℕ, List, ◌∷◌}
use Rattle.std.specs.Map.{keys_of, values_of}
use Rattle.px_value.specs.Path.{below}
use Rattle.px_forms.specs.Nodes.{Place}
use Rattle.px_scope.specs.Scope.{Scope, Table, table, each_once}

-- the name and the path of a child of the node at a path
abbrev pub seen : List ℕ → List ℕ → List ℕ × List ℕ
seen parent name = (name, below parent name)

abbrev pub names_of : Table → List (List ℕ)
names_of = keys_of

abbrev pub paths_of : Table → List (List ℕ)
paths_of = values_of

-- the scope inside the node of a place, with this table of its children and with these variables
abbrev pub entered : Scope → Place → Table → List (List ℕ) → Scope
entered scope place children variables =
    record { name = place.name; path = place.path; children = children; variables = variables } ∷ scope

-- the scope inside a node of the text with these children and with variables of these names
abbrev pub inside : Scope → Place → Table → List (List ℕ) → Scope
inside scope place children names = entered scope place (table children) (each_once names)
