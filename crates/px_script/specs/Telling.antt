-- What tells the kind of each node by its path.
use Rattle.std.specs.Prelude.{◌≡◌, ℕ, Bool, nat_le, List, [], ◌∷◌, ◌++◌, map, length}
use Rattle.std.specs.Map.{lookup}
use Rattle.px_value.specs.Path.{below}
use Rattle.px_core.specs.declared.node.Kind.{Kind}
use Rattle.px_core.specs.Plan.{Tree, NoNode, Branch, Site, is_same}

-- the path and the kind of each node
abbrev pub all_kinds : List Site → List (List ℕ × Kind)
all_kinds plan = map (λ site. (site.path, site.head.kind)) plan

-- those of the nodes of a tree that stands below this path
abbrev pub kinds_under : List ℕ → Tree → List (List ℕ × Kind)
kinds_under parent NoNode = []
kinds_under parent (Branch head children rest) =
    (below parent head.name, head.kind) ∷ (kinds_under (below parent head.name) children ++ kinds_under parent rest)

-- such a path has at most 5,000 bytes
abbrev pub has_short : List ℕ × Kind → Bool
has_short told = nat_le (length told.0) 5000

-- the entries tell of each path what the first of these with it does
abbrev pub TellKinds : List (List ℕ × Kind) → List (List ℕ × Kind) → Type 0
TellKinds entries kinds = (path : List ℕ) → lookup (is_same path) entries ≡ lookup (is_same path) kinds
