-- The tables of a plan: its nodes by number in preorder, from 0.
use Rattle.std.specs.Prelude.{◌≡◌, ℕ, suc, ◌+◌, Bool, List, [], ◌∷◌, map, length, drop, position, take_while, slice_index_or, Option, None}
use Rattle.std.specs.List.{list_any}
use Rattle.px_core.specs.Plan.{Site, Head, condition_terms, variable_data, body_data, is_same, no_site}
use Rattle.px_flat.specs.declared.row.Head as heads
use Rattle.px_flat.specs.declared.row.Row.{Row}

-- the node with a number
abbrev pub site_in : List Site → ℕ → Site
site_in plan node = slice_index_or plan node no_site

abbrev pub paths_of : List Site → List (List ℕ)
paths_of plan = map (λ site. site.path) plan

-- the number of the node at a path
abbrev pub number_at : List Site → List ℕ → Option ℕ
number_at plan path = position (is_same path) (paths_of plan)

-- the number of a node's parent
abbrev pub parent_number : List Site → ℕ → Option ℕ
parent_number plan node = of_first (site_in plan node).above
  where
    of_first : List (List ℕ) → Option ℕ
    of_first [] = None
    of_first (parent ∷ above) = number_at plan parent

-- a node stands below the one at a path
abbrev pub is_below : List ℕ → Site → Bool
is_below path site = list_any (is_same path) site.above

-- The number after a node's last descendant: its descendants follow it, one after another.
abbrev pub after_last : List Site → ℕ → ℕ
after_last plan node =
    suc node + length (take_while (is_below (site_in plan node).path) (drop (suc node) plan))

-- ---- what a row has

-- all that a node has beside its children, with lists in place of vectors
abbrev pub head_data : heads.Head → Head
head_data head = record {
  name = head.name;
  kind = head.kind;
  conditions = condition_terms head.conditions.value;
  priority = head.priority;
  variables = map variable_data head.variables.items;
  body = body_data head.body;
}

-- the row of a node: its path, the number of its parent, and what it has beside its children
pub record IsRowOf (plan : List Site) (node : ℕ) (row : Row) : Type 0 where
  pub path : row.path ≡ (site_in plan node).path
  pub parent : row.parent ≡ parent_number plan node
  pub head : head_data row.head ≡ (site_in plan node).head
