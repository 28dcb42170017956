-- Which places are those of a tree's nodes in preorder.
use Rattle.std.specs.Prelude.{ℕ, ◌≡◌, ◌<◌, ◌≤◌, Bool, false, ◌&&◌, ◌||◌, nat_eq, nat_lt, List, length, slice_index_or, Option, Some, None}
use Rattle.px_told.specs.declared.place.Place.{Place}

abbrev pub place_at : List Place → ℕ → Place
place_at tree node = slice_index_or tree node (record { parent = None; end = 0 })

-- the number of the node's parent, or none
abbrev pub parent_of : List Place → ℕ → Option ℕ
parent_of tree node = (place_at tree node).parent

-- the number after the node's last descendant
abbrev pub end_of : List Place → ℕ → ℕ
end_of tree node = (place_at tree node).end

-- whether a node is below another: behind it, and before the number after its last descendant
abbrev pub is_below : List Place → ℕ → ℕ → Bool
is_below tree above node = nat_lt above node && nat_lt node (end_of tree above)

-- whether this is the other node, or below it
abbrev pub is_under : List Place → ℕ → Option ℕ → Bool
is_under tree above None = false
is_under tree above (Some node) = nat_eq above node || is_below tree above node

-- Below a node are those whose parent it is, or whose parent is below it.
pub record IsPreorder (tree : List Place) : Type 0 where
  pub ends : (node : ℕ) → node < length tree → (node < end_of tree node) × (end_of tree node ≤ length tree)
  pub below : (above node : ℕ) → node < length tree → is_below tree above node ≡ is_under tree above (parent_of tree node)
