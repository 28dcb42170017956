-- Which variable cells and which nodes belong to each node.
use Rattle.std.specs.Prelude.{◌≡◌, ℕ, ◌<◌, ◌&&◌, nat_lt, List, length, slice_index_or}
use Rattle.px_core.specs.Fit.{cells_of_site}
use Rattle.px_core.specs.Plan.{Site}
use Rattle.px_flat.specs.declared.row.Extent.{Extent}
use Rattle.px_flat.specs.Layout.{first_cell}
use Rattle.px_flat.specs.Row.{site_in, is_below, after_last}

-- the node's first variable cell, how many it has, and the number after its last descendant
abbrev pub extent_of : List Site → ℕ → Extent
extent_of plan node = record {
  first_cell = first_cell plan node;
  cells = cells_of_site (site_in plan node);
  end = after_last plan node;
}

-- these are the extents of a plan's nodes
pub record AreExtents (plan : List Site) (extents : List Extent) : Type 0 where
  pub long : length extents ≡ length plan
  pub each : (node : ℕ) (d : Extent) → node < length plan → slice_index_or extents node d ≡ extent_of plan node

-- the nodes below a node are those behind it, up to this number
abbrev pub AreBelow : List Site → ℕ → ℕ → Type 0
AreBelow plan node end = (other : ℕ) → other < length plan
    → is_below (site_in plan node).path (site_in plan other) ≡ (nat_lt node other && nat_lt other end)
