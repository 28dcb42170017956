-- Numbers that are put into one of several lists of linked cells.
use Rattle.std.specs.Prelude.{◌≡◌, ℕ, true, Some, ◌⊎◌}
use Rattle.px_links.specs.Links.{LinksData, holder_of, is_absent}

-- each is where it was, or was in no list and is in this one
abbrev pub AddsTo : ℕ → LinksData → LinksData → Type 0
AddsTo list old new = (cell : ℕ) → (holder_of new cell ≡ holder_of old cell)
    ⊎ ((is_absent old cell ≡ true) × (holder_of new cell ≡ Some list))
