-- What of the parts was last seen.
use Rattle.std.specs.Prelude.{◌≡◌}
use Rattle.px_cells.specs.Marked.{IsAllSeen}
use Rattle.px_parts.specs.declared.parts.Parts.{Parts}

-- what was last seen of the cells, and of what is under way, stays
pub record AreSeenAsBefore (old new : Parts) : Type 0 where
  pub cells : new.cells.seen ≡ old.cells.seen
  pub actions : new.actions.seen ≡ old.actions.seen

-- both are seen as they are, and there is no news
pub record AreAllSeen (parts : Parts) : Type 0 where
  pub cells : IsAllSeen parts.cells parts.cells.contents.values
  pub actions : IsAllSeen parts.actions parts.actions.contents.values
