-- SEEN: the kept conditions were last looked at in the world that the parts were last seen as.
use Rattle.std.specs.Prelude.{◌≡◌, ℕ, ◌<◌, false, length, Option}
use Rattle.px_flat.specs.Lookups.{lookups_of}
use Rattle.px_flat.specs.Sources.{Reports, IsSameReport}
use Rattle.px_cached.specs.Cached.{CachedData, is_touched}
use Rattle.px_cached.specs.Conditions.{source_number}
use Rattle.px_parts.specs.declared.parts.Parts.{Parts}
use Rattle.px_parts.specs.Parts.{plan_in}

-- Cells: what isn't news is as it was seen, and what was seen is what the conditions were looked at in. Reports: so is
-- what is read under each name, with each tolerance and with none, that isn't touched.
pub record IsSeen (parts : Parts) (conditions : CachedData) : Type 0 where
  pub cells : conditions.seen.cells ≡ parts.cells.seen
  pub reports : (lookup : ℕ) (tolerance : Option ℕ) → lookup < length (lookups_of (plan_in parts))
      → is_touched conditions (source_number (plan_in parts) (Reports lookup tolerance)) ≡ false
      → IsSameReport (plan_in parts) conditions.seen.reports parts.reports.reports lookup tolerance
