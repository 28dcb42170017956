-- What kept conditions are to contracts.
use Rattle.std.specs.Prelude.{◌≡◌, ℕ, ◌+◌, ◌-◌, ◌<◌, ◌≤◌, Bool, true, false, not, List, length, map, sum, slice_index_or, Option, None, All, ◌⊎◌}
use Rattle.std.specs.List.{range_with_len}
use Rattle.px_core.specs.declared.conditions.ConditionKind.{ConditionKind}
use Rattle.px_core.specs.Plan.{Site}
use Rattle.px_cells.specs.Cells.{CellsData}
use Rattle.px_flat.specs.declared.flat.Flat.{Flat}
use Rattle.px_flat.specs.Flat.{plan_of}
use Rattle.px_flat.specs.Layout.{all_cells}
use Rattle.px_flat.specs.Sources.{Present, IsSame, sources_in}
use Rattle.px_links.specs.Links.{LinksData, is_absent, SameCounts}
use Rattle.px_lookup.specs.Reports.{ReportsData}
use Rattle.px_cached.specs.Adding.{AddsTo}
use Rattle.px_cached.specs.Conditions.{all_sources, condition_in, number_of, source_number, truth_in}
use Rattle.px_cached.specs.Costs.{cost, in_all}
use Rattle.px_cached.specs.Firsts.{HasCell, source_of}

-- The plan's tables, the truth of each condition as it is kept, the cells and reports in which it was last looked at, and
-- the sources that were touched since; and so many looks at most are left from before, as after want of memory.
pub record CachedData : Type 0 where
  pub flat : Flat
  pub truths : List (Option Bool)
  pub seen : Present
  pub touched : LinksData
  pub left : ℕ

abbrev pub plan_in : CachedData → List Site
plan_in cached = plan_of cached.flat

abbrev pub kept_truth : CachedData → ℕ → ConditionKind → Option Bool
kept_truth cached node kind = slice_index_or cached.truths (number_of node kind) None

abbrev pub is_touched : CachedData → ℕ → Bool
is_touched cached source = not (is_absent cached.touched source)

-- at how many parts `refresh` looks at most: what is left, and what the touched sources cost
abbrev pub due : CachedData → ℕ
due cached = cached.left + in_all (cost (plan_in cached)) cached.touched

-- what cells and reports hold
abbrev pub present_in : CellsData → ReportsData → Present
present_in cells reports = record { cells = cells.contents.values; reports = reports.reports }

-- this source is touched, and each that was, and what it costs is due at most
pub record IsTouched (old new : CachedData) (source : ℕ) : Type 0 where
  pub flat : new.flat ≡ old.flat
  pub truths : new.truths ≡ old.truths
  pub seen : new.seen ≡ old.seen
  pub this : is_touched new source ≡ true
  pub others : (other : ℕ) → is_touched old other ≡ true → is_touched new other ≡ true
  pub owed : due new ≤ due old + cost (plan_in old) source

-- each source of a condition that has this cell is touched, with these sites
abbrev pub TouchedIn : List Site → CachedData → ℕ → Type 0
TouchedIn sites cached cell = (node : ℕ) (kind : ConditionKind) → node < length sites
    → All (λ source. HasCell source cell → is_touched cached (source_number sites source) ≡ true)
    (sources_in sites (condition_in sites node kind))

-- with its own
abbrev pub IsTouchedAt : CachedData → ℕ → Type 0
IsTouchedAt cached cell = TouchedIn (plan_in cached) cached cell

-- all that is reported is touched, and each source that was
pub record HasTouchedReports (old new : CachedData) : Type 0 where
  pub flat : new.flat ≡ old.flat
  pub truths : new.truths ≡ old.truths
  pub seen : new.seen ≡ old.seen
  pub all : (source : ℕ) → all_cells (plan_in old) ≤ source → source < all_sources (plan_in old)
      → is_touched new source ≡ true
  pub others : (source : ℕ) → is_touched old source ≡ true → is_touched new source ≡ true
  pub owed : due new ≤ due old + sum (map (cost (plan_in old))
      (range_with_len (all_cells (plan_in old)) (all_sources (plan_in old) - all_cells (plan_in old))))

-- the source that has the cell is touched, and each that was
pub record HasTouchedCell (old new : CachedData) (cell : ℕ) : Type 0 where
  pub flat : new.flat ≡ old.flat
  pub truths : new.truths ≡ old.truths
  pub seen : new.seen ≡ old.seen
  pub this : IsTouchedAt new cell
  pub others : (source : ℕ) → is_touched old source ≡ true → is_touched new source ≡ true
  pub owed : due new ≤ due old + cost (plan_in old) (source_of (plan_in old) cell)

-- each source of a condition that was not touched is as it was seen, with these sites
abbrev pub SeenIn : List Site → CachedData → Present → Type 0
SeenIn sites cached present = (node : ℕ) (kind : ConditionKind) → node < length sites
    → All (λ source. is_touched cached (source_number sites source) ≡ false → IsSame sites cached.seen present source)
    (sources_in sites (condition_in sites node kind))

-- with its own: what `refresh` needs
abbrev pub IsSeenBut : CachedData → Present → Type 0
IsSeenBut cached present = SeenIn (plan_in cached) cached present

-- all is seen, and nothing was touched since
pub record IsSeen (cached : CachedData) (present : Present) : Type 0 where
  pub seen : cached.seen ≡ present
  pub untouched : (source : ℕ) → is_touched cached source ≡ false

-- each kept truth is the one made from scratch
abbrev pub AreFresh : CachedData → Present → Type 0
AreFresh cached present = (node : ℕ) (kind : ConditionKind) → node < length (plan_in cached)
    → kept_truth cached node kind ≡ truth_in (plan_in cached) present (condition_in (plan_in cached) node kind)

-- A node with a condition that changed is in some list. A node that was in none may be in this one, and each other one is
-- held as before.
pub record TellsChanged (old new : CachedData) (before after : LinksData) (list : ℕ) : Type 0 where
  pub changed : (node : ℕ) (kind : ConditionKind) → node < length (plan_in old)
      → (kept_truth new node kind ≡ kept_truth old node kind) ⊎ (is_absent after node ≡ false)
  pub holders : AddsTo list before after
  pub counts : SameCounts before after
