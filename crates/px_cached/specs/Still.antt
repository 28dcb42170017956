-- Which parts have the truth still that is kept of them.
use Rattle.std.specs.Prelude.{◌≡◌, ℕ, ◌<◌, List, length, None}
use Rattle.px_value.specs.declared.value.Value.{Value}
use Rattle.px_core.specs.Plan.{Site}
use Rattle.px_flat.specs.Flat.{plan_of}
use Rattle.px_flat.specs.Layout.{all_cells}
use Rattle.px_flat.specs.Lookups.{lookups_of}
use Rattle.px_flat.specs.Numbered.{Numbered, held}
use Rattle.px_flat.specs.Sources.{Present, Reports, value_in}
use Rattle.px_cached.specs.declared.still.Asker.{Asker}
use Rattle.px_cached.specs.declared.still.LastRead.{LastRead}
use Rattle.px_cached.specs.Cached.{present_in}
use Rattle.px_cached.specs.Conditions.{reported, source_number}
use Rattle.px_cached.specs.Laying.{IsRead}
use Rattle.px_cached.specs.Looking.{IsRight}
use Rattle.px_cached.specs.Network.{part_at, truth_at}

-- the cells and reports of now
abbrev pub now_of : Asker → Present
now_of asker = present_in asker.cells.now asker.reports.now

-- the kept truth of a part is the one that it has now
abbrev pub IsStill : Asker → ℕ → Type 0
IsStill asker part =
    IsRight (plan_of asker.flat.now) (now_of asker) (truth_at asker.truths.now part) (part_at asker.parts.now part)

-- the value of an expression now
abbrev pub value_now : Asker → Numbered → Value
value_now asker expr = value_in (plan_of asker.flat.now) (now_of asker) expr

-- the cells are the plan's, there is a truth of each part, and what is evaluated whole lies within the tables
pub record IsAsking (asker : Asker) : Type 0 where
  pub cells : length asker.cells.now.contents.values ≡ all_cells (plan_of asker.flat.now)
  pub truths : length asker.truths.now ≡ length asker.parts.now
  pub read : (part : ℕ) → part < length asker.parts.now → IsRead (plan_of asker.flat.now) (part_at asker.parts.now part)

-- in whatever is present the cell holds the value of the expression
abbrev pub HoldsValue : List Site → Numbered → ℕ → Type 0
HoldsValue plan expr cell = (present : Present) → held present.cells cell ≡ value_in plan present expr

-- this was last reported under the name, without arguments
abbrev pub IsLastRead : Asker → LastRead → Type 0
IsLastRead asker last = last.value ≡ reported (plan_of asker.flat.now) (now_of asker) last.lookup

-- the source is what is reported under this name, as it is read without a tolerance
abbrev pub IsSourceOf : List Site → ℕ → ℕ → Type 0
IsSourceOf plan source lookup =
    (lookup < length (lookups_of plan)) × (source ≡ source_number plan (Reports lookup None))
