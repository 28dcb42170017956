-- The conditions of a plan's nodes by number, and the sources of all by number.
use Rattle.std.specs.Prelude.{ℕ, ◌+◌, ◌*◌, ◌/◌, ◌%◌, Bool, nat_eq, List, [], length, slice_index_or, Option, Some, None}
use Rattle.std.specs.List.{list_any, position_or_len}
use Rattle.px_value.specs.Truth.{truth_of}
use Rattle.px_value.specs.declared.value.Value.{Value}
use Rattle.px_core.specs.declared.conditions.ConditionKind.{ConditionKind}
use Rattle.px_core.specs.declared.conditions.ConditionKind.TheVariants as which
use Rattle.px_core.specs.Plan.{Site, condition_of}
use Rattle.px_sem.specs.Tolerances.{tolerances}
use Rattle.px_flat.specs.Layout.{all_cells}
use Rattle.px_flat.specs.Lookups.{lookups_of}
use Rattle.px_flat.specs.Numbered.{Numbered, ConditionsNumbered, numbered, reported_of}
use Rattle.px_flat.specs.Row.{site_in}
use Rattle.px_flat.specs.Sources.{Source, Cells, Reports, Present, value_in}
use Rattle.px_cached.specs.declared.kinds.TheConstants.{KINDS}

abbrev pub condition_in : List Site → ℕ → ConditionKind → Numbered
condition_in plan node kind = numbered plan (condition_of (site_in plan node).head.conditions kind)

-- the place of a condition among the eight
abbrev pub place_of : ConditionKind → ℕ
place_of which.Start = 0
place_of which.End = 1
place_of which.Exit = 2
place_of which.Skip = 3
place_of which.Repeat = 4
place_of which.Pre = 5
place_of which.Post = 6
place_of which.Invariant = 7

-- the conditions of node n have the numbers from 8n on
abbrev pub number_of : ℕ → ConditionKind → ℕ
number_of node kind = 8 * node + place_of kind

abbrev pub kind_at : ℕ → ConditionKind
kind_at place = slice_index_or KINDS place which.Start

abbrev pub condition_at : List Site → ℕ → Numbered
condition_at plan number = condition_in plan (number / 8) (kind_at (number % 8))

-- one of a node's conditions
abbrev pub of_kind : ConditionsNumbered → ConditionKind → Numbered
of_kind conditions which.Start = conditions.start
of_kind conditions which.End = conditions.end
of_kind conditions which.Exit = conditions.exit
of_kind conditions which.Skip = conditions.skip
of_kind conditions which.Repeat = conditions.repeat
of_kind conditions which.Pre = conditions.pre
of_kind conditions which.Post = conditions.post
of_kind conditions which.Invariant = conditions.invariant

-- the truth of an expression made from scratch
abbrev pub truth_in : List Site → Present → Numbered → Option Bool
truth_in plan present expr = truth_of (value_in plan present expr)

-- what is last reported under a name, without arguments
abbrev pub reported : List Site → Present → ℕ → Value
reported plan present name = reported_of present.reports (slice_index_or (lookups_of plan) name []) [] None

-- the place of a tolerance among others; behind them all that of none, and of one that is not among them
abbrev pub place_among : List ℕ → Option ℕ → ℕ
place_among tolerances None = length tolerances
place_among tolerances (Some tolerance) = position_or_len (nat_eq tolerance) tolerances

-- A source's number: that of its first cell, and behind all cells that of a lookup name, by the places of its tolerances.
abbrev pub source_number : List Site → Source → ℕ
source_number plan (Cells first size) = first
source_number plan (Reports lookup tolerance) =
    all_cells plan + (place_among (tolerances plan) tolerance * length (lookups_of plan) + lookup)

-- whether the source of this number is one of these
abbrev pub has_source : List Site → ℕ → List Source → Bool
has_source plan number sources = list_any (λ source. nat_eq number (source_number plan source)) sources

-- how many numbers of sources there are
abbrev pub all_sources : List Site → ℕ
all_sources plan = all_cells plan + (length (tolerances plan) + 1) * length (lookups_of plan)
