-- How a tally keeps its totals.
use Rattle.std.specs.Prelude.{ℕ, ◌≡◌, ◌<◌, ◌^◌, Bool, List, length, slice_index, Option, All, IfSome}
use Rattle.px_tally.specs.declared.tally.Tally.TheInside.{Inside}
use Rattle.px_tally.specs.Tally.{TallyData, total_in}

abbrev pub tally_data : Inside → TallyData
tally_data t = record {
  groups = length t.totals.items;
  group_of = t.group_of.items;
  counting = t.counting.items;
}

-- each member's group is one of those, and each group's total is that of its members
pub record AreTotals (totals : List ℕ) (group_of : List (Option ℕ)) (counting : List Bool) : Type 0 where
  pub sized : length counting ≡ length group_of
  pub few : length group_of < 2 ^ 32
  pub within : All (λ group. IfSome group (λ group. group < length totals)) group_of
  pub right : (group : ℕ) → group < length totals → slice_index totals group ≡ total_in group_of counting group

abbrev pub IsKept : Inside → Type 0
IsKept t = AreTotals t.totals.items t.group_of.items t.counting.items
