-- What a bench keeps.
use Rattle.std.specs.Prelude.{◌≡◌, ◌<◌, ◌^◌, length, None}
use Rattle.px_flat.specs.Flat.{plan_of}
use Rattle.px_flat.specs.Layout.{all_cells}
use Rattle.px_cached.specs.Cached.{IsSeenBut, plan_in, present_in}
use Rattle.px_cached.specs.Conditions.{all_sources}
use Rattle.px_flat_tests.specs.declared.bench.Bench.TheInside.{Inside}

-- the conditions are the plan's, and each of their sources that wasn't touched is as it was seen
pub record IsStanding (b : Inside) : Type 0 where
  pub plan : plan_in b.conditions ≡ plan_of b.flat
  pub cells : length b.cells.contents.values ≡ all_cells (plan_of b.flat)
  pub unmarked : b.cells.contents.marked ≡ None
  pub few : all_sources (plan_of b.flat) < 2 ^ 32
  pub seen : IsSeenBut b.conditions (present_in b.cells b.reports)
