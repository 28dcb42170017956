-- What every table of kept conditions keeps.
use Rattle.std.specs.Prelude.{◌≡◌, ℕ, ◌≤◌, length, map}
use Rattle.px_flat.specs.Flat.{plan_of}
use Rattle.px_flat.specs.Layout.{all_cells}
use Rattle.px_cached.specs.declared.cached.Cached.TheInside.{Inside}
use Rattle.px_cached.specs.Cached.{CachedData, present_in}
use Rattle.px_cached.specs.Climbs.{climb}
use Rattle.px_cached.specs.Conditions.{all_sources}
use Rattle.px_cached.specs.Costs.{cost, in_all, source_cost}
use Rattle.px_cached.specs.Firsts.{firsts_of}
use Rattle.px_cached.specs.Looking.{IsSound}
use Rattle.px_cached.specs.Network.{root_truth}
use Rattle.px_cached.specs.Reading.{AreListening}
use Rattle.px_cached.specs.Watching.{AreWatching}

abbrev pub cached_data : Inside → CachedData
cached_data c = record {
  flat = c.flat.value;
  truths = map (root_truth c.kept.truths.items) c.kept.network.roots.items;
  seen = present_in c.seen_cells.value c.seen_reports.value;
  touched = c.touched;
  left = in_all (climb c.kept.network.above.items) c.kept.stale;
}

-- the kept truths are sound in what was seen, each part depends on each of its sources, those that read a name are watched, and
-- what depends on a source costs no more than the source does
pub record IsKept (c : Inside) : Type 0 where
  pub sound : IsSound (plan_of c.flat.value) (present_in c.seen_cells.value c.seen_reports.value) c.kept
  pub listening : AreListening (plan_of c.flat.value) c.kept.network.parts.items c.listeners
  pub watching : AreWatching (plan_of c.flat.value) c.kept.network.parts.items c.listeners c.watches.items
  pub costs : (source : ℕ) → source_cost c.listeners (climb c.kept.network.above.items) source
      ≤ cost (plan_of c.flat.value) source
  pub touched_cells : c.touched.cells ≡ all_sources (plan_of c.flat.value)
  pub firsts : c.firsts.items ≡ firsts_of (plan_of c.flat.value)
  pub touched_lists : length c.touched.lists ≡ 1
  pub seen_sized : length c.seen_cells.value.contents.values ≡ all_cells (plan_of c.flat.value)
