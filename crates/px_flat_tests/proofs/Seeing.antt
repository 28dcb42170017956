-- What isn't touched is still as it was seen: where all was just seen, where a cell is written, and where something is reported.
use Rattle.std.proofs.Common.{◌≡◌, ℕ, ◌+◌, ◌<◌, ◌≤◌, true, false, List, set, get_or, refl, sym, ◌∙◌, subst, arith}
use Rattle.px_value.specs.declared.value.Value.{Value}
use Rattle.px_value.specs.declared.value.Value.TheVariants.{Unknown}
use Rattle.std.proofs.lemmas.Bool.{false≢true}
use Rattle.std.proofs.lemmas.List.{get_or-set_other}
use Rattle.px_core.specs.declared.conditions.ConditionKind.{ConditionKind}
use Rattle.px_core.specs.Plan.{Site}
use Rattle.px_sem.specs.World.{LookState, Report}
use Rattle.px_flat.specs.declared.flat.Flat.{Flat}
use Rattle.px_flat.specs.Flat.{plan_of}
use Rattle.px_flat.specs.Layout.{all_cells}
use Rattle.px_flat.specs.Sources.{Source, Cells, Reports, Present, IsSame, sources_in}
use Rattle.px_cached.specs.Cached.{CachedData, HasTouchedCell, HasTouchedReports, IsSeen, IsSeenBut, SeenIn, is_touched, plan_in}
use Rattle.px_cached.specs.Conditions.{all_sources, condition_in, source_number}
use Rattle.px_cached.specs.Firsts.{HasCell}
use Rattle.px_cached.proofs.Conditions.{condition_within}
use Rattle.px_cached.proofs.Listening.{IsThere, sources_there}
use Rattle.px_cached.proofs.Reported.{report_behind, report_there}
use Rattle.px_cached.proofs.Seeing.{was_untouched}

abbrev sources_of : List Site → ℕ → ConditionKind → List Source
sources_of plan node kind = sources_in plan (condition_in plan node kind)

-- ---- just seen

same_itself : (plan : List Site) (present : Present) (source : Source) → IsSame plan present present source
same_itself plan present (Cells first size) = λ k below. refl
same_itself plan present (Reports lookup tolerance) = λ args. refl

pub just_seen : (cached : CachedData) (present : Present) → IsSeen cached present → IsSeenBut cached present
just_seen cached present all node kind there k d inside untouched =
    let source : Source = get_or (sources_of (plan_in cached) node kind) k d in
    subst (λ other. IsSame (plan_in cached) cached.seen other source) all.seen (same_itself (plan_in cached) cached.seen source)

-- ---- something is touched

-- what was not touched before is as it was seen, said of what is kept now
pub was_seen : (old new : CachedData) (before : Present) → new.flat ≡ old.flat → new.seen ≡ old.seen
    → IsSeenBut old before → SeenIn (plan_in new) (record old { seen = new.seen }) before
was_seen old new before flat seen was =
    subst (λ (seen : Present). SeenIn (plan_in new) (record old { seen = seen }) before) (sym seen)
    (subst (λ (flat : Flat). SeenIn (plan_of flat) old before) (sym flat) was)

-- ---- a cell is written

module _ (old new : CachedData) (values : List Value) (reports : List (LookState × Report)) (cell : ℕ) (value : Value)
    (touched : HasTouchedCell old new cell)
    (seen : IsSeenBut old (record { cells = values; reports = reports })) where
  abbrev before : Present
  before = record { cells = values; reports = reports }

  abbrev after : Present
  after = record { cells = set values cell value; reports = reports }

  -- a source without the cell is as before
  elsewhere : (source : Source) → (HasCell source cell → ⊥) → IsSame (plan_in new) new.seen before source
      → IsSame (plan_in new) new.seen after source
  elsewhere (Cells first size) outside same = λ k below.
      same k below ∙ sym (get_or-set_other values cell (first + k) value Unknown
      (λ here. outside (omega (arith, here), omega (arith, here, below))))
  elsewhere (Reports lookup tolerance) outside same = same

  pub written_seen : IsSeenBut new after
  written_seen node kind there k d inside untouched =
      let source : Source = get_or (sources_of (plan_in new) node kind) k d in
      let number : ℕ = source_number (plan_in new) source in
      elsewhere source
      (λ has. false≢true (sym untouched ∙ touched.this node kind there k d inside has))
      (was_seen old new before touched.flat touched.seen seen node kind there k d inside
      (was_untouched old new number touched.others untouched))

-- ---- something is reported

module _ (old new : CachedData) (values : List Value) (reports later : List (LookState × Report))
    (touched : HasTouchedReports old new) (seen : IsSeenBut old (record { cells = values; reports = reports })) where
  abbrev was : Present
  was = record { cells = values; reports = reports }

  abbrev now : Present
  now = record { cells = values; reports = later }

  all_touched : (source : ℕ) → all_cells (plan_in new) ≤ source → source < all_sources (plan_in new)
      → is_touched new source ≡ true
  all_touched = subst (λ (flat : Flat). (source : ℕ) → all_cells (plan_of flat) ≤ source → source < all_sources (plan_of flat)
      → is_touched new source ≡ true) (sym touched.flat) touched.all

  -- all that is reported is touched
  cells_alone : (source : Source) → IsThere (plan_in new) source
      → is_touched new (source_number (plan_in new) source) ≡ false
      → IsSame (plan_in new) new.seen was source → IsSame (plan_in new) new.seen now source
  cells_alone (Cells first size) there untouched same = same
  cells_alone (Reports lookup tolerance) there untouched same =
      absurd (false≢true (sym untouched ∙ all_touched (source_number (plan_in new) (Reports lookup tolerance))
      (report_behind (plan_in new) lookup tolerance) (report_there (plan_in new) lookup tolerance there)))

  pub reported_seen : IsSeenBut new now
  reported_seen node kind there k d inside untouched =
      let plan : List Site = plan_in new in
      let source : Source = get_or (sources_of plan node kind) k d in
      cells_alone source
      (sources_there plan (condition_in plan node kind) (condition_within new.flat node kind there) k d inside) untouched
      (was_seen old new was touched.flat touched.seen seen node kind there k d inside
      (was_untouched old new (source_number plan source) touched.others untouched))
