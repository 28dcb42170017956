use Rattle.std.proofs.Common.{◌≡◌, List, ap, sym, ◌∙◌, arith}
use Rattle.std.specs.Prelude.{slice_get}
use Rattle.std.specs.Option.{unwrap_or}
use Rattle.px_core.specs.Plan.{Site}
use Rattle.px_flat.specs.Flat.{plan_of}
use Rattle.px_flat.proofs.Tables.{flat_sound}
use Rattle.px_cached.specs.Cached.{CachedData, is_touched, plan_in}
use Rattle.px_cached.specs.Costs.{cost}
use Rattle.px_cached.specs.Firsts.{source_of}
use Rattle.px_cached.proofs.FirstCells.{begin_there, source_low}
use Rattle.px_cached.proofs.cached.Cached.touch_cell.Goals as goal
use Rattle.px_cached.proofs.cached.Cached.touch_cell.Goals.{After-source_of-source}

module _ (c : After-source_of-source) where
  -- what is touched is the cell's source
  source : c.source_of-source.result ≡ source_of (plan_in c.args.self.now) c.args.cell
  source =
      c.source_of-source.ensures
      ∙ ap (λ firsts. unwrap_or (slice_get firsts c.args.cell) c.args.cell) (c.deref.ensures.value ∙ c.self.invariant.firsts)
      ∙ ap (λ (cached : CachedData). source_of (plan_in cached) c.args.cell) c.self.view_is

pub touch-requires : goal.touch-requires
touch-requires c =
    let plan : List Site = plan_in c.args.self.now in
    omega (
      arith,
      source ((goal.at.touch-requires c).After-source_of-source),
      source_low plan c.args.cell,
      c.requires,
    )

pub returns : goal.returns
returns c =
    let touched = c.touch.ensures in
    let later = c.touch.new.self in
    let plan : List Site = plan_in later in
    let is : c.source_of-source.result ≡ source_of plan c.args.cell =
    source ((goal.at.returns c).After-source_of-source)
    ∙ ap (λ flat. source_of (plan_of flat) c.args.cell) (sym touched.flat) in
    record {
      flat = touched.flat;
      truths = touched.truths;
      seen = touched.seen;
      this = λ node kind there k d inside in_it.
          ap (is_touched later) (begin_there plan (flat_sound later.flat) c.args.cell node kind there k d inside in_it ∙ sym is)
          ∙ touched.this;
      others = touched.others;
      owed = omega (
        arith,
        touched.owed,
        ap (cost (plan_in c.args.self.now)) (source ((goal.at.returns c).After-source_of-source)),
      );
    }
