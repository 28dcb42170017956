use Rattle.std.proofs.Common.{◌≡◌, ◌∙◌, ap}
use Rattle.px_flat.specs.Flat.{plan_of}
use Rattle.px_cached.specs.Cached.{CachedData, plan_in}
use Rattle.px_flat_tests.specs.Bench.{IsStanding}
use Rattle.px_flat_tests.proofs.Seeing.{reported_seen}
use Rattle.px_flat_tests.proofs.bench.Bench.report.Goals as goal
use Rattle.px_flat_tests.proofs.bench.Bench.report.Goals.{After-drop}

-- whether the report is taken or not: its name is touched
stands : (c : After-drop) → IsStanding (record {
  flat = c.self.inside.flat;
  cells = c.self.inside.cells;
  reports = c.take-taken.new.self;
  conditions = c.touch_reports.new.self;
})
stands c =
    let old : CachedData = c.self.inside.conditions in
    let new : CachedData = c.touch_reports.new.self in
    let plan : plan_in new ≡ plan_of c.self.inside.flat = ap plan_of c.touch_reports.ensures.flat ∙ c.self.invariant.plan in
    record {
      plan = plan;
      cells = c.self.invariant.cells;
      unmarked = c.self.invariant.unmarked;
      few = c.self.invariant.few;
      seen = reported_seen old new c.self.inside.cells.contents.values c.self.inside.reports.reports
          c.take-taken.new.self.reports c.touch_reports.ensures c.self.invariant.seen;
    }

pub invariant_of-self : goal.invariant_of-self
invariant_of-self c = stands ((goal.at.invariant_of-self c).After-drop)

pub invariant_of-self-2 : goal.invariant_of-self-2
invariant_of-self-2 c = stands ((goal.at.invariant_of-self-2 c).After-drop)
