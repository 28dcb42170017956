use Rattle.std.proofs.Common.{ap, ◌∙◌}
use Rattle.px_flat.specs.Flat.{plan_of}
use Rattle.px_cached.specs.Cached.{present_in}
use Rattle.px_flat_tests.proofs.Seeing.{just_seen}
use Rattle.px_flat_tests.proofs.bench.Bench.refresh.Goals as goal

-- whatever comes of the look, all is seen behind it
pub invariant_of-self : goal.invariant_of-self
invariant_of-self c =
    let look = c.refresh-looks in
    record {
      plan = ap plan_of look.ensures.flat ∙ c.self.invariant.plan;
      cells = c.self.invariant.cells;
      unmarked = c.self.invariant.unmarked;
      few = c.self.invariant.few;
      seen = just_seen look.new.self (present_in c.self.inside.cells c.self.inside.reports) look.ensures.seen;
    }
