use Rattle.px_cached.specs.Cached.{present_in}
use Rattle.px_flat_tests.proofs.Seeing.{just_seen}
use Rattle.px_flat_tests.proofs.bench.Bench.of.Goals as goal

pub invariant_of-result : goal.invariant_of-result
invariant_of-result c =
    let fresh = c.in-Ok.field-0 in
    record {
      plan = c.in-Ok.ensures.plan;
      cells = c.in-Ok.ensures.sized;
      unmarked = c.in-Ok.ensures.unmarked;
      few = c.in-Ok.ensures.few;
      seen = just_seen fresh.conditions (present_in fresh.cells fresh.reports) c.in-Ok.ensures.seen;
    }
