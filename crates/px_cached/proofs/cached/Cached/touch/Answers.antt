use Rattle.std.proofs.Common.{rules, ap, arith}
use Rattle.px_flat.specs.Flat.{plan_of}
use Rattle.px_links.specs.Links.{is_absent}
use Rattle.px_cached.specs.Cached.{CachedData, due, plan_in}
use Rattle.px_cached.specs.Costs.{cost, in_all}
use Rattle.px_cached.proofs.Owing.{in_all-pushed}
use Rattle.px_cached.proofs.cached.Cached.touch.Goals as goal

pub returns : goal.returns
returns c =
    let t = c.self.inside in
    let costs = cost (plan_of t.flat.value) in
    record {
      flat = search rules;
      truths = search rules;
      seen = search rules;
      this = search rules;
      others = search rules;
      owed = omega (
        arith,
        in_all-pushed costs t.touched c.args.source (is_absent t.touched c.args.source) (omega (arith, c.self.invariant.touched_lists)),
        ap (in_all costs) c.push_back_absent.ensures.links,
        ap due c.self.view_is,
        ap (λ (cached : CachedData). cost (plan_in cached) c.args.source) c.self.view_is,
      );
    }
