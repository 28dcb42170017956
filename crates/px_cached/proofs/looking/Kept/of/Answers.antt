use Rattle.std.proofs.Common.{rules, ◌≡◌, length, ap, arith}
use Rattle.px_flat.specs.Flat.{plan_of}
use Rattle.px_cached.specs.Climbs.{climb}
use Rattle.px_cached.specs.Costs.{up_to}
use Rattle.px_cached.proofs.Costing.{parts_cost}
use Rattle.px_cached.proofs.looking.Kept.of.Goals as goal

pub returns-clause-owed : goal.returns-clause-owed
returns-clause-owed c =
    let network = c.in_ok-network.network in
    let climbs = climb network.above.items in
    let long : c.len-2.result ≡ length network.parts.items = search rules in
    omega (
      arith,
      ap (up_to climbs) long,
      c.in_ok-stale.ensures.owed climbs,
      parts_cost (plan_of c.args.flat.now) network.parts.items network.above.items network.roots.items c.in_ok-network.ensures,
    )
