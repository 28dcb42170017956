use Rattle.std.proofs.Common.{refl, ap, ◌∙◌}
use Rattle.px_flat.specs.declared.flat.Flat.{Flat}
use Rattle.px_flat.specs.Flat.{plan_of}
use Rattle.px_machine.specs.declared.kept.Kept.{Kept}
use Rattle.px_machine.proofs.News.{refreshed}
use Rattle.px_machine.proofs.noticing.refresh.Goals as goal

pub returns-in_err-refresh-clause-refreshed : goal.returns-in_err-refresh-clause-refreshed
returns-in_err-refresh-clause-refreshed c =
    let old = c.args.kept.now in
    let new : Kept = record old { conditions = c.refresh.new.self; queue = c.refresh.new.changed } in
    refreshed c.args.parts.now old new c.requires.noticed refl
    (ap (λ (flat : Flat). plan_of flat) c.refresh.ensures.flat ∙ c.requires.noticed.right.of_plan.conditions) c.refresh.ensures.seen
    c.refresh.ensures.told

pub returns-clause-refreshed : goal.returns-clause-refreshed
returns-clause-refreshed c =
    let old = c.args.kept.now in
    let new : Kept = record old { conditions = c.refresh.new.self; queue = c.refresh.new.changed } in
    refreshed c.args.parts.now old new c.requires.noticed refl
    (ap (λ (flat : Flat). plan_of flat) c.refresh.ensures.flat ∙ c.requires.noticed.right.of_plan.conditions) c.refresh.ensures.seen
    c.refresh.ensures.told
