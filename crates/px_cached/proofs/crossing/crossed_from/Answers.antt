use Rattle.std.proofs.Common.{◌≡◌, ◌-◌, ◌<◌, true, length, get_or, subst, arith}
use Rattle.std.proofs.lemmas.List.{get_or_default}
use Rattle.px_cached.specs.Watching.{HasTold}
use Rattle.px_cached.proofs.crossing.crossed_from.Goals as goal

pub returns-else-not-has_told-clause-told : goal.returns-else-not-has_told-clause-told
returns-else-not-has_told-clause-told c = λ at is d.
    let watchers = c.args.watchers.now in
    let from = c.loop-from.from in
    let here : from - 1 ≡ at = omega arith in
    let inside : from - 1 < length watchers = omega arith in
    subst (λ at. HasTold c.args.asker.now c.args.stale.now true (get_or watchers at d)) here
    (subst (HasTold c.args.asker.now c.args.stale.now true) (get_or_default watchers (from - 1) _ d inside)
    (c.has_told.ensures c.if-not-has_told.false))
