use Rattle.std.proofs.Common.{false, subst}
use Rattle.std.proofs.lemmas.List.{get_or_default}
use Rattle.px_cached.specs.Watching.{HasTold}
use Rattle.px_cached.proofs.crossing.crossed_to.Goals as goal

pub returns-else-not-has_told-clause-told : goal.returns-else-not-has_told-clause-told
returns-else-not-has_told-clause-told c = λ inside d.
    subst (HasTold c.args.asker.now c.args.stale.now false) (get_or_default c.args.watchers.now c.loop-to.to _ d inside)
    (c.has_told.ensures c.if-not-has_told.false)
