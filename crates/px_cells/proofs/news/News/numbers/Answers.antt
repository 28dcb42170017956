use Rattle.std.proofs.Common.{◌<◌, All, subst}
use Rattle.px_cells.specs.News.{NewsData}
use Rattle.px_cells.proofs.Flagging.{all_below}
use Rattle.px_cells.proofs.news.News.numbers.Goals as goal

pub returns-clause-within : goal.returns-clause-within
returns-clause-within c = subst (λ (now : NewsData). All (λ at. at < now.count) c.deref.result.now) c.self.view_is
    (rw (c.deref.ensures.value) (all_below c.self.inside.is_noted.items c.self.inside.numbers.items c.self.invariant.flags))
