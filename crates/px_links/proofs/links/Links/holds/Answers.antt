use Rattle.px_links.proofs.Reading.{holder_is}
use Rattle.px_links.proofs.links.Links.holds.Goals as goal

pub returns-clause-answer : goal.returns-clause-answer
returns-clause-answer c = (holder_is c.self.inside _ c.self.view_is c.self.invariant _ _ c.requires c.index.ensures).0

pub returns-clause-within : goal.returns-clause-within
returns-clause-within c = (holder_is c.self.inside _ c.self.view_is c.self.invariant _ _ c.requires c.index.ensures).1
