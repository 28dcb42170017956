use Rattle.std.proofs.Common.{◌≡◌, Some, IfSome, sym, subst}
use Rattle.px_links.specs.Links.{holder_of}
use Rattle.px_links.proofs.Reading.{last_is}
use Rattle.px_links.proofs.Walking.{last-held}
use Rattle.px_links.proofs.links.Links.last.Goals as goal

pub returns-clause-answer : goal.returns-clause-answer
returns-clause-answer c = (last_is c.self.inside _ c.self.view_is c.self.invariant _ _ c.requires c.index.ensures).0

pub returns-clause-within : goal.returns-clause-within
returns-clause-within c = (last_is c.self.inside _ c.self.view_is c.self.invariant _ _ c.requires c.index.ensures).1

pub returns-clause-holder : goal.returns-clause-holder
returns-clause-holder c = subst (λ last. IfSome last (λ cell. holder_of c.args.self.now cell ≡ Some c.args.list))
    (sym (returns-clause-answer c))
    (last-held c.self.inside c.args.self.now c.self.view_is c.self.invariant c.args.list)
