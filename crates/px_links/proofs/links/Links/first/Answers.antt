use Rattle.std.proofs.Common.{◌≡◌, Some, IfSome, sym, subst}
use Rattle.px_links.specs.Links.{holder_of, rest_of}
use Rattle.px_links.specs.Lists.{nth}
use Rattle.px_links.proofs.Reading.{first_is}
use Rattle.px_links.proofs.Walking.{first-walk}
use Rattle.px_links.proofs.links.Links.first.Goals as goal

pub returns-clause-within : goal.returns-clause-within
returns-clause-within c = (first_is c.self.inside _ c.self.view_is c.self.invariant _ _ c.requires c.index.ensures).1

pub returns-clause-holder : goal.returns-clause-holder
returns-clause-holder c = subst (λ first. IfSome first (λ cell. holder_of c.args.self.now cell ≡ Some c.args.list))
    (sym (first_is c.self.inside _ c.self.view_is c.self.invariant _ _ c.requires c.index.ensures).0)
    (first-walk c.self.inside c.args.self.now c.self.view_is c.self.invariant c.args.list).0

pub returns-clause-walk : goal.returns-clause-walk
returns-clause-walk c = subst (λ first. rest_of c.args.self.now first ≡ nth c.args.self.now.lists c.args.list)
    (sym (first_is c.self.inside _ c.self.view_is c.self.invariant _ _ c.requires c.index.ensures).0)
    (first-walk c.self.inside c.args.self.now c.self.view_is c.self.invariant c.args.list).1
