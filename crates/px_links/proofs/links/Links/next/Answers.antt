use Rattle.std.proofs.Common.{◌≡◌, ◌∷◌, Some, IfSome, IsSome, sym, subst}
use Rattle.px_links.specs.Links.{holder_of, rest_of}
use Rattle.px_links.proofs.Reading.{next_is}
use Rattle.px_links.proofs.Walking.{next-walk}
use Rattle.px_links.proofs.links.Links.next.Goals as goal

pub returns-clause-answer : goal.returns-clause-answer
returns-clause-answer c = (next_is c.self.inside _ c.self.view_is c.self.invariant _ _ c.requires c.index.ensures).0

pub returns-clause-within : goal.returns-clause-within
returns-clause-within c = (next_is c.self.inside _ c.self.view_is c.self.invariant _ _ c.requires c.index.ensures).1

pub returns-clause-holder : goal.returns-clause-holder
returns-clause-holder c =
    subst (λ next. IfSome next (λ other. holder_of c.args.self.now other ≡ holder_of c.args.self.now c.args.cell))
    (sym (returns-clause-answer c))
    (next-walk c.self.inside c.args.self.now c.self.view_is c.self.invariant c.args.cell).0

pub returns-clause-walk : goal.returns-clause-walk
returns-clause-walk c =
    subst (λ next. IsSome (holder_of c.args.self.now c.args.cell)
    → rest_of c.args.self.now (Some c.args.cell) ≡ c.args.cell ∷ rest_of c.args.self.now next)
    (sym (returns-clause-answer c))
    (next-walk c.self.inside c.args.self.now c.self.view_is c.self.invariant c.args.cell).1
