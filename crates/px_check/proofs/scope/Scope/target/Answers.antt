use Rattle.px_check.proofs.Acting.{target_noted}
use Rattle.px_check.proofs.scope.Scope.target.Goals as goal

pub returns-in-Some-clause-found : goal.returns-in-Some-clause-found
returns-in-Some-clause-found c =
    target_noted c.args.self.now c.args.target.now.name c.args.target.now.index c.in-Some.index _ _ _ _
    c.is_some-has_index.ensures c.in-Some.is c.named-of_type.ensures.found c.expression.ensures
