use Rattle.std.proofs.Common.{ap, ◌∙◌}
use Rattle.px_syntax.specs.Expr.{term_of}
use Rattle.px_syntax.specs.ExprFaults.{faults_as}
use Rattle.px_syntax.specs.ValueType.{allowed_as}
use Rattle.px_check.specs.Found.{noted}
use Rattle.px_check.proofs.Noting.{noted_then}
use Rattle.px_check.proofs.scope.Scope.assign.Goals as goal

pub returns : goal.returns
returns c =
    noted_then _ c.target-of_type.new.found _ _ _ c.target-of_type.ensures.found
    (c.expression.ensures
    ∙ ap (λ of_type. noted c.target-of_type.new.found (faults_as (allowed_as of_type) c.args.self.now (term_of c.args.value.now)))
    c.target-of_type.ensures.of_type)
