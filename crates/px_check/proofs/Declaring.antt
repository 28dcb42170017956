-- Declarations before the root, noted one after another.
use Rattle.std.proofs.Common.{◌≡◌, nat_lt, length, ap, sym, ◌∙◌}
use Rattle.std.proofs.lemmas.List.{length-map}
use Rattle.px_syntax.specs.ExprFaults.{over_eight}
use Rattle.px_syntax.specs.Fault.{fault_where}
use Rattle.px_syntax.specs.ValueType.{named_type}
use Rattle.px_syntax.specs.declared.fault.FaultKind.TheVariants.{TooLarge}
use Rattle.px_syntax.specs.declared.plan.Parameter.{Parameter}
use Rattle.px_check.specs.Found.{Sought, noted}
use Rattle.px_check.specs.Globals.{callable_data}
use Rattle.px_check.specs.declared.globals.Callable.{Callable}

pub counted_parameters : (callable : Callable) (found new : Sought)
    → new ≡ noted found (fault_where (nat_lt 8 (length callable.parameters.now)) TooLarge callable.name.now.token)
    → new ≡ noted found (over_eight (length (callable_data callable).parameters) callable.name.now.token)
counted_parameters callable found new own =
    own ∙ ap (λ count. noted found (over_eight count callable.name.now.token))
    (sym (length-map callable.parameters.now (λ (parameter : Parameter). named_type parameter.of_type)))
