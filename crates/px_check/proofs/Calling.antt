-- Which types the arguments of a call may have.
use Rattle.std.proofs.Common.{◌≡◌, ℕ, ◌<◌, List, drop, length, get_or, ap, sym, ◌∙◌}
use Rattle.std.proofs.lemmas.List.{drop-map, drop_more}
use Rattle.px_syntax.specs.Scope.{parameter_types}
use Rattle.px_syntax.specs.ValueType.{named_type, allowed_as}
use Rattle.px_syntax.specs.declared.plan.Parameter.{Parameter}
use Rattle.px_check.specs.Arguments.{allowed_next}

pub allowed_by : (parameters : List Parameter) (place : ℕ) (parameter : Parameter) → place < length parameters
    → parameter ≡ get_or parameters place parameter
    → allowed_as (named_type parameter.of_type) ≡ allowed_next (drop place (parameter_types parameters))
allowed_by parameters place parameter within is =
    ap (λ (known : Parameter). allowed_as (named_type known.of_type)) is
    ∙ sym (ap (λ left. allowed_next (parameter_types left)) (drop_more parameters place parameter within))
    ∙ ap allowed_next (sym (drop-map (λ (known : Parameter). named_type known.of_type) place parameters))
