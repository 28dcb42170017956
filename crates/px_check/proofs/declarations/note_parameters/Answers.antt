use Rattle.std.proofs.Common.{List, map, length, flat_map, refl, ◌∙◌}
use Rattle.px_syntax.specs.ExprFaults.{over_eight}
use Rattle.px_syntax.specs.Scope.{Global}
use Rattle.px_check.specs.Globals.{callable_data}
use Rattle.px_check.specs.declared.globals.Callable.{Callable}
use Rattle.px_check.proofs.Declaring.{counted_parameters}
use Rattle.px_check.proofs.Walking.{part_walked, all_walked}
use Rattle.px_check.proofs.declarations.note_parameters.Goals as goal

pub loop-callable-preserved : goal.loop-callable-preserved
loop-callable-preserved c =
    part_walked (λ (left : List Callable). flat_map (λ (global : Global). over_eight (length global.parameters) global.name.token)
    (map callable_data left))
    (λ (callable : Callable). over_eight (length (callable_data callable).parameters) callable.name.now.token) (λ _ _. refl)
    c.args.callables.now c.loop-callable.callable-index c.callable-item.result _ _ c.loop-callable-test.true c.callable-item.is
    (counted_parameters c.callable-item.result c.loop-callable.found _ c.note_where.ensures)
    ∙ c.loop-callable.invariant

pub returns : goal.returns
returns c =
    all_walked (λ (left : List Callable). flat_map (λ (global : Global). over_eight (length global.parameters) global.name.token)
    (map callable_data left))
    c.args.callables.now c.loop-callable.callable-index c.loop-callable.found refl c.loop-callable-test.false
    ∙ c.loop-callable.invariant
