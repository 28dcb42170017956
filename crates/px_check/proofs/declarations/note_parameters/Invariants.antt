use Rattle.std.proofs.Common.{◌≡◌, map, drop, length, flat_map}
use Rattle.px_syntax.specs.ExprFaults.{over_eight}
use Rattle.px_check.specs.Found.{noted}
use Rattle.px_check.specs.Globals.{callable_data}
use Rattle.px_check.proofs.declarations.note_parameters.Given as goal

abbrev pub invariant-loop-callable : goal.invariant-loop-callable
invariant-loop-callable l =
    noted l.found (flat_map (λ global. over_eight (length global.parameters) global.name.token)
    (map callable_data (drop l.callable-index l.callables)))
    ≡ noted l.initial.found (flat_map (λ global. over_eight (length global.parameters) global.name.token)
    (map callable_data l.callables))
