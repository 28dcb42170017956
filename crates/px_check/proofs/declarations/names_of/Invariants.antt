use Rattle.std.proofs.Common.{◌≡◌, map, take}
use Rattle.px_check.specs.Globals.{callable_data}
use Rattle.px_check.proofs.declarations.names_of.Given as goal

abbrev pub invariant-loop-callable : goal.invariant-loop-callable
invariant-loop-callable l =
    map (λ name. name.now) l.names.items
    ≡ map (λ global. global.name) (map callable_data (take l.callable-index l.callables))
