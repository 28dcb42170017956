use Rattle.std.proofs.Common.{◌≡◌, map, take, flat_map}
use Rattle.px_syntax.specs.Plan.{declaration_data}
use Rattle.px_check.specs.Globals.{callable_data, declared_as}
use Rattle.px_check.proofs.globals.callables.Given as goal

abbrev pub invariant-loop-declaration : goal.invariant-loop-declaration
invariant-loop-declaration l =
    map callable_data l.callables.items
    ≡ flat_map (declared_as l.sort) (map declaration_data (take l.declaration-index l.declarations))
