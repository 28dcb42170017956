use Rattle.std.proofs.Common.{◌≡◌, ◌++◌, map, flat_map, vec_len}
use Rattle.px_syntax.specs.Plan.{declaration_data}
use Rattle.px_check.specs.Globals.{callable_data, callables_data, by_name, declared_as}
use Rattle.px_check.proofs.globals.by_name.Given as goal

abbrev pub invariant-loop-callable : goal.invariant-loop-callable
invariant-loop-callable l =
    by_name (map callable_data l.callables.items) ++ callables_data l.named
    ≡ by_name (flat_map (declared_as l.fn.sort) (map declaration_data l.declarations))

abbrev pub decreases-loop-callable : goal.decreases-loop-callable
decreases-loop-callable l = vec_len l.callables
