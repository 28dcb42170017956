use Rattle.std.proofs.Common.{◌≡◌, ◌++◌, codes, take, flat_map}
use Rattle.px_print.specs.Layout.{parameter_text}
use Rattle.px_print.proofs.plan.push_further.Given as goal

abbrev pub invariant-loop-parameter : goal.invariant-loop-parameter
invariant-loop-parameter l =
    l.out.items
    ≡ l.initial.out.items
    ++ flat_map (λ parameter. codes ", " ++ parameter_text parameter) (take l.parameter-index l.parameters)
