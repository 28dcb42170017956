use Rattle.std.proofs.Common.{◌≡◌, ◌++◌, [], map, take, flat_map}
use Rattle.px_syntax.specs.Plan.{declaration_data}
use Rattle.px_print.specs.BlockLayout.{line}
use Rattle.px_print.specs.Layout.{declaration_text}
use Rattle.px_print.proofs.plan.push_declarations.Given as goal

abbrev pub invariant-loop-declaration : goal.invariant-loop-declaration
invariant-loop-declaration l =
    l.out.items
    ≡ l.initial.out.items
    ++ flat_map (λ declaration. line [] (declaration_text declaration)) (map declaration_data (take l.declaration-index l.declarations))
