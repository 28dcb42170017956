use Rattle.std.proofs.Common.{◌≡◌, ◌++◌, codes, map, take, flat_map}
use Rattle.px_syntax.specs.Block.{pair_data}
use Rattle.px_print.specs.BlockLayout.{pair_text}
use Rattle.px_print.proofs.action.push_further.Given as goal

abbrev pub invariant-loop-pair : goal.invariant-loop-pair
invariant-loop-pair l =
    l.out.items
    ≡ l.initial.out.items
    ++ flat_map (λ pair. codes ", " ++ pair_text pair) (map pair_data (take l.pair-index l.pairs))
