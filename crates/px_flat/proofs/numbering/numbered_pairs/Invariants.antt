use Rattle.std.proofs.Common.{◌≡◌, map, take}
use Rattle.px_core.specs.Plan.{pair_data}
use Rattle.px_flat.specs.Names.{plan_in}
use Rattle.px_flat.specs.Numbered.{numbered}
use Rattle.px_flat.specs.NumberedData.{expr_data}
use Rattle.px_flat.proofs.numbering.numbered_pairs.Given as goal

abbrev pub invariant-loop-pair : goal.invariant-loop-pair
invariant-loop-pair l = map expr_data l.made.items
    ≡ map (λ pair. numbered (plan_in l.names) pair.value) (map pair_data (take l.pair-index l.pairs))
