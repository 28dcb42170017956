use Rattle.std.proofs.Common.{◌≡◌, map, drop, flat_map}
use Rattle.px_syntax.specs.Block.{pair_data}
use Rattle.px_syntax.specs.Tolerances.{pair_tolerances}
use Rattle.px_check.specs.Tolerances.{met_all}
use Rattle.px_check.proofs.tolerances.Tolerances.pairs.Given as goal

abbrev pub invariant-loop-pair : goal.invariant-loop-pair
invariant-loop-pair l =
    met_all l.self (flat_map pair_tolerances (map pair_data (drop l.pair-index l.pairs)))
    ≡ met_all l.initial.self (flat_map pair_tolerances (map pair_data l.pairs))
