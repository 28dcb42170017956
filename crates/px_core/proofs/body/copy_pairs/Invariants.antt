use Rattle.std.proofs.Common.{◌≡◌, take, map}
use Rattle.px_core.specs.Plan.{pair_data}
use Rattle.px_core.proofs.body.copy_pairs.Given as goal

abbrev pub invariant-loop-pair : goal.invariant-loop-pair
invariant-loop-pair l = map pair_data l.copies.items ≡ map pair_data (take l.pair-index l.pairs)
