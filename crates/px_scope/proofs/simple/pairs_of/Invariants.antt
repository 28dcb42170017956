use Rattle.std.proofs.Common.{◌≡◌, map, take}
use Rattle.px_syntax.specs.Block.{pair_data as text_pair}
use Rattle.px_core.specs.Plan.{pair_data}
use Rattle.px_scope.specs.Actions.{pair_of}
use Rattle.px_scope.proofs.simple.pairs_of.Given as goal

abbrev pub invariant-loop-pair : goal.invariant-loop-pair
invariant-loop-pair l = map pair_data l.made.items ≡ map (λ pair. pair_of l.scope (text_pair pair)) (take l.pair-index l.pairs)
