use Rattle.std.proofs.Common.{◌≡◌, map, take}
use Rattle.px_core.specs.declared.body.Pair.{Pair}
use Rattle.px_micro.proofs.starting.names_of.Given as goal

abbrev pub invariant-loop-pair : goal.invariant-loop-pair
invariant-loop-pair l = l.names.items ≡ map (λ (pair : Pair). pair.name) (take l.pair-index l.pairs)
