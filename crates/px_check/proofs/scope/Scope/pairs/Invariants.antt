use Rattle.std.proofs.Common.{◌≡◌, map, drop, flat_map}
use Rattle.px_syntax.specs.Block.{pair_data}
use Rattle.px_syntax.specs.ExprFaults.{faults_as}
use Rattle.px_syntax.specs.ValueType.{told_types}
use Rattle.px_check.specs.Found.{noted}
use Rattle.px_check.proofs.scope.Scope.pairs.Given as goal

abbrev pub invariant-loop-pair : goal.invariant-loop-pair
invariant-loop-pair l =
    noted l.found (flat_map (λ pair. faults_as told_types l.self pair.value) (map pair_data (drop l.pair-index l.pairs)))
    ≡ noted l.initial.found (flat_map (λ pair. faults_as told_types l.self pair.value) (map pair_data l.pairs))
