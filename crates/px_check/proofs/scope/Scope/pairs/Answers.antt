use Rattle.std.proofs.Common.{List, map, flat_map, refl, ◌∙◌}
use Rattle.px_syntax.specs.Block.{pair_data}
use Rattle.px_syntax.specs.ExprFaults.{faults_as}
use Rattle.px_syntax.specs.ValueType.{told_types}
use Rattle.px_syntax.specs.declared.block.Pair.{Pair}
use Rattle.px_check.proofs.Walking.{part_walked, all_walked}
use Rattle.px_check.proofs.scope.Scope.pairs.Goals as goal

pub loop-pair-preserved : goal.loop-pair-preserved
loop-pair-preserved c =
    part_walked (λ (left : List Pair). flat_map (λ pair. faults_as told_types c.args.self.now pair.value) (map pair_data left))
    (λ (pair : Pair). faults_as told_types c.args.self.now (pair_data pair).value) (λ _ _. refl) c.args.pairs.now c.loop-pair.pair-index c.pair-item.result _ _
    c.loop-pair-test.true c.pair-item.is c.expression.ensures
    ∙ c.loop-pair.invariant

pub returns : goal.returns
returns c =
    all_walked (λ (left : List Pair). flat_map (λ pair. faults_as told_types c.args.self.now pair.value) (map pair_data left))
    c.args.pairs.now c.loop-pair.pair-index c.loop-pair.found refl c.loop-pair-test.false
    ∙ c.loop-pair.invariant
