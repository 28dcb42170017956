use Rattle.std.proofs.Common.{List, map, flat_map, refl, ◌∙◌}
use Rattle.px_syntax.specs.Block.{variable_data}
use Rattle.px_syntax.specs.BlockFaults.{variable_faults}
use Rattle.px_syntax.specs.ValueType.{named_type}
use Rattle.px_syntax.specs.declared.block.Variable.{Variable}
use Rattle.px_check.proofs.Walking.{part_walked, all_walked}
use Rattle.px_check.proofs.items.note_variables.Goals as goal

pub loop-variable-preserved : goal.loop-variable-preserved
loop-variable-preserved c =
    part_walked (λ (left : List Variable). flat_map (variable_faults (named_type c.args.of_type)) (map variable_data left))
    (λ (variable : Variable). variable_faults (named_type c.args.of_type) (variable_data variable)) (λ _ _. refl) c.args.variables.now c.loop-variable.variable-index c.variable-item.result _ _
    c.loop-variable-test.true c.variable-item.is c.note_variable.ensures
    ∙ c.loop-variable.invariant

pub returns : goal.returns
returns c =
    all_walked (λ (left : List Variable). flat_map (variable_faults (named_type c.args.of_type)) (map variable_data left))
    c.args.variables.now c.loop-variable.variable-index c.loop-variable.found refl c.loop-variable-test.false
    ∙ c.loop-variable.invariant
