use Rattle.std.proofs.Common.{◌∷◌, [], List, map, ap, ◌∙◌}
use Rattle.std.proofs.lemmas.List.{map-append}
use Rattle.px_syntax.specs.Block.{variable_data}
use Rattle.px_syntax.specs.BlockFaults.{visible_as}
use Rattle.px_syntax.specs.declared.block.Variable.{Variable}
use Rattle.px_check.specs.Scope.{with_variables}
use Rattle.px_check.proofs.Seeing.{more_visible}
use Rattle.px_check.proofs.scope.Scope.declare_variables.Goals as goal

pub loop-variable-preserved : goal.loop-variable-preserved
loop-variable-preserved c =
    let visible = visible_as c.args.of_type in
    more_visible (λ (variables : List Variable). map visible (map variable_data variables))
    (λ variable. visible (variable_data variable) ∷ [])
    c.loop-variable.rest.now c.in-Some.others.now c.in-Some.variable.now c.loop-variable.self c.declare.new.self
    (λ xs x. ap (map visible) (map-append variable_data xs (x ∷ []))
    ∙ map-append visible (map variable_data xs) (variable_data x ∷ []))
    c.in-Some.ensures.cases.0
    (c.in_ok-declare.ensures
    ∙ ap (λ is_array. with_variables (record {
      name = c.in-Some.variable.now.name.name;
      of_type = c.args.of_type;
      is_array = is_array;
    } ∷ []) c.loop-variable.self) c.is_some.ensures)
    ∙ c.loop-variable.invariant
