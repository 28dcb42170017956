use Rattle.std.proofs.Common.{◌∙◌, ◌++◌, map, ap, sym}
use Rattle.std.proofs.lemmas.List.{take_all}
use Rattle.std.proofs.lemmas.Simd.{map-map}
use Rattle.px_syntax.specs.Block.{variable_data as text_variable}
use Rattle.px_core.specs.Plan.{variable_data}
use Rattle.px_scope.specs.Items.{variable_of}
use Rattle.px_scope.proofs.items.add_variables.Goals as goal

pub returns-after-loop-variable : goal.returns-after-loop-variable
returns-after-loop-variable c =
    let of_type = c.in-Variables.of_type in
    let listed = c.deref-variable-items.result.now in
    let variables = c.in-Variables.variables.items in
    let before = map variable_data c.args.made.now.items in
    rw c.in-Variables.is
    (c.loop-variable.invariant
    ∙ ap (λ some. before ++ map (λ variable. variable_of of_type (text_variable variable)) some)
    (take_all c.loop-variable.variable-index listed c.loop-variable-test.false ∙ c.deref-variable-items.ensures.value)
    ∙ ap (λ some. before ++ some) (sym (map-map (variable_of of_type) text_variable variables)))
