use Rattle.std.proofs.Common.{◌+◌, ◌<◌, ◌++◌, ◌∷◌, [], take, append_assoc, ap, sym, ◌∙◌, arith}
use Rattle.std.proofs.lemmas.List.{take_all}
use Rattle.px_core.proofs.Cells.{cells_are}
use Rattle.px_core.specs.Fit.{cells_of}
use Rattle.px_core.specs.Plan.{variable_data}
use Rattle.px_sem.specs.Effects.{initial_values}
use Rattle.px_micro.specs.Turns.{from_cell}
use Rattle.px_micro.proofs.Initial.{as_many, initial_more}
use Rattle.px_micro.proofs.turns.push_initial.Goals as goal

pub loop-k-preserved : goal.loop-k-preserved
loop-k-preserved c =
    let variable = variable_data c.args.variable.now in
    let k = c.loop-k.k in
    let within : k < cells_of variable =
    omega (arith, cells_are variable, c.unwrap_or-k-end.ensures, c.loop-k-test.true) in
    c.in_ok-push.ensures.items
    ∙ (λ i. c.loop-k.invariant i ++ record { cell = c.args.first + k; value = c.in_ok-value.ensures i } ∷ [])
    ∙ append_assoc c.args.values.now.items (from_cell c.args.first (take k (initial_values variable))) _
    ∙ ap (λ more. c.args.values.now.items ++ more) (sym (initial_more variable c.args.first k c.requires.init within))

pub returns : goal.returns
returns c =
    let variable = variable_data c.args.variable.now in
    c.loop-k.invariant
    ∙ ap (λ some. c.args.values.now.items ++ from_cell c.args.first some) (take_all c.loop-k.k (initial_values variable)
    (omega (arith, as_many variable c.requires.init, cells_are variable, c.unwrap_or-k-end.ensures, c.loop-k-test.false)))
