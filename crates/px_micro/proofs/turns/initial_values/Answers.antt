use Rattle.std.proofs.Common.{◌+◌, ◌++◌, ap, sym, ◌∙◌, arith}
use Rattle.px_core.proofs.Cells.{cells_are}
use Rattle.px_core.specs.Plan.{variable_data}
use Rattle.px_sem.specs.Effects.{initial_values}
use Rattle.px_flat.proofs.Tables.{flat_sound}
use Rattle.px_parts.specs.Parts.{plan_in}
use Rattle.px_micro.specs.Turns.{from_cell}
use Rattle.px_micro.proofs.Initial.{IsNext, next_variable, next_cell, values_more}
use Rattle.px_micro.proofs.turns.initial_values.Goals as goal

-- the variable before its values
next : (c : goal.After-values-1) → IsNext (plan_in c.args.parts.now) c.args.node c.loop-variable.variable-index
    c.loop-variable.cell (variable_data c.variable-item.result)
next c =
    next_variable _ _ _ _ _ _ _ (flat_sound c.args.parts.now.flat) c.requires.node c.row.ensures
    c.deref-variable-items.ensures.value c.loop-variable-test.true c.variable-item.is c.loop-variable.invariant.cell

-- and with them
this : (c : goal.After-unwrap_or-cell) → IsNext (plan_in c.args.parts.now) c.args.node c.loop-variable.variable-index
    c.loop-variable.cell (variable_data c.variable-item.result)
this c =
    next_variable _ _ _ _ _ _ _ (flat_sound c.args.parts.now.flat) c.requires.node c.row.ensures
    c.deref-variable-items.ensures.value c.loop-variable-test.true c.variable-item.is c.loop-variable.invariant.cell

pub push_initial-requires-clause-init : goal.push_initial-requires-clause-init
push_initial-requires-clause-init c = (next c).right

pub push_initial-requires-clause-cells : goal.push_initial-requires-clause-cells
push_initial-requires-clause-cells c = omega (arith, (next c).small)

pub overflow_add-cell : goal.overflow_add-cell
overflow_add-cell c =
    omega (arith, (this c).small, cells_are (variable_data c.variable-item.result), c.unwrap_or-cell.ensures)

pub loop-variable-preserved : goal.loop-variable-preserved
loop-variable-preserved c =
    let plan = plan_in c.args.parts.now in
    let node = c.args.node in
    let i = c.loop-variable.variable-index in
    let variable = variable_data c.variable-item.result in
    record {
      values = c.in_ok-push_initial.ensures
          ∙ ap (λ before. before ++ from_cell c.loop-variable.cell (initial_values variable)) c.loop-variable.invariant.values
          ∙ sym (values_more plan node i c.loop-variable.cell variable (flat_sound c.args.parts.now.flat) c.requires.node (this c)
          c.loop-variable.invariant.cell);
      cell = ap (λ n. c.loop-variable.cell + n) (c.unwrap_or-cell.ensures ∙ sym (cells_are variable))
          ∙ next_cell plan node i c.loop-variable.cell variable (this c) c.loop-variable.invariant.cell;
    }
