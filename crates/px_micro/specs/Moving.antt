-- What a step leaves in the cells and in what is under way.
use Rattle.std.specs.Prelude.{ℕ, false, List, set}
use Rattle.px_value.specs.declared.value.Value.{Value}
use Rattle.px_value.specs.declared.value.Value.TheVariants as values
use Rattle.px_core.specs.Plan.{Site}
use Rattle.px_sem.specs.Expressions.{outcome_value, failure_value}
use Rattle.px_flat.specs.declared.act.Abort.TheVariants as aborts
use Rattle.px_flat.specs.declared.act.Act.{Act}
use Rattle.px_flat.specs.declared.act.Act.TheVariants as acts
use Rattle.px_flat.specs.Layout.{state_cell, outcome_cell, failure_cell, handle_cell, acknowledgement_cell}
use Rattle.px_micro.specs.declared.effects.CellWrite.{CellWrite}
use Rattle.px_micro.specs.declared.effects.UnderWay.{UnderWay}
use Rattle.px_micro.specs.declared.effects.UnderWay.TheVariants as under_way
use Rattle.px_micro.specs.declared.turns.CellValue.{CellValue}
use Rattle.px_micro.specs.declared.turns.Turn.{Turn}

-- a write
abbrev pub put_write : List Value → CellWrite → List Value
put_write cells write = set cells write.cell write.value

-- a value into its cell
abbrev pub put_value : List Value → CellValue → List Value
put_value cells given = set cells given.cell given.value

-- nothing was said so far of what begins
abbrev pub with_said : List Site → ℕ → UnderWay → List Value → List Value
with_said plan node (under_way.Begun act) cells =
    set (set cells (handle_cell plan node) values.Unknown) (acknowledgement_cell plan node) (values.Boolean false)
with_said plan node way cells = cells

-- where a node arrives
abbrev pub arrived : List Site → List Value → Turn → List Value
arrived plan cells turn =
    set (set (set cells (state_cell plan turn.going.node) (values.State turn.going.arrival.to))
    (outcome_cell plan turn.going.node) (outcome_value turn.going.arrival.outcome))
    (failure_cell plan turn.going.node) (failure_value turn.going.arrival.failure)

-- the cells of a node itself
abbrev pub with_turn : List Site → List Value → Turn → List Value
with_turn plan cells turn = with_said plan turn.going.node turn.under_way (arrived plan cells turn)

-- what a node has under way
abbrev pub with_act : ℕ → UnderWay → List Act → List Act
with_act node under_way.Kept under = under
with_act node (under_way.Begun act) under = set under node act
with_act node (under_way.Aborting index) under = set under node (acts.Sent index aborts.Sent)

abbrev pub with_turn_act : List Act → Turn → List Act
with_turn_act under turn = with_act turn.going.node turn.under_way under
