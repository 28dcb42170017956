use Rattle.std.proofs.Common.{take}
use Rattle.px_parts.specs.Parts.{plan_in}
use Rattle.px_machine.specs.Noticing.{HaveNotedCells}
use Rattle.px_machine.proofs.noticing.note_cells.Given as goal

-- of the cells so far
abbrev pub invariant-loop-cell : goal.invariant-loop-cell
invariant-loop-cell l = HaveNotedCells (plan_in l.parts) l.initial.kept l.kept (take l.cell-index l.news)
