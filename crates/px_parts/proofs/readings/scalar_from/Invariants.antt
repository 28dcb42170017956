use Rattle.px_parts.proofs.Scalars.{AreSought}
use Rattle.px_parts.proofs.readings.scalar_from.Given as goal

abbrev pub invariant-loop-variable : goal.invariant-loop-variable
invariant-loop-variable l = AreSought l.variables l.first l.name l.variable-index l.cell
