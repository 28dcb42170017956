-- What actions are to contracts: what each node has under way, and what a mark keeps of it.
use Rattle.px_cells.specs.Marked.{MarkedData}
use Rattle.px_flat.specs.declared.act.Act.{Act}

abbrev pub ActionsData : Type 0
ActionsData = MarkedData Act
