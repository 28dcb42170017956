-- What cells are to contracts: values by number, and what a mark keeps of them.
use Rattle.px_value.specs.declared.value.Value.{Value}
use Rattle.px_cells.specs.Marked as marked

abbrev pub Contents : Type 0
Contents = marked.Contents Value

abbrev pub CellsData : Type 0
CellsData = marked.MarkedData Value
