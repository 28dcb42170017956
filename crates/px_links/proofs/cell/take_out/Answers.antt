use Rattle.px_links.specs.Keeping.{cell_at}
use Rattle.px_links.proofs.Tables.{length-next}
use Rattle.px_links.proofs.Unlinking.{list_there, on_within, back_within, table_without}
use Rattle.px_links.proofs.cell.take_out.Goals as goal

pub set_next-requires : goal.set_next-requires
set_next-requires c = back_within _ _ _ c.requires.table c.args.list c.args.cell c.requires.held

pub set_before-requires : goal.set_before-requires
set_before-requires c =
    let at = cell_at c.args.cells.now c.args.cell in
    rw (c.set_next.ensures, length-next at.before at.next c.args.cells.now)
    (on_within _ _ _ c.requires.table c.args.list c.args.cell c.requires.held)

pub bounds-ends-list : goal.bounds-ends-list
bounds-ends-list c = list_there _ _ _ c.requires.table c.args.list c.args.cell c.requires.held

pub bounds-ends-list-2 : goal.bounds-ends-list-2
bounds-ends-list-2 c = list_there _ _ _ c.requires.table c.args.list c.args.cell c.requires.held

pub bounds-ends-list-3 : goal.bounds-ends-list-3
bounds-ends-list-3 c = list_there _ _ _ c.requires.table c.args.list c.args.cell c.requires.held

pub returns : goal.returns
returns c = rw (c.set_before.ensures, c.set_next.ensures, c.end_past.ensures, c.end_past-2.ensures) (
    table_without _ _ _ c.requires.table c.args.list c.args.cell c.requires.held)
