use Rattle.std.proofs.Common.{sym, ◌∙◌, ◌∷◌, []}
use Rattle.px_sem.specs.Table.{stop_rows_of, end_row}
use Rattle.px_tables.proofs.FirstRows.{first_row-append}
use Rattle.px_tables.proofs.rows.from_executing.Goals as goal

pub returns : goal.returns
returns c =
    c.or.ensures ∙ rw (c.stop_of.ensures, c.first_row.ensures, c.end_row.ensures)
    (sym (first_row-append (stop_rows_of c.args.kind c.args.g.now) (end_row c.args.kind c.args.g.now ∷ [])))
