use Rattle.std.proofs.Common.{sym, ◌∙◌}
use Rattle.px_sem.specs.Table.{stop_rows, wind_down_rows}
use Rattle.px_tables.proofs.FirstRows.{first_row-append}
use Rattle.px_tables.proofs.rows.from_finishing.Goals as goal

pub returns : goal.returns
returns c =
    c.or.ensures ∙ rw (c.stop.ensures, c.wind_down.ensures) (sym (first_row-append (stop_rows c.args.g.now) (wind_down_rows c.args.kind c.args.g.now)))
