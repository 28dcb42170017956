use Rattle.px_links.proofs.Pushing.{table_with}
use Rattle.px_links.proofs.Tables.{last_within}
use Rattle.px_links.proofs.cell.link_last.Goals as goal

pub set_next-requires : goal.set_next-requires
set_next-requires c = last_within _ _ _ c.requires.table c.args.list

pub returns : goal.returns
returns c = rw (c.set_next.ensures, c.or.ensures) (table_with _ _ _ c.requires.table c.args.list c.args.cell c.requires.list
    c.requires.cell c.requires.absent)
