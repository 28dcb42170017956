use Rattle.std.proofs.Common.{◌≡◌, drop}
use Rattle.px_sem.specs.Table.{first_row}
use Rattle.px_tables.proofs.rows.first_row.Given as goal

abbrev pub invariant-loop-holds : goal.invariant-loop-holds
invariant-loop-holds l = first_row l.fn.rows ≡ first_row (drop l.holds-index l.fn.rows)
