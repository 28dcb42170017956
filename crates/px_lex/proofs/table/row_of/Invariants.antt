use Rattle.std.proofs.Common.{◌≡◌, length, map}
use Rattle.px_lex.specs.Table.{row_of}
use Rattle.px_lex.proofs.table.row_of.Given as goal

abbrev pub invariant-loop-table : goal.invariant-loop-table
invariant-loop-table g l = row_of (map (λ row. (row.0.now, row.1)) l.table) l.spelling ≡ row_of (map (λ row. (row.0.now, row.1)) l.initial.table) l.spelling

abbrev pub decreases-loop-table : goal.decreases-loop-table
decreases-loop-table g l = length l.table
