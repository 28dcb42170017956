-- A table whose lists are empty.
use Rattle.std.proofs.Common.{ℕ, replicate, [], arith}
use Rattle.std.proofs.lemmas.Grind.{common_steps}
use Rattle.px_links.specs.Keeping.{absent_cell, no_ends, IsTable}

pub table-empty : (cells lists : ℕ) → IsTable (replicate cells absent_cell) (replicate lists no_ends) (replicate lists [])
table-empty cells lists = grind (arith, common_steps)
