use Rattle.std.proofs.Common.{◌≡◌, take}
use Rattle.px_flat.specs.Row.{paths_of}
use Rattle.px_flat.specs.Rows.{sites_of}
use Rattle.px_flat.proofs.names.paths_of.Given as goal

abbrev pub invariant-loop-row : goal.invariant-loop-row
invariant-loop-row l = l.paths.keys ≡ take l.row-index (paths_of (sites_of l.rows))
