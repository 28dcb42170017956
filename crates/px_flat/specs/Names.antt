-- The plan whose names these are.
use Rattle.std.specs.Prelude.{List}
use Rattle.px_core.specs.Plan.{Site}
use Rattle.px_flat.specs.declared.names.Names.{Names}
use Rattle.px_flat.specs.Rows.{sites_of}

-- its nodes in preorder
abbrev pub plan_in : Names → List Site
plan_in names = sites_of names.rows.items
