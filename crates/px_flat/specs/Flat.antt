-- The plan that tables stand for.
use Rattle.std.specs.Prelude.{List}
use Rattle.px_core.specs.Plan.{Site}
use Rattle.px_flat.specs.declared.flat.Flat.{Flat}
use Rattle.px_flat.specs.Names.{plan_in}

-- its nodes in preorder, by which each number, place and row is defined
abbrev pub plan_of : Flat → List Site
plan_of flat = plan_in flat.names
