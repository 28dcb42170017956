-- The plan whose nodes an index of kinds is of.
use Rattle.std.specs.Prelude.{List}
use Rattle.px_core.specs.Plan.{Site, tree_of, sites}
use Rattle.px_script.specs.declared.kinds.Kinds.{Kinds}

abbrev pub plan_of : Kinds → List Site
plan_of kinds = sites (tree_of kinds.plan.value)
