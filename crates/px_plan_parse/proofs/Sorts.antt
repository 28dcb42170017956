-- The sorts of body: with what start each begins, and which trees are of it.
use Rattle.std.proofs.Common.{Option, Some, None}
use Rattle.px_syntax.specs.Block as trees
use Rattle.px_syntax.specs.Block.{BodyTree}
use Rattle.px_plan_parse.specs.declared.start.Start.{Start}
use Rattle.px_plan_parse.specs.declared.start.Start.TheVariants as starts
use Rattle.px_plan_parse.specs.Tail.{test}

-- Named: what begins with a name, which is an assignment or a call
pub data Sort : Type 0 where
  Named : Sort
  Inner : Sort
  Update : Sort
  If : Sort
  While : Sort
  For : Sort

abbrev pub sort_of : Start → Option Sort
sort_of starts.Name = Some Named
sort_of (starts.Form form) = Some Inner
sort_of starts.Brace = Some Inner
sort_of starts.Update = Some Update
sort_of starts.If = Some If
sort_of starts.While = Some While
sort_of starts.For = Some For
sort_of start = None

abbrev pub tree_sort : BodyTree → Sort
tree_sort (trees.Inner tree) = Inner
tree_sort (trees.Update token pairs) = Update
tree_sort (trees.If first others last) = If
tree_sort (trees.While parts) = While
tree_sort (trees.For variable first test step parts) = For
tree_sort tree = Named
