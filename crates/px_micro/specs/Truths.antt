-- The truth of each condition of a node.
use Rattle.std.specs.Prelude.{List}
use Rattle.px_value.specs.Truth.{truth_of}
use Rattle.px_core.specs.Plan.{Site, ConditionTerms}
use Rattle.px_sem.specs.World.{World}
use Rattle.px_sem.specs.Expressions.{value}
use Rattle.px_micro.specs.declared.truths.Truths.{Truths}

-- of conditions in a world
abbrev pub truths_in : List Site → World → ConditionTerms → Truths
truths_in plan now conditions = record {
  start = truth_of (value plan now conditions.start);
  end = truth_of (value plan now conditions.end);
  exit = truth_of (value plan now conditions.exit);
  skip = truth_of (value plan now conditions.skip);
  repeat = truth_of (value plan now conditions.repeat);
  pre = truth_of (value plan now conditions.pre);
  post = truth_of (value plan now conditions.post);
  invariant = truth_of (value plan now conditions.invariant);
}
