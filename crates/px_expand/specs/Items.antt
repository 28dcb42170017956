-- The conditions that the items of a block give.
use Rattle.std.specs.Prelude.{List}
use Rattle.px_syntax.specs.declared.word.Condition.TheVariants as which
use Rattle.px_syntax.specs.Block.{ItemData}
use Rattle.px_forms.specs.Conditions.{Given}
use Rattle.px_scope.specs.Items.{given_for}
use Rattle.px_scope.specs.Scope.{Scope}

abbrev pub given_by : Scope → List ItemData → Given
given_by scope items = record {
  start = given_for scope which.Start items;
  end = given_for scope which.End items;
  exit = given_for scope which.Exit items;
  skip = given_for scope which.Skip items;
  repeat = given_for scope which.Repeat items;
  pre = given_for scope which.Pre items;
  post = given_for scope which.Post items;
  invariant = given_for scope which.Invariant items;
}
