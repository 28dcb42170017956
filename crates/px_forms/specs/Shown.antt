-- What the code has of conditions, with terms in place of expressions.
use Rattle.std.specs.Option.{option_map}
use Rattle.px_core.specs.Expr.{term_in}
use Rattle.px_forms.specs.declared.conditions.Added.{Added as AddedExprs}
use Rattle.px_forms.specs.declared.conditions.Given.{Given as GivenExprs}
use Rattle.px_forms.specs.Adding.{Added}
use Rattle.px_forms.specs.Conditions.{Given}

abbrev pub given_terms : GivenExprs → Given
given_terms given = record {
  start = option_map term_in given.start;
  end = option_map term_in given.end;
  exit = option_map term_in given.exit;
  skip = option_map term_in given.skip;
  repeat = option_map term_in given.repeat;
  pre = option_map term_in given.pre;
  post = option_map term_in given.post;
  invariant = option_map term_in given.invariant;
}

abbrev pub added_terms : AddedExprs → Added
added_terms added = record { start = option_map term_in added.start; skip = option_map term_in added.skip }
