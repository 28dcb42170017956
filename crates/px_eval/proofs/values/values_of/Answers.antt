use Rattle.std.proofs.Common.{map}
use Rattle.px_flat.specs.Flat.{plan_of}
use Rattle.px_flat.specs.NumberedData.{expr_data}
use Rattle.px_eval.proofs.Numbers.{within_each}
use Rattle.px_eval.proofs.values.values_of.Goals as goal

pub each_value-requires-clause-within : goal.each_value-requires-clause-within
each_value-requires-clause-within c =
    within_each (plan_of c.args.flat.now) (map expr_data c.args.exprs.now) c.requires.within
