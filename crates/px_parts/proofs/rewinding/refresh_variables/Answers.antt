use Rattle.std.proofs.Common.{◌∙◌, arith}
use Rattle.px_flat.specs.Flat.{plan_of}
use Rattle.px_parts.proofs.Refreshing.{variable_fresh}
use Rattle.px_parts.proofs.rewinding.refresh_variables.Goals as goal

pub loop-cell-preserved : goal.loop-cell-preserved
loop-cell-preserved c = record {
  fresh = variable_fresh (plan_of c.args.flat.now) c.loop-cell.cell _ _ (omega arith) c.loop-cell.invariant.fresh c.overwrite.ensures.contents;
  seen = c.overwrite.ensures.news.0 ∙ c.loop-cell.invariant.seen;
}
