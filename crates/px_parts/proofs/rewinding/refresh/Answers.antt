use Rattle.std.proofs.Common.{◌≡◌, subst, arith}
use Rattle.px_flat.specs.Flat.{plan_of}
use Rattle.px_flat.specs.Layout.{node_cell, variable_cells}
use Rattle.px_parts.specs.Fresh.{AreFreshUpTo}
use Rattle.px_parts.proofs.Refreshing.{none_fresh, all_fresh}
use Rattle.px_parts.proofs.rewinding.refresh.Goals as goal

pub refresh_variables-requires : goal.refresh_variables-requires
refresh_variables-requires c = none_fresh (plan_of c.args.flat.now) c.args.cells.now.contents c.requires.long c.requires.unmarked

pub loop-node-init : goal.loop-node-init
loop-node-init c =
    let plan = plan_of c.args.flat.now in
    let here : variable_cells plan ≡ node_cell plan 0 = omega arith in
    record {
      fresh = subst (λ count. AreFreshUpTo plan count c.refresh_variables.new.cells.contents) here c.refresh_variables.ensures.fresh;
      seen = c.refresh_variables.ensures.seen;
    }

pub returns-clause-values : goal.returns-clause-values
returns-clause-values c =
    let plan = plan_of c.args.flat.now in
    all_fresh plan c.loop-node.cells.contents (node_cell plan c.loop-node.node) (omega arith) c.loop-node.invariant.fresh
