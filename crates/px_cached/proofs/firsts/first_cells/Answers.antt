use Rattle.std.proofs.Common.{◌≡◌, ◌+◌, ◌<◌, ◌++◌, List, length, map, sum, take, ap, sym, ◌∙◌, arith}
use Rattle.std.proofs.lemmas.List.{take_all}
use Rattle.px_core.specs.Fit.{cells_of}
use Rattle.px_core.specs.Plan.{Site, Head, variable_data}
use Rattle.px_flat.specs.Flat.{plan_of}
use Rattle.px_flat.specs.Layout.{first_cell}
use Rattle.px_flat.specs.Row.{site_in}
use Rattle.px_flat.proofs.Tables.{flat_sound}
use Rattle.px_flat.proofs.Variables.{cells_within}
use Rattle.px_cached.specs.Firsts.{firsts_from, firsts_of}
use Rattle.px_cached.proofs.FirstCells.{length-firsts_of, more_nodes}
use Rattle.px_cached.proofs.firsts.first_cells.Goals as goal
use Rattle.px_cached.proofs.firsts.first_cells.Goals.{After-deref}

module _ (c : After-deref) where
  abbrev plan : List Site
  plan = plan_of c.args.flat.now

  here : c.loop-node.node < length plan
  here = omega (arith, c.loop-node-test.true, c.nodes-node-end.ensures.count)

  variables : map variable_data c.deref.result.now ≡ (site_in plan c.loop-node.node).head.variables
  variables = ap (map variable_data) c.deref.ensures.value ∙ ap (λ (head : Head). head.variables) c.row.ensures.head

  long : length c.loop-node.firsts.items ≡ first_cell plan c.loop-node.node
  long = ap length c.loop-node.invariant ∙ length-firsts_of (take c.loop-node.node plan)

pub push_variables-requires : goal.push_variables-requires
push_variables-requires c =
    let at = (goal.at.push_variables-requires c).After-deref in
    let plan : List Site = plan_of c.args.flat.now in
    omega (
      arith,
      long at,
      ap (λ variables. sum (map cells_of variables)) (variables at),
      cells_within plan c.loop-node.node (here at),
      (flat_sound c.args.flat.now).cells,
    )

pub loop-node-preserved : goal.loop-node-preserved
loop-node-preserved c =
    let at = (goal.at.loop-node-preserved c).After-deref in
    let node = c.loop-node.node in
    c.in_ok-push_variables.ensures
    ∙ (λ i. c.loop-node.invariant i ++ firsts_from (long at i) (variables at i))
    ∙ sym (more_nodes (plan_of c.args.flat.now) node (here at))

pub returns : goal.returns
returns c =
    c.loop-node.invariant
    ∙ ap firsts_of (take_all c.loop-node.node (plan_of c.args.flat.now)
    (omega (arith, c.loop-node-test.false, c.nodes-node-end.ensures.count)))
