use Rattle.std.proofs.Common.{◌++◌, [], get_or, ap, ◌∙◌}
use Rattle.std.specs.List.{cons_option}
use Rattle.px_micro.specs.Going.{with_node}
use Rattle.px_parts.specs.Parts.{plan_in, world_in}
use Rattle.px_micro.proofs.Choosing.{wanted_more}
use Rattle.px_micro.proofs.sight.wanted.Goals as goal

pub loop-node-preserved : goal.loop-node-preserved
loop-node-preserved c =
    let parts = c.args.parts.now in
    record {
      known = c.in_ok-arrival.ensures.known;
      wanted = c.in_ok-push_going.ensures
          ∙ ap (λ before. before ++ cons_option (with_node (get_or c.args.candidates.now c.loop-node.node-index 0) c.in_ok-arrival.arrival) [])
          c.loop-node.invariant.wanted
          ∙ wanted_more (plan_in parts) (world_in parts) c.args.candidates.now c.loop-node.node-index c.in_ok-arrival.arrival
          c.loop-node-test.true c.in_ok-arrival.ensures.destination;
    }
