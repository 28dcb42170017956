use Rattle.std.proofs.Common.{◌+◌, List, ap, sym, ◌∙◌, subst, arith}
use Rattle.px_value.proofs.General.{none_from}
use Rattle.px_core.specs.Plan.{Site, Head}
use Rattle.px_flat.specs.Flat.{plan_of}
use Rattle.px_assign.specs.Ordering.{AreSoFar}
use Rattle.px_assign.proofs.Writers.{no_more, one_more}
use Rattle.px_assign.proofs.order.each_writer.Goals as goal
use Rattle.px_assign.proofs.order.each_writer.Goals.{in-Some+in_ok-push, in_default}

pub loop-node-preserved : goal.loop-node-preserved
loop-node-preserved c =
    let plan : List Site = plan_of c.args.flat.now in
    let node = c.loop-node.node in
    let before = c.loop-node.writers.items in
    elim c.match-variable_of.branch [
      | in-Some+in_ok-push w ↦
          subst (λ writers. AreSoFar plan writers (node + 1)) (sym (ap (λ writers. writers.items) w.writers-is ∙ w.in_ok-push.ensures.items))
          (one_more plan before (record { variable = w.in-Some.variable; priority = w.row.result.now.head.priority; node = node })
          c.loop-node.invariant (record {
            within = omega (arith, c.loop-node-test.true, c.nodes-node-end.ensures.count);
            variable = sym c.variable_of.ensures ∙ w.in-Some.is;
            priority = ap (λ (head : Head). head.priority) w.row.ensures.head;
          }))
      | in_default w ↦
          subst (λ writers. AreSoFar plan writers (node + 1)) (sym (ap (λ writers. writers.items) w.writers-is))
          (no_more plan before node c.loop-node.invariant
          (sym c.variable_of.ensures ∙ none_from c.variable_of.result w.in_default.not-Some))
    ]
