use Rattle.std.proofs.Common.{ap, ◌∙◌}
use Rattle.px_value.specs.declared.enums.NodeState.TheVariants as states
use Rattle.px_sem.specs.Guards.{is_true, is_false}
use Rattle.px_flat.specs.Numbered.{NodeNumbered}
use Rattle.px_flat.specs.NumberedData.{conditions_data}
use Rattle.px_tables.specs.Reading.{unread}
use Rattle.px_micro.proofs.Guarding.{reads_are}
use Rattle.px_micro.proofs.guarded.executing.Goals as goal

pub returns : goal.returns
returns c =
    (λ i. record unread {
      ancestor_exit = c.args.asked.exit;
      exit_true = (c.is_true.ensures ∙ ap is_true c.in_ok-truth.ensures) i;
      ancestor_invariant = c.args.asked.invariant;
      invariant_false = (c.is_false.ensures ∙ ap is_false c.in_ok-truth-2.ensures) i;
      end_true = (c.is_true-2.ensures ∙ ap is_true c.in_ok-truth-3.ensures) i;
      post_true = (c.is_true-3.ensures ∙ ap is_true c.in_ok-truth-4.ensures) i;
    })
    ∙ reads_are c.args.parts.now c.args.node states.Executing c.args.asked (conditions_data c.node.result.now.conditions)
    c.requires.stand c.requires.node c.requires.asked
    (ap (λ (node : NodeNumbered). node.conditions) c.node.ensures.node)
