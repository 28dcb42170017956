use Rattle.std.proofs.Common.{ap, ◌∙◌}
use Rattle.px_value.specs.declared.enums.NodeState.TheVariants as states
use Rattle.px_sem.specs.Guards.{is_true, is_false}
use Rattle.px_flat.specs.Numbered.{NodeNumbered}
use Rattle.px_flat.specs.NumberedData.{conditions_data}
use Rattle.px_tables.specs.Reading.{unread}
use Rattle.px_micro.proofs.Guarding.{reads_are}
use Rattle.px_micro.proofs.guarded.iteration_ended.Goals as goal

pub returns : goal.returns
returns c =
    (λ i. record unread {
      ancestor_exit = c.args.asked.exit;
      ancestor_invariant = c.args.asked.invariant;
      ancestor_end = c.args.asked.end;
      repeat_false = (c.is_false.ensures ∙ ap is_false c.in_ok-repeat.ensures) i;
      repeat_true = (c.is_true.ensures ∙ ap is_true c.in_ok-repeat.ensures) i;
      outcome = c.outcome_of.ensures i;
      failure = c.failure_of.ensures i;
    })
    ∙ reads_are c.args.parts.now c.args.node states.IterationEnded c.args.asked (conditions_data c.node.result.now.conditions)
    c.requires.stand c.requires.node c.requires.asked
    (ap (λ (node : NodeNumbered). node.conditions) c.node.ensures.node)
