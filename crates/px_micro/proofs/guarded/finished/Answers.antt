use Rattle.std.proofs.Common.{ap, ◌∙◌}
use Rattle.px_value.specs.declared.enums.NodeState.TheVariants as states
use Rattle.px_sem.specs.Guards.{is_waiting}
use Rattle.px_tables.specs.Reading.{unread, read_by}
use Rattle.px_micro.proofs.Guarding.{guards_are}
use Rattle.px_micro.proofs.guarded.finished.Goals as goal

pub returns : goal.returns
returns c =
    (λ i. record unread {
      parent_waiting = (c.is_waiting.ensures ∙ ap is_waiting c.parent_state.ensures) i;
    })
    ∙ ap (read_by states.Finished) (guards_are c.args.parts.now c.args.node c.requires.node)
