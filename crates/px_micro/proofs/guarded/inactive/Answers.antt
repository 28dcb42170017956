use Rattle.std.proofs.Common.{ap, ◌∙◌}
use Rattle.px_value.specs.declared.enums.NodeState.TheVariants as states
use Rattle.px_sem.specs.Guards.{is_finished, is_executing}
use Rattle.px_tables.specs.Reading.{unread, read_by}
use Rattle.px_micro.proofs.Guarding.{guards_are}
use Rattle.px_micro.proofs.guarded.inactive.Goals as goal

pub returns : goal.returns
returns c =
    (λ i. record unread {
      parent_finished = (c.is_finished.ensures ∙ ap is_finished c.parent_state-parent.ensures) i;
      parent_executing = (c.is_executing.ensures ∙ ap is_executing c.parent_state-parent.ensures) i;
    })
    ∙ ap (read_by states.Inactive) (guards_are c.args.parts.now c.args.node c.requires.node)
