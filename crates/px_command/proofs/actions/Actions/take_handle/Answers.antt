use Rattle.std.proofs.Common.{ap, sym, ◌∙◌}
use Rattle.px_value.specs.declared.value.Value.TheVariants as values
use Rattle.px_cells.specs.Marked.{written}
use Rattle.px_command.specs.Counting.{handle_counts}
use Rattle.px_command.proofs.Taken.{handle_row, no_handle}
use Rattle.px_command.proofs.Told.{act_read}
use Rattle.px_command.proofs.actions.Actions.take_handle.Goals as goal

pub returns-in_ok-set-clause-ok : goal.returns-in_ok-set-clause-ok
returns-in_ok-set-clause-ok c =
    handle_row c.args.flat.now c.args.cells.now.contents c.set.new.self.contents c.args.self.now.contents c.args.node
    c.args.handle c.requires.node c.requires.parts
    ((λ i. handle_counts (sym c.state_of.ensures i) (act_read c.args.self.now.contents.values c.args.node c.of.result.now c.of.ensures i))
    ∙ sym c.handle_counts.ensures ∙ c.if-handle_counts.true)
    (c.in_ok-set.ensures.ok
    ∙ ap (λ cell. written c.args.cells.now.contents cell (values.Handle c.args.handle)) c.handle_cell.ensures.cell)

pub returns-else-handle_counts-clause-ok : goal.returns-else-handle_counts-clause-ok
returns-else-handle_counts-clause-ok c =
    no_handle c.args.flat.now c.args.cells.now.contents c.args.self.now.contents c.args.node c.args.handle
    c.requires.node c.requires.parts
    ((λ i. handle_counts (sym c.state_of.ensures i) (act_read c.args.self.now.contents.values c.args.node c.of.result.now c.of.ensures i))
    ∙ sym c.handle_counts.ensures ∙ c.if-handle_counts.false)
