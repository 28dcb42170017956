use Rattle.std.proofs.Common.{ap, sym, ◌∙◌}
use Rattle.px_cells.specs.Marked.{written}
use Rattle.px_command.specs.Counting.{abort_done_counts}
use Rattle.px_command.specs.Results.{aborted}
use Rattle.px_command.proofs.Taken.{abort_row, no_abort}
use Rattle.px_command.proofs.Told.{act_read}
use Rattle.px_command.proofs.actions.Actions.take_abort_done.Goals as goal

pub returns-in_ok-reserve-clause-ok : goal.returns-in_ok-reserve-clause-ok
returns-in_ok-reserve-clause-ok c =
    abort_row c.args.flat.now c.args.cells.now.contents c.args.self.now.contents c.put.new.self.contents c.args.node
    c.requires.node c.requires.parts
    ((λ i. abort_done_counts (sym c.state_of.ensures i) (act_read c.args.self.now.contents.values c.args.node c.of-act.result.now c.of-act.ensures i))
    ∙ sym c.abort_done_counts.ensures ∙ c.if-abort_done_counts.true)
    (c.put.ensures.contents
    ∙ (λ i. written (c.reserve.ensures.contents i) c.args.node
    ((c.aborted-done.ensures ∙ ap aborted (sym (act_read c.args.self.now.contents.values c.args.node c.of-act.result.now c.of-act.ensures))) i)))

pub returns-else-abort_done_counts-clause-ok : goal.returns-else-abort_done_counts-clause-ok
returns-else-abort_done_counts-clause-ok c =
    no_abort c.args.flat.now c.args.cells.now.contents c.args.self.now.contents c.args.node c.requires.node c.requires.parts
    ((λ i. abort_done_counts (sym c.state_of.ensures i) (act_read c.args.self.now.contents.values c.args.node c.of-act.result.now c.of-act.ensures i))
    ∙ sym c.abort_done_counts.ensures ∙ c.if-abort_done_counts.false)
