use Rattle.std.proofs.Common.{ap, sym, ◌∙◌, true}
use Rattle.px_value.specs.declared.value.Value.TheVariants as values
use Rattle.px_cells.specs.Marked.{written}
use Rattle.px_flat.specs.declared.act.Act.TheVariants as under_way
use Rattle.px_flat.specs.Numbered.{NodeNumbered}
use Rattle.px_command.specs.Counting.{acknowledgement_counts}
use Rattle.px_command.proofs.Taken.{acknowledgement_row, no_acknowledgement}
use Rattle.px_command.proofs.actions.Actions.take_acknowledgement.Goals as goal

pub returns-in_ok-set-clause-ok : goal.returns-in_ok-set-clause-ok
returns-in_ok-set-clause-ok c =
    acknowledgement_row c.args.flat.now c.args.cells.now.contents c.set.new.self.contents c.args.self.now.contents
    c.put.new.self.contents c.args.node c.requires.node c.requires.parts
    ((λ i. acknowledgement_counts (sym c.state_of.ensures i)
    (ap (λ (node : NodeNumbered). node.body) (sym c.node.ensures.node) i))
    ∙ sym c.acknowledgement_counts.ensures ∙ c.if-acknowledgement_counts.true)
    (c.in_ok-set.ensures.ok
    ∙ ap (λ cell. written c.args.cells.now.contents cell (values.Boolean true)) c.acknowledgement_cell.ensures.cell)
    (c.put.ensures.contents ∙ ap (λ acts. written acts c.args.node under_way.Updated) c.reserve.ensures.contents)

pub returns-else-acknowledgement_counts-clause-ok : goal.returns-else-acknowledgement_counts-clause-ok
returns-else-acknowledgement_counts-clause-ok c =
    no_acknowledgement c.args.flat.now c.args.cells.now.contents c.args.self.now.contents c.args.node
    c.requires.node c.requires.parts
    ((λ i. acknowledgement_counts (sym c.state_of.ensures i)
    (ap (λ (node : NodeNumbered). node.body) (sym c.node.ensures.node) i))
    ∙ sym c.acknowledgement_counts.ensures ∙ c.if-acknowledgement_counts.false)
