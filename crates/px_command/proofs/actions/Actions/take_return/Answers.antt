use Rattle.std.proofs.Common.{◌≡◌, ap, sym, ◌∙◌, arith, Some}
use Rattle.px_value.proofs.General.{none_from}
use Rattle.px_cells.specs.Marked.{written}
use Rattle.px_flat.specs.Flat.{plan_of}
use Rattle.px_flat.specs.Numbered.{NodeNumbered, numbered_body}
use Rattle.px_flat.specs.Row.{site_in}
use Rattle.px_flat.proofs.Tables.{flat_sound}
use Rattle.px_command.specs.Counting.{return_counts}
use Rattle.px_command.specs.Results.{result_slot}
use Rattle.px_command.proofs.Returns.{slot_within}
use Rattle.px_command.proofs.Taken.{return_row, no_return, return_lost}
use Rattle.px_command.proofs.Told.{act_read}
use Rattle.px_command.proofs.actions.Actions.take_return.Goals as goal

pub result_slot-requires : goal.result_slot-requires
result_slot-requires c = λ slot is.
    let plan = plan_of c.args.flat.now in
    let there : result_slot (numbered_body plan (site_in plan c.args.node).head.body) _ ≡ Some slot =
    (λ i. result_slot (ap (λ (node : NodeNumbered). node.body) (sym c.node.ensures.node) i)
    (act_read c.args.self.now.contents.values c.args.node c.of.result.now c.of.ensures i)) ∙ is in
    let sound = flat_sound c.args.flat.now in
    omega (
      arith,
      sound.cells,
      slot_within plan c.args.cells.now.contents.values c.args.self.now.contents.values c.args.node slot sound
          c.requires.node c.requires.parts there,
    )

pub set-requires : goal.set-requires
set-requires c =
    let plan = plan_of c.args.flat.now in
    let there : result_slot (numbered_body plan (site_in plan c.args.node).head.body) _ ≡ Some (c.in-Some.cell, c.in-Some.kind) =
    (λ i. result_slot (ap (λ (node : NodeNumbered). node.body) (sym c.node.ensures.node) i)
    (act_read c.args.self.now.contents.values c.args.node c.of.result.now c.of.ensures i))
    ∙ sym c.result_slot.ensures ∙ c.in-Some.is in
    omega (
      arith,
      c.requires.parts.all_cells,
      slot_within plan c.args.cells.now.contents.values c.args.self.now.contents.values c.args.node
          (c.in-Some.cell, c.in-Some.kind) (flat_sound c.args.flat.now) c.requires.node c.requires.parts there,
    )

pub returns-in_ok-set-clause-ok : goal.returns-in_ok-set-clause-ok
returns-in_ok-set-clause-ok c =
    return_row c.args.flat.now c.args.cells.now.contents c.set.new.self.contents c.args.self.now.contents c.args.node
    c.args.value.now (c.in-Some.cell, c.in-Some.kind) c.requires.node c.requires.parts
    (ap return_counts (sym c.state_of.ensures) ∙ sym c.return_counts.ensures ∙ c.if-return_counts.true)
    ((λ i. result_slot (ap (λ (node : NodeNumbered). node.body) (sym c.node.ensures.node) i)
    (act_read c.args.self.now.contents.values c.args.node c.of.result.now c.of.ensures i))
    ∙ sym c.result_slot.ensures ∙ c.in-Some.is)
    (c.in_ok-set.ensures.ok
    ∙ ap (λ value. written c.args.cells.now.contents c.in-Some.cell value) c.in_ok-taken.ensures)

pub returns-in_default-clause-ok : goal.returns-in_default-clause-ok
returns-in_default-clause-ok c =
    return_lost c.args.flat.now c.args.cells.now.contents c.args.self.now.contents c.args.node c.args.value.now
    c.requires.node c.requires.parts
    ((λ i. result_slot (ap (λ (node : NodeNumbered). node.body) (sym c.node.ensures.node) i)
    (act_read c.args.self.now.contents.values c.args.node c.of.result.now c.of.ensures i))
    ∙ sym c.result_slot.ensures ∙ none_from c.result_slot.result c.in_default.not-Some)

pub returns-else-return_counts-clause-ok : goal.returns-else-return_counts-clause-ok
returns-else-return_counts-clause-ok c =
    no_return c.args.flat.now c.args.cells.now.contents c.args.self.now.contents c.args.node c.args.value.now
    c.requires.node c.requires.parts
    (ap return_counts (sym c.state_of.ensures) ∙ sym c.return_counts.ensures ∙ c.if-return_counts.false)
