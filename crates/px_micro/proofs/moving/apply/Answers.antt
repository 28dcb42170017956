use Rattle.std.proofs.Common.{◌≡◌, List, length, fold, ap, sym, ◌∙◌, subst, arith}
use Rattle.px_value.specs.declared.value.Value.{Value}
use Rattle.px_flat.specs.Parts.{IsParts, world_of}
use Rattle.px_micro.specs.Moving.{with_turn, put_value}
use Rattle.px_parts.specs.Parts.{plan_in}
use Rattle.px_micro.proofs.Moved.{AreReady, cells_after, world_after, stand_after, writes_within, initial_within, written_length, turns_within, begun_all}
use Rattle.px_micro.proofs.moving.apply.Goals as goal

pub write-requires-clause-within : goal.write-requires-clause-within
write-requires-clause-within c =
    let ready : AreReady c.args.parts.now c.args.turns.now =
    record { stand = c.requires.stand; turns = c.requires.turns; going = c.requires.going } in
    λ k d few. omega (arith, c.requires.stand.all_cells, writes_within c.args.parts.now c.args.turns.now ready k d few)

pub begin-requires-clause-within : goal.begin-requires-clause-within
begin-requires-clause-within c =
    let ready : AreReady c.args.parts.now c.args.turns.now =
    record { stand = c.requires.stand; turns = c.requires.turns; going = c.requires.going } in
    λ k d few. omega (
      arith,
      ap length c.write.ensures.values,
      written_length c.args.parts.now c.args.turns.now ready,
      initial_within c.args.parts.now c.args.turns.now ready k d few,
    )

pub arrive_all-requires-clause-nodes : goal.arrive_all-requires-clause-nodes
arrive_all-requires-clause-nodes c =
    turns_within c.args.parts.now c.args.turns.now
    (record { stand = c.requires.stand; turns = c.requires.turns; going = c.requires.going })

pub arrive_all-requires-clause-all_cells : goal.arrive_all-requires-clause-all_cells
arrive_all-requires-clause-all_cells c =
    ap length (c.begin.ensures.values ∙ ap (λ (cells : List Value). fold put_value cells c.args.turns.now.initial.items) c.write.ensures.values)
    ∙ begun_all c.args.parts.now c.args.turns.now
    (record { stand = c.requires.stand; turns = c.requires.turns; going = c.requires.going })

pub returns-clause-world : goal.returns-clause-world
returns-clause-world c =
    let parts = c.args.parts.now in
    let made = c.args.turns.now in
    let cells : c.arrive_all.new.cells.contents.values ≡ cells_after parts made =
    c.arrive_all.ensures.values
    ∙ ap (λ (cells : List Value). fold (with_turn (plan_in parts)) cells made.turns.items)
    (c.begin.ensures.values ∙ ap (λ (cells : List Value). fold put_value cells made.initial.items) c.write.ensures.values) in
    (λ i. world_of (plan_in parts) (cells i) parts.reports.reports (c.arrive_all.ensures.acts i))
    ∙ world_after parts made (record { stand = c.requires.stand; turns = c.requires.turns; going = c.requires.going })

pub returns-clause-stand : goal.returns-clause-stand
returns-clause-stand c =
    let parts = c.args.parts.now in
    let made = c.args.turns.now in
    let cells : c.arrive_all.new.cells.contents.values ≡ cells_after parts made =
    c.arrive_all.ensures.values
    ∙ ap (λ (cells : List Value). fold (with_turn (plan_in parts)) cells made.turns.items)
    (c.begin.ensures.values ∙ ap (λ (cells : List Value). fold put_value cells made.initial.items) c.write.ensures.values) in
    subst (λ (cells : List Value). IsParts (plan_in parts) cells c.arrive_all.new.actions.contents.values) (sym cells)
    (subst (IsParts (plan_in parts) (cells_after parts made)) (sym c.arrive_all.ensures.acts)
    (stand_after parts made (record { stand = c.requires.stand; turns = c.requires.turns; going = c.requires.going })))
