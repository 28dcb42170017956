use Rattle.std.proofs.Common.{length, ap, sym, ◌∙◌, arith}
use Rattle.px_told.specs.Told.{ToldData}
use Rattle.px_parts.specs.Parts.{plan_in}
use Rattle.px_machine.proofs.Changing.{node_caught_up}
use Rattle.px_machine.proofs.Places.{long}
use Rattle.px_machine.proofs.Present.{state_seen}
use Rattle.px_machine.proofs.catching_up.catch_up_node.Goals as goal

pub set-requires-clause-node : goal.set-requires-clause-node
set-requires-clause-node c =
    omega (
      arith,
      c.requires.within,
      ap (λ (told : ToldData). length told.tree) c.take_state.ensures.told,
      ap length c.requires.right.of_plan.tree,
      long (plan_in c.args.parts.now),
    )

pub set-requires-clause-cells : goal.set-requires-clause-cells
set-requires-clause-cells c =
    omega (
      arith,
      c.requires.right.of_plan.cells,
      c.take_state.ensures.wakes.counts.0,
      ap (λ (told : ToldData). length told.tree) c.take_state.ensures.told,
      ap length c.requires.right.of_plan.tree,
      long (plan_in c.args.parts.now),
    )

pub returns-clause-right : goal.returns-clause-right
returns-clause-right c =
    let set = c.set.ensures in
    (node_caught_up c.args.parts.now c.args.kept.now c.take_state.new.kept c.set.new.self c.set.new.heard c.args.node
    c.state_of.result c.asks_of-asks.result c.requires.right c.requires.within c.requires.node
    (c.state_of.ensures ∙ sym (state_seen c.args.parts.now c.args.node c.requires.seen)) c.take_state.ensures c.asks_of-asks.ensures
    (record { tree = set.tree; own = set.own; right = set.told; heard = set.heard })).0

pub returns-clause-caught_up : goal.returns-clause-caught_up
returns-clause-caught_up c =
    let set = c.set.ensures in
    (node_caught_up c.args.parts.now c.args.kept.now c.take_state.new.kept c.set.new.self c.set.new.heard c.args.node
    c.state_of.result c.asks_of-asks.result c.requires.right c.requires.within c.requires.node
    (c.state_of.ensures ∙ sym (state_seen c.args.parts.now c.args.node c.requires.seen)) c.take_state.ensures c.asks_of-asks.ensures
    (record { tree = set.tree; own = set.own; right = set.told; heard = set.heard })).1

pub returns-clause-wakes : goal.returns-clause-wakes
returns-clause-wakes c =
    let set = c.set.ensures in
    (node_caught_up c.args.parts.now c.args.kept.now c.take_state.new.kept c.set.new.self c.set.new.heard c.args.node
    c.state_of.result c.asks_of-asks.result c.requires.right c.requires.within c.requires.node
    (c.state_of.ensures ∙ sym (state_seen c.args.parts.now c.args.node c.requires.seen)) c.take_state.ensures c.asks_of-asks.ensures
    (record { tree = set.tree; own = set.own; right = set.told; heard = set.heard })).2
