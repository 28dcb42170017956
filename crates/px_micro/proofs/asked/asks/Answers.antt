use Rattle.std.proofs.Common.{◌≡◌, Option, Bool, ap, ◌∙◌}
use Rattle.px_value.specs.Truth.{truth_of}
use Rattle.px_flat.specs.Numbered.{Numbered, NodeNumbered}
use Rattle.px_flat.specs.NumberedData.{expr_data, conditions_data}
use Rattle.px_micro.specs.Above.{asks_in, in_state}
use Rattle.px_parts.specs.Parts.{value_in}
use Rattle.px_micro.proofs.Seeing.{truths_by, truths_are, asks_are}
use Rattle.px_micro.proofs.asked.asks.Goals as goal

pub returns : goal.returns
returns c =
    let parts = c.args.parts.now in
    let numbers = c.node.result.now.conditions in
    let worth : Numbered → Option Bool = λ expr. truth_of (value_in parts expr) in
    let exit : c.in_ok-exit.exit ≡ worth (expr_data numbers.exit) = c.in_ok-exit.ensures in
    let invariant : c.in_ok-invariant.invariant ≡ worth (expr_data numbers.invariant) = c.in_ok-invariant.ensures in
    let end : c.in_ok-end.end ≡ worth (expr_data numbers.end) = c.in_ok-end.ensures in
    c.asks_in.ensures
    ∙ (λ i. asks_in (in_state (c.state_of-state.ensures i) (c.failure_of-failure.ensures i)) (exit i) (invariant i) (end i))
    ∙ asks_are parts c.args.node (truths_by (value_in parts) (conditions_data numbers)) c.requires.node
    (truths_are parts c.args.node (conditions_data numbers) c.requires.stand c.requires.node
    (ap (λ (node : NodeNumbered). node.conditions) c.node.ensures.node))
