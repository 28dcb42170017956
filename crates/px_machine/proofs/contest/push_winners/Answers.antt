use Rattle.std.proofs.Common.{ℕ, List, [], ◌++◌, get_or, take, ap, sym, ◌∙◌, subst}
use Rattle.std.specs.List.{cons_option, filter_map}
use Rattle.std.proofs.lemmas.List.{take_all, take_more}
use Rattle.px_parts.specs.Parts.{plan_in, world_in}
use Rattle.px_micro.specs.Going.{with_node}
use Rattle.px_machine.specs.Contest.{IsEachGoing}
use Rattle.px_machine.specs.Kept.{arrival_of}
use Rattle.px_machine.proofs.Choosing.{each_goes, winners_more}
use Rattle.px_machine.proofs.contest.push_winners.Goals as goal

pub loop-node-preserved : goal.loop-node-preserved
loop-node-preserved c =
    let front = c.args.going.now.items in
    let nodes = c.deref-node-items.result.now in
    let index = c.loop-node.node-index in
    let to = arrival_of c.args.parts.now c.args.kept.now in
    c.in_ok-push_going.ensures
    ∙ (λ i. c.loop-node.invariant i ++ cons_option (with_node (get_or nodes index 0) (c.arrival.ensures i)) [])
    ∙ winners_more to front (take index nodes) (get_or nodes index 0)
    ∙ ap (λ (nodes : List ℕ). front ++ filter_map (λ node. with_node node (to node)) nodes) (sym (take_more nodes index 0 c.loop-node-test.true))

pub returns : goal.returns
returns c =
    let parts = c.args.parts.now in
    let kept = c.args.kept.now in
    let front = c.args.going.now.items in
    let claims = c.requires.right.of_plan.claims in
    subst (IsEachGoing (plan_in parts) (world_in parts))
    (sym (
    c.loop-node.invariant
    ∙ ap (λ (nodes : List ℕ). front ++ filter_map (λ node. with_node node (arrival_of parts kept node)) nodes)
    (take_all c.loop-node.node-index c.deref-node-items.result.now c.loop-node-test.false ∙ c.deref-node-items.ensures.value)
    ))
    (each_goes parts kept front c.in_ok-winners.winners.items c.requires.stand c.requires.right c.requires.now c.requires.looked
    (c.in_ok-winners.ensures.winners (plan_in parts) claims) (c.in_ok-winners.ensures.starting parts.flat claims))
