use Rattle.std.proofs.Common.{map, option_map, ap, ◌∙◌, arith, suc, ◌-◌}
use denote.Param.Weighed.{at_most}
use Rattle.std.proofs.lemmas.List.{at_drop_all}
use Rattle.px_syntax.specs.declared.block.Action.{out-Action}
use Rattle.px_syntax.proofs.block.Guarded.TheLaws.{the_size}
use Rattle.px_syntax.specs.Block.{action_of, actions_in_turn, body_of, branch_of, else_ifs_in_turn, else_of, guarded_of}
use Rattle.px_syntax.proofs.Trees.{if_chain}
use Rattle.px_expand.specs.Size.{actions_reach, body_reach, else_if_reach, else_reach}
use Rattle.px_expand.proofs.Actions.{action_counted}
use Rattle.px_expand.proofs.Reaching.{action_reached, one_of_else_ifs, far_is_far}
use Rattle.px_expand.proofs.Sizes.{body_some}
use Rattle.px_expand.proofs.reach.+reach.Goals as goal

pub actions_reach-loop-action-preserved : goal.actions_reach-loop-action-preserved
actions_reach-loop-action-preserved t c =
    let index = c.loop-action.action-index in
    let action = c.action-item.result in
    let one = action_counted c.args.actions.now index action c.loop-action-test.true c.action-item.is in
    let some = body_some (body_of (out-Action action).body) in
    let far = action_reached c.args.actions.now index action c.loop-action-test.true c.action-item.is c.loop-action.place in
    record {
      few = omega (arith, one, some);
      near = omega (arith, c.through-far.ensures, c.max-longest.ensures);
      far = omega (arith, far, c.body_reach-reach.ensures, c.through-far.ensures, c.max-longest.ensures);
    }

pub actions_reach-returns : goal.actions_reach-returns
actions_reach-returns t c =
    let end = at_drop_all (λ left. actions_reach (suc c.loop-action.place) (actions_in_turn (map action_of left)))
    c.args.actions.now c.loop-action.action-index c.loop-action-test.false in
    omega (arith, end)

pub body_reach-returns-in-If : goal.body_reach-returns-in-If
body_reach-returns-in-If t c =
    let last = else_reach (else_of (option_map branch_of c.in-If.otherwise)) in
    let others = else_ifs_in_turn (map guarded_of c.in-If.others.items) in
    let tree = ap body_reach (ap body_of c.in-If.is ∙ if_chain c.in-If.first c.in-If.others c.in-If.otherwise) in
    let chain = ap (λ list. else_if_reach c.else_reach-last.result (else_ifs_in_turn (map guarded_of list))) c.deref.ensures.value
    ∙ ap (λ far. else_if_reach far others) c.else_reach-last.ensures in
    let capped = far_is_far last others in
    omega (arith, tree, chain, capped, c.guarded_reach-own.ensures, c.else_if_reach.ensures, c.max.ensures)

pub else_if_reach-guarded_reach-own-requires : goal.else_if_reach-guarded_reach-own-requires
else_if_reach-guarded_reach-own-requires t c =
    let others = c.args.others.now in
    let other = c.index-others-place.result in
    let one = one_of_else_ifs others (c.loop-place.place - 1) other (omega arith) c.index-others-place.is in
    let deep = at_most (λ guarded. the_size guarded) others (c.loop-place.place - 1) other (omega arith) in
    let same = ap (λ guarded. the_size guarded) c.index-others-place.is in
    (omega (arith, deep, same), omega (arith, one))
