use Rattle.std.proofs.Common.{◌+◌, List, Option, map, option_map, refl, ap, sym, ◌∙◌}
use Rattle.std.proofs.lemmas.List.{take_rest}
use Rattle.std.proofs.lemmas.Result.{on_ok_weaker}
use Rattle.std.proofs.Math.ListN.{drop_of_length-le}
use Rattle.px_syntax.specs.declared.block.Action.{Action, out-Action}
use Rattle.px_syntax.specs.declared.block.Branch.{Branch}
use Rattle.px_syntax.specs.declared.block.Guarded.{Guarded}
use Rattle.px_syntax.specs.Block.{BodyTree, body_of, branch_of, guarded_of, else_of, else_ifs_in_turn, item_data}
use Rattle.px_syntax.specs.BlockFaults.{redeclared, items_faults, action_labels, actions_faults, body_faults, guarded_faults, else_if_faults, else_child, else_faults, if_label_faults, inside_if, inside_last}
use Rattle.px_syntax.specs.Expr.{term_of}
use Rattle.px_syntax.specs.Scope.{Scope}
use Rattle.px_syntax.proofs.Trees as trees
use Rattle.px_syntax.proofs.Trees.{in_turn}
use Rattle.px_check.specs.Found.{noted}
use Rattle.px_check.specs.Scope.{outside}
use Rattle.px_check.specs.declared.scope.Mark.{Mark}
use Rattle.px_check.proofs.Blocks.{own_told, block_noted, action_walked, guarded_noted, branch_noted, found_at, for_noted, if_left, if_noted, chain_walked}
use Rattle.px_check.proofs.Noting.{noted_none}
use Rattle.px_check.proofs.Walking.{all_walked}
use Rattle.px_check.proofs.scope.Scope.+block.Goals as goal

-- ---- a block and its actions

pub block-returns-clause-found : goal.block-returns-clause-found
block-returns-clause-found t c =
    block_noted c.args.self.now c.args.label.now c.args.block.now c.is_some-is_one_node.result c.enter_block.new.self
    c.args.found.now c.items.new.found c.note_action_labels.new.found c.actions.new.found
    c.in_ok-enter_block.ensures
    (c.in_ok-items.ensures
    ∙ ap (λ items. noted c.args.found.now (items_faults c.enter_block.new.self (map item_data items))) c.deref.ensures.value)
    (c.in_ok-note_action_labels.ensures
    ∙ ap (λ actions. noted c.items.new.found (redeclared (action_labels (in_turn actions)))) c.deref-2.ensures.value)
    (c.is_some-is_one_node.ensures ∙ own_told _ _ _ c.own_action.ensures)
    (c.in_ok-actions.ensures.found
    ∙ ap (λ actions. noted c.note_action_labels.new.found
    (actions_faults c.enter_block.new.self c.is_some-is_one_node.result (in_turn actions))) c.deref-3.ensures.value)

pub actions-loop-action-preserved : goal.actions-loop-action-preserved
actions-loop-action-preserved t c = record {
  scope = c.in_ok-body.ensures.scope ∙ c.loop-action.invariant.scope;
  found =
      action_walked c.args.self.now c.args.is_one_node c.args.actions.now c.loop-action.action-index c.action-item.result
      c.loop-action.found c.body.new.found c.loop-action-test.true c.action-item.is
      (c.in_ok-body.ensures.found
      ∙ ap (λ (scope : Scope). noted c.loop-action.found (body_faults scope c.args.is_one_node
      (out-Action c.action-item.result).label (body_of (out-Action c.action-item.result).body)))
      c.loop-action.invariant.scope)
      ∙ c.loop-action.invariant.found;
}

pub actions-returns-clause-found : goal.actions-returns-clause-found
actions-returns-clause-found t c =
    all_walked (λ (left : List Action). actions_faults c.args.self.now c.args.is_one_node (in_turn left))
    c.args.actions.now c.loop-action.action-index c.loop-action.found refl c.loop-action-test.false
    ∙ c.loop-action.invariant.found

-- ---- an action

pub body-returns-in-Block-clause-found : goal.body-returns-in-Block-clause-found
body-returns-in-Block-clause-found t c =
    on_ok_weaker c.block.result
    (λ own. own
    ∙ ap (λ (tree : BodyTree). noted c.args.found.now (body_faults c.args.self.now c.args.is_one_node c.args.label.now tree))
    (sym (ap body_of c.in-Block.is ∙ trees.inner c.in-Block.block)))
    c.block.ensures.found

pub body-returns-in_ok-else_branch-in-If-clause-scope : goal.body-returns-in_ok-else_branch-in-If-clause-scope
body-returns-in_ok-else_branch-in-If-clause-scope t c =
    let last = else_child (else_of (option_map branch_of c.in-If.otherwise)) in
    let chain = λ (others : List Guarded). else_ifs_in_turn (map guarded_of others) in
    if_left c.args.self.now c.args.label.now (guarded_of c.in-If.first) (chain c.in-If.others.items) last
    c.enter_if.new.self c.else_branch.new.self c.back_to.new.self
    (c.in_ok-enter_if-in-If.ensures
    ∙ ap (λ (others : List Guarded). inside_if c.args.self.now c.args.label.now (guarded_of c.in-If.first) (chain others) last)
    c.deref-in-If.ensures.value)
    (c.in_ok-else_branch-in-If.ensures.scope ∙ c.in_ok-else_ifs-in-If.ensures.scope
    ∙ (λ i. inside_last (c.in_ok-guarded-in-If.ensures.scope i) (chain (c.deref-in-If-2.ensures.value i)) last))
    (c.back_to.ensures
    ∙ ap (λ (mark : Mark). outside mark.nodes mark.variables c.else_branch.new.self) c.mark-outer.ensures)

pub body-returns-in_ok-else_branch-in-If-clause-found : goal.body-returns-in_ok-else_branch-in-If-clause-found
body-returns-in_ok-else_branch-in-If-clause-found t c =
    let otherwise = else_of (option_map branch_of c.in-If.otherwise) in
    let last = else_child otherwise in
    let chain = λ (others : List Guarded). else_ifs_in_turn (map guarded_of others) in
    if_noted c.args.self.now c.args.is_one_node c.args.label.now (guarded_of c.in-If.first) (chain c.in-If.others.items)
    otherwise c.enter_if.new.self c.guarded.new.self c.else_ifs.new.self c.args.found.now c.note_if_labels.new.found
    c.guarded.new.found c.else_ifs.new.found c.else_branch.new.found
    (c.in_ok-enter_if-in-If.ensures
    ∙ ap (λ (others : List Guarded). inside_if c.args.self.now c.args.label.now (guarded_of c.in-If.first) (chain others) last)
    c.deref-in-If.ensures.value)
    c.in_ok-guarded-in-If.ensures.scope
    (c.in_ok-else_ifs-in-If.ensures.scope
    ∙ ap (λ (others : List Guarded). inside_last c.guarded.new.self (chain others) last) c.deref-in-If-2.ensures.value)
    (c.in_ok-note_if_labels-in-If.ensures
    ∙ ap (λ (others : List Guarded). noted c.args.found.now (if_label_faults (guarded_of c.in-If.first) (chain others) otherwise))
    c.deref.ensures.value)
    c.in_ok-guarded-in-If.ensures.found
    (c.in_ok-else_ifs-in-If.ensures.found
    ∙ ap (λ (others : List Guarded). noted c.guarded.new.found (else_if_faults c.guarded.new.self (chain others) last))
    c.deref-in-If-2.ensures.value)
    c.in_ok-else_branch-in-If.ensures.found
    ∙ ap (λ (tree : BodyTree). noted c.args.found.now (body_faults c.args.self.now c.args.is_one_node c.args.label.now tree))
    (sym (ap body_of c.in-If.is ∙ trees.if_chain c.in-If.first c.in-If.others c.in-If.otherwise))

pub body-returns-in_ok-guarded-in-While-clause-found : goal.body-returns-in_ok-guarded-in-While-clause-found
body-returns-in_ok-guarded-in-While-clause-found t c =
    found_at (λ (place : Scope). guarded_faults place (guarded_of c.in-While.guarded)) c.enter_while.new.self _
    c.args.found.now c.guarded-in-While.new.found c.in_ok-enter_while-in-While.ensures
    c.in_ok-guarded-in-While.ensures.found
    ∙ ap (λ (tree : BodyTree). noted c.args.found.now (body_faults c.args.self.now c.args.is_one_node c.args.label.now tree))
    (sym (ap body_of c.in-While.is ∙ trees.while_loop c.in-While.guarded))

pub body-returns-in_ok-branch-in-For-clause-found : goal.body-returns-in_ok-branch-in-For-clause-found
body-returns-in_ok-branch-in-For-clause-found t c =
    for_noted c.args.self.now c.args.is_one_node c.args.label.now c.in-For.variable c.in-For.first (term_of c.in-For.test)
    (term_of c.in-For.step) (branch_of c.in-For.branch) c.enter_for.new.self c.args.found.now c.test_and_step.new.found
    c.branch-self.new.found c.in_ok-enter_for-in-For.ensures c.test_and_step.ensures
    c.in_ok-branch-in-For.ensures.found
    ∙ ap (λ (tree : BodyTree). noted c.args.found.now (body_faults c.args.self.now c.args.is_one_node c.args.label.now tree))
    (sym (ap body_of c.in-For.is ∙ trees.for_loop c.in-For.variable c.in-For.first c.in-For.test c.in-For.step c.in-For.branch))

-- ---- the parts of an `if`

pub else_ifs-loop-place-preserved : goal.else_ifs-loop-place-preserved
else_ifs-loop-place-preserved t c =
    let last = else_child (else_of (option_map branch_of c.args.otherwise.now)) in
    let more = chain_walked c.args.others.now c.loop-place.place c.index-others-place.result _ last c.loop-place.self
    c.enter_if.new.self c.guarded.new.self c.loop-place.found c.guarded.new.found c.loop-place-test.true
    c.index-others-place.is (take_rest c.args.others.now (c.loop-place.place + 1)) c.in_ok-enter_if.ensures c.in_ok-guarded.ensures.scope c.in_ok-guarded.ensures.found in
    record { scope = more.0 ∙ c.loop-place.invariant.scope; found = more.1 ∙ c.loop-place.invariant.found }

pub else_ifs-returns-clause-scope : goal.else_ifs-returns-clause-scope
else_ifs-returns-clause-scope t c =
    let last = else_child (else_of (option_map branch_of c.args.otherwise.now)) in
    ap (λ (left : List Guarded). inside_last c.loop-place.self (else_ifs_in_turn (map guarded_of left)) last)
    (sym (drop_of_length-le c.args.others.now c.loop-place-test.false))
    ∙ c.loop-place.invariant.scope

pub else_ifs-returns-clause-found : goal.else_ifs-returns-clause-found
else_ifs-returns-clause-found t c =
    let last = else_child (else_of (option_map branch_of c.args.otherwise.now)) in
    all_walked (λ (left : List Guarded). else_if_faults c.loop-place.self (else_ifs_in_turn (map guarded_of left)) last)
    c.args.others.now c.loop-place.place c.loop-place.found refl c.loop-place-test.false
    ∙ c.loop-place.invariant.found

pub else_branch-returns-in-None-clause-found : goal.else_branch-returns-in-None-clause-found
else_branch-returns-in-None-clause-found t c =
    sym (noted_none c.args.found.now)
    ∙ ap (λ (otherwise : Option Branch). noted c.args.found.now (else_faults c.args.self.now (else_of (option_map branch_of otherwise))))
    (sym c.in-None.is)

pub guarded-returns-clause-found : goal.guarded-returns-clause-found
guarded-returns-clause-found t c =
    on_ok_weaker c.branch-self.result
    (guarded_noted c.args.self.now c.args.guarded.now c.args.found.now c.expression.new.found c.branch-self.new.found
    c.expression.ensures)
    c.branch-self.ensures.found

pub branch-returns-clause-found : goal.branch-returns-clause-found
branch-returns-clause-found t c =
    on_ok_weaker c.block.result
    (branch_noted c.args.self.now c.args.branch.now c.args.found.now c.block.new.found)
    c.block.ensures.found
