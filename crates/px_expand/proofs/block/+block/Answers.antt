use Rattle.std.proofs.Common.{◌≡◌, ◌+◌, ◌≤◌, ℤ, ◌∷◌, length, map, drop, option_map, refl, ap, sym, ◌∙◌, arith, rules, None, Some, subst, length-append}
use Rattle.std.specs.Result.{IfOk}
use Rattle.std.proofs.lemmas.Int.{to_z-of_z}
use mir.Syntax.{w32}
use mir.Val.{SFits}
use Rattle.std.specs.Option.{option_copied}
use Rattle.std.proofs.lemmas.Result.{IfOk-weaker, on_ok_weaker}
use Rattle.px_value.proofs.General.{on_ok}
use Rattle.px_syntax.specs.declared.block.Action.{out-Action}
use Rattle.px_syntax.specs.declared.block.Block.{out-Block}
use Rattle.px_syntax.specs.Block as text
use Rattle.px_syntax.specs.Block.{action_of, block_of, body_of, branch_of, else_ifs_in_turn, else_of, guarded_of, item_data}
use Rattle.px_syntax.specs.Expr.{term_of as text_of}
use Rattle.px_syntax.proofs.Trees as trees
use Rattle.px_syntax.proofs.Trees.{in_turn}
use Rattle.px_expand.specs.Chain.{all_closed, branch_in}
use Rattle.px_expand.specs.Core.{actions_core, actions_in, actions_seen, block_seen, body_core, branch_core, branch_name, follows, form_of, name_of}
use Rattle.px_forms.specs.Forms.{counted, loop_path, repeated, where_found, where_not_found}
use Rattle.px_expand.specs.Kinds.{Children, shape_of}
use Rattle.px_forms.specs.Names.{body_name, else_name, loop_name, then_name}
use Rattle.px_forms.specs.Nodes.{Place, alone, child}
use Rattle.px_expand.specs.Children.{names_of, paths_of}
use Rattle.px_forms.specs.Placed.{node_of, place_terms, tree_in}
use Rattle.px_scope.specs.Scope.{here}
use Rattle.px_core.specs.Expr.{term_in}
use Rattle.px_core.specs.Plan.{trees_of}
use Rattle.px_expand.specs.Size.{actions_nodes, actions_reach, block_nodes, block_reach, body_nodes, body_reach}
use Rattle.px_expand.proofs.Actions.{fewer_left, length_seen, nodes_done, nodes_more, nodes_none, room, stands_at}
use Rattle.px_expand.proofs.Blocks.{block_here, block_inside, block_made, child_room, list_count, list_reach, list_seen}
use Rattle.px_expand.proofs.Chains.{chain_more, chain_opened, count_else, else_room, guarded_made, is_opened, room_before, room_for_set}
use Rattle.px_expand.proofs.Loops.{branch_count, branch_made, branch_room, for_made, guarded_count, guarded_room, while_made}
use Rattle.px_expand.proofs.block.+block.Goals as goal

pub actions-bounds-paths-number : goal.actions-bounds-paths-number
actions-bounds-paths-number t c =
    omega (arith, c.loop-number-test.true, ap length c.requires.paths, length_seen (λ child. child.1) (here c.args.scope.now) 1 c.args.actions.now)

pub actions-bounds-names-number : goal.actions-bounds-names-number
actions-bounds-names-number t c =
    omega (arith, c.loop-number-test.true, ap length c.requires.names, length_seen (λ child. child.0) (here c.args.scope.now) 1 c.args.actions.now)

pub actions-loop-number-preserved : goal.actions-loop-number-preserved
actions-loop-number-preserved t c =
    let path = here c.args.scope.now in
    let form = c.args.form in
    let n = c.loop-number.number in
    let action = c.index-actions-number.result in
    let place = c.in_ok-place.place in
    record {
      scope = c.in_ok-node.ensures.scope ∙ c.loop-number.invariant.scope;
      left =
          nodes_more c.args.scope.now path form c.args.actions.now n action (option_copied c.loop-number.behind) _ c.loop-number.nodes.items _
          c.in_ok-node.node.value (place_terms place) c.loop-number-test.true c.index-actions-number.is
          (stands_at path c.args.actions.now n action c.args.names.now c.args.paths.now c.index-names-number.result
          c.index-paths-number.result (place_terms place) (follows form (option_copied c.loop-number.behind)) c.loop-number-test.true
          c.index-actions-number.is c.requires.names c.requires.paths c.index-names-number.is c.index-paths-number.is c.in_ok-place.ensures)
          (c.in_ok-node.ensures.node
          ∙ ap (λ scope. alone (body_core scope (place_terms place) (body_of (out-Action action).body))) c.loop-number.invariant.scope)
          (ap (λ (at : Place). Some at.path) (sym c.in_ok-place.ensures)) c.in_ok-push.ensures c.loop-number.invariant.left;
    }

pub actions-returns-clause-nodes : goal.actions-returns-clause-nodes
actions-returns-clause-nodes t c =
    nodes_done c.args.scope.now (here c.args.scope.now) c.args.form c.args.actions.now c.loop-number.number
    (option_copied c.loop-number.behind) c.loop-number.nodes.items c.loop-number-test.false c.loop-number.invariant.left

pub actions-loop-number-init : goal.actions-loop-number-init
actions-loop-number-init t c = record {
  scope = refl;
  left =
      nodes_none c.args.scope.now (here c.args.scope.now) c.args.form c.args.actions.now c.in_ok-nodes.nodes.items
      c.in_ok-nodes.ensures.items c.requires.room;
}

pub actions-body-requires : goal.actions-body-requires
actions-body-requires t c =
    let path = here c.args.scope.now in
    let n = c.loop-number.number in
    let action = c.index-actions-number.result in (
      omega (arith, c.decreases, fewer_left c.args.actions.now n action c.loop-number-test.true c.index-actions-number.is),
      child_room (place_terms c.in_ok-place.place) path (name_of (n + 1) (action_of action)) _
          (body_reach (body_of (out-Action action).body))
          (stands_at path c.args.actions.now n action c.args.names.now c.args.paths.now c.index-names-number.result
          c.index-paths-number.result (place_terms c.in_ok-place.place) (follows c.args.form (option_copied c.loop-number.behind))
          c.loop-number-test.true c.index-actions-number.is c.requires.names c.requires.paths c.index-names-number.is
          c.index-paths-number.is c.in_ok-place.ensures)
          (room path c.args.actions.now n action c.loop-number-test.true c.index-actions-number.is
          c.loop-number.invariant.left.room).body,
    )

pub nodes_in-actions-requires : goal.nodes_in-actions-requires
nodes_in-actions-requires t c =
    let block = c.args.block.now in
    let path = here c.args.scope.now in
    let actions = c.deref.result.now in
    let reach : block_reach (block_of block) ≡ actions_reach 1 (in_turn actions) =
    list_reach (block_of block) c.in-Children.ensures ∙ ap (λ tree. actions_reach 1 (actions_in tree)) (trees.block_is block)
    ∙ ap (λ actions. actions_reach 1 (in_turn actions)) (sym c.deref.ensures.value) in
    let count : block_nodes (block_of block) ≡ 1 + actions_nodes (in_turn actions) =
    list_count (block_of block) c.in-Children.ensures ∙ ap (λ tree. 1 + actions_nodes (actions_in tree)) (trees.block_is block)
    ∙ ap (λ actions. 1 + actions_nodes (in_turn actions)) (sym c.deref.ensures.value) in
    let seen : block_seen path (block_of block) ≡ actions_seen path 1 (in_turn actions) =
    list_seen path (block_of block) c.in-Children.ensures ∙ ap (λ tree. actions_seen path 1 (actions_in tree)) (trees.block_is block)
    ∙ ap (λ actions. actions_seen path 1 (in_turn actions)) (sym c.deref.ensures.value) in (
      omega (arith, c.decreases, count),
      (
        subst (λ n. length path + n ≤ 5000) reach c.requires.room,
        (
          c.deref-in-Children.ensures.value ∙ c.requires.names ∙ ap names_of seen,
          c.deref-in-Children-2.ensures.value ∙ c.requires.paths ∙ ap paths_of seen,
        ),
      ),
    )

pub nodes_in-returns-in-Children-clause-nodes : goal.nodes_in-returns-in-Children-clause-nodes
nodes_in-returns-in-Children-clause-nodes t c =
    let block = c.args.block.now in
    let scope = c.args.scope.now in
    let path = here c.args.scope.now in
    let is : text.Braces (out-Block block).form (map item_data (out-Block block).items.items) (in_turn c.deref.result.now) ≡ block_of block =
    ap (λ actions. text.Braces (out-Block block).form (map item_data (out-Block block).items.items) (in_turn actions)) c.deref.ensures.value
    ∙ sym (trees.block_is block) in
    IfOk-weaker c.actions.result
    (λ nodes. trees_of nodes.items ≡ actions_core scope path (out-Block block).form None 1 (in_turn c.deref.result.now))
    (λ nodes. Children ≡ shape_of (block_of block)
    → trees_of nodes.items ≡ actions_core scope path (form_of (block_of block)) None 1 (actions_in (block_of block)))
    (λ nodes same list. same ∙ ap (λ tree. actions_core scope path (form_of tree) None 1 (actions_in tree)) is)
    c.actions.ensures.nodes

pub block-nodes_in-requires : goal.block-nodes_in-requires
block-nodes_in-requires t c =
    let tree = block_of c.args.block.now in
    let at = block_here c.args.scope.now c.enter_block.new.scope (place_terms c.args.place) tree c.in_ok-inside.ensures.scope in (
      omega (arith, c.decreases),
      (
        omega (arith, ap length at, c.requires),
        (
          c.in_ok-inside.ensures.names ∙ ap (λ path. names_of (block_seen path tree)) (sym at),
          c.in_ok-inside.ensures.paths ∙ ap (λ path. paths_of (block_seen path tree)) (sym at),
        ),
      ),
    )

pub block-shaped-requires-clause-scope : goal.block-shaped-requires-clause-scope
block-shaped-requires-clause-scope t c =
    (block_inside c.args.scope.now c.nodes_in.new.scope (place_terms c.args.place) (block_of c.args.block.now)
    (c.in_ok-nodes.ensures.scope ∙ c.in_ok-inside.ensures.scope)).0

pub block-returns-clause-scope : goal.block-returns-clause-scope
block-returns-clause-scope t c =
    c.leave.ensures
    ∙ (block_inside c.args.scope.now c.nodes_in.new.scope (place_terms c.args.place) (block_of c.args.block.now)
    (c.in_ok-nodes.ensures.scope ∙ c.in_ok-inside.ensures.scope)).1

pub block-returns-clause-node : goal.block-returns-clause-node
block-returns-clause-node t c =
    let tree = block_of c.args.block.now in
    let path = c.args.place.path in
    let inner = c.enter_block.new.scope in
    let at = block_here c.args.scope.now inner (place_terms c.args.place) tree c.in_ok-inside.ensures.scope in
    c.in_ok-node.ensures
    ∙ ap alone (block_made c.args.scope.now c.nodes_in.new.scope (place_terms c.args.place) tree c.in_ok-inside.inside.listed.paths.items
    (trees_of c.in_ok-nodes.nodes.items) (c.in_ok-nodes.ensures.scope ∙ c.in_ok-inside.ensures.scope) c.in_ok-inside.ensures.paths
    (λ list. c.in_ok-nodes.ensures.nodes list
    ∙ ap (λ path. actions_core inner path (form_of tree) None 1 (actions_in tree)) at
    ∙ ap (λ scope. actions_core scope path (form_of tree) None 1 (actions_in tree)) (sym c.in_ok-nodes.ensures.scope)))

pub body-block-requires : goal.body-block-requires
body-block-requires t c =
    let tree : body_of c.args.body.now ≡ text.Inner (block_of c.in-Block.inner) = ap body_of c.in-Block.is ∙ trees.inner c.in-Block.inner in
    (omega (arith, c.decreases, ap body_nodes tree), subst (λ tree. length c.args.place.path + body_reach tree ≤ 5000) tree c.requires)

pub body-returns-in-Block-clause-node : goal.body-returns-in-Block-clause-node
body-returns-in-Block-clause-node t c =
    let tree : body_of c.args.body.now ≡ text.Inner (block_of c.in-Block.inner) = ap body_of c.in-Block.is ∙ trees.inner c.in-Block.inner in
    subst (λ tree. IfOk c.block.result (λ node. tree_in node ≡ alone (body_core c.args.scope.now (place_terms c.args.place) tree)))
    (sym tree) c.block.ensures.node

pub body-while_loop-requires : goal.body-while_loop-requires
body-while_loop-requires t c =
    let tree : body_of c.args.body.now ≡ text.While (guarded_of c.in-While.guarded) =
    ap body_of c.in-While.is ∙ trees.while_loop c.in-While.guarded in
    (omega (arith, c.decreases, ap body_nodes tree), subst (λ tree. length c.args.place.path + body_reach tree ≤ 5000) tree c.requires)

pub body-returns-in-While-clause-node : goal.body-returns-in-While-clause-node
body-returns-in-While-clause-node t c =
    let tree : body_of c.args.body.now ≡ text.While (guarded_of c.in-While.guarded) =
    ap body_of c.in-While.is ∙ trees.while_loop c.in-While.guarded in
    subst (λ tree. IfOk c.while_loop.result (λ node. tree_in node ≡ alone (body_core c.args.scope.now (place_terms c.args.place) tree)))
    (sym tree) c.while_loop.ensures.node

pub body-for_loop-requires : goal.body-for_loop-requires
body-for_loop-requires t c =
    let own = c.in-For in
    let tree = ap body_of own.is ∙ trees.for_loop own.variable own.first own.test own.step own.branch in
    (omega (arith, c.decreases, ap body_nodes tree), subst (λ tree. length c.args.place.path + body_reach tree ≤ 5000) tree c.requires)

pub body-returns-in-For-clause-node : goal.body-returns-in-For-clause-node
body-returns-in-For-clause-node t c =
    let own = c.in-For in
    let fits : SFits w32 own.first = search rules in
    let tree = ap body_of own.is ∙ trees.for_loop own.variable own.first own.test own.step own.branch in
    let same = ap (λ (first : ℤ). text.For own.variable first (text_of own.test) (text_of own.step) (branch_of own.branch))
    (to_z-of_z w32 own.first fits) in
    subst (λ tree. IfOk c.for_loop.result (λ node. tree_in node ≡ alone (body_core c.args.scope.now (place_terms c.args.place) tree)))
    (same ∙ sym tree) c.for_loop.ensures.node

pub body-chain-requires : goal.body-chain-requires
body-chain-requires t c =
    let own = c.in-If in
    let tree : body_of c.args.body.now
    ≡ text.If (guarded_of own.first) (else_ifs_in_turn (map guarded_of c.deref.result.now)) (else_of (option_map branch_of own.otherwise)) =
    ap body_of own.is ∙ trees.if_chain own.first own.others own.otherwise
    ∙ ap (λ others. text.If (guarded_of own.first) (else_ifs_in_turn (map guarded_of others)) (else_of (option_map branch_of own.otherwise)))
    (sym c.deref.ensures.value) in
    (omega (arith, c.decreases, ap body_nodes tree), subst (λ tree. length c.args.place.path + body_reach tree ≤ 5000) tree c.requires)

pub body-returns-in-If-clause-node : goal.body-returns-in-If-clause-node
body-returns-in-If-clause-node t c =
    let own = c.in-If in
    let tree : body_of c.args.body.now
    ≡ text.If (guarded_of own.first) (else_ifs_in_turn (map guarded_of c.deref.result.now)) (else_of (option_map branch_of own.otherwise)) =
    ap body_of own.is ∙ trees.if_chain own.first own.others own.otherwise
    ∙ ap (λ others. text.If (guarded_of own.first) (else_ifs_in_turn (map guarded_of others)) (else_of (option_map branch_of own.otherwise)))
    (sym c.deref.ensures.value) in
    subst (λ tree. IfOk c.chain.result (λ node. tree_in node ≡ alone (body_core c.args.scope.now (place_terms c.args.place) tree)))
    (sym tree) c.chain.ensures.node

pub while_loop-block-requires : goal.while_loop-block-requires
while_loop-block-requires t c = (
  omega (arith, c.decreases, guarded_count c.args.guarded.now),
  guarded_room (place_terms c.in_ok-test.field-0.branch) c.args.place.path body_name (where_found c.args.place.path) c.args.guarded.now
      c.in_ok-test.ensures.branch c.requires,
)

pub while_loop-repeated-requires : goal.while_loop-repeated-requires
while_loop-repeated-requires t c =
    omega (arith, c.requires, room_for_set body_name (guarded_of c.args.guarded.now))

pub while_loop-returns-clause-scope : goal.while_loop-returns-clause-scope
while_loop-returns-clause-scope t c =
    on_ok c.repeated.result (c.leave.ensures ∙ ap (drop 1) (c.in_ok-node.ensures.scope ∙ c.in_ok-test.ensures.scope))

pub while_loop-returns-clause-node : goal.while_loop-returns-clause-node
while_loop-returns-clause-node t c =
    let place = place_terms c.args.place in
    let guarded = c.args.guarded.now in
    let made = c.in_ok-test.field-0 in
    let inner = c.into_while.new.scope in
    let own = child place.path (branch_name body_name (branch_in (guarded_of guarded))) (where_found place.path) in
    let branch : tree_in c.in_ok-node.node ≡ alone (branch_core inner own (branch_in (guarded_of guarded))) =
    guarded_made guarded inner (place_terms made.branch) own c.in_ok-node.node.value c.in_ok-node.ensures.node
    c.in_ok-test.ensures.branch in
    subst (λ tree. IfOk c.repeated.result (λ node. tree_in node ≡ tree))
    (ap (λ nodes. alone (repeated place (term_in made.test) made.paths.items (trees_of nodes))) c.in_ok-nodes.ensures
    ∙ while_made c.args.scope.now inner place (guarded_of guarded) (term_in made.test) made.paths.items (tree_in c.in_ok-node.node)
    c.in_ok-test.ensures.scope c.in_ok-test.ensures.test c.in_ok-test.ensures.paths branch)
    c.repeated.ensures

pub for_loop-into_for-requires : goal.for_loop-into_for-requires
for_loop-into_for-requires t c = omega (arith, c.requires)

pub for_loop-block-requires : goal.for_loop-block-requires
for_loop-block-requires t c =
    let path = c.args.place.path in
    let branch = c.args.branch.now in
    let far : length (loop_path path) ≡ length path + 6 = length-append path (46 ∷ loop_name) in (
      omega (arith, c.decreases, branch_count branch),
      branch_room (place_terms c.in_ok-inner.field-0.branch) (loop_path path) body_name (where_found (loop_path path)) branch
          c.in_ok-inner.ensures.branch (omega (arith, c.requires, far)),
    )

pub for_loop-counted-requires-clause-room : goal.for_loop-counted-requires-clause-room
for_loop-counted-requires-clause-room t c = omega (arith, c.requires)

pub for_loop-returns-clause-scope : goal.for_loop-returns-clause-scope
for_loop-returns-clause-scope t c =
    on_ok c.counted.result (c.leave.ensures ∙ ap (drop 1) (c.in_ok-node.ensures.scope ∙ c.in_ok-inner.ensures.scope))

pub for_loop-returns-clause-node : goal.for_loop-returns-clause-node
for_loop-returns-clause-node t c =
    let place = place_terms c.args.place in
    let branch = c.args.branch.now in
    let made = c.in_ok-inner.field-0 in
    let inner = c.into_for.new.scope in
    let path = loop_path place.path in
    let own = child path (branch_name body_name (branch_of branch)) (where_found path) in
    let fits : SFits w32 c.args.first = c.ranges.first in
    let same = ap (λ (first : ℤ). alone (counted place c.args.variable.now.name first (term_in made.turn.test)
    (term_in made.turn.next) c.in_ok-body.body (node_of c.in_ok-node.node.value))) (to_z-of_z w32 c.args.first fits) in
    subst (λ tree. IfOk c.counted.result (λ node. tree_in node ≡ tree))
    (same
    ∙ for_made c.args.scope.now inner place c.args.variable.now c.args.first (text_of c.args.test.now) (text_of c.args.step.now)
    (branch_of branch) (term_in made.turn.test) (term_in made.turn.next) c.in_ok-body.body c.in_ok-node.node.value
    c.in_ok-inner.ensures.scope c.in_ok-inner.ensures.test c.in_ok-inner.ensures.next
    (c.in_ok-body.ensures ∙ ap (λ (at : Place). at.path) c.in_ok-inner.ensures.branch)
    (branch_made inner (place_terms made.branch) own branch (tree_in c.in_ok-node.node) c.in_ok-node.ensures.node
    c.in_ok-inner.ensures.branch))
    c.counted.ensures

pub opened-block-requires : goal.opened-block-requires
opened-block-requires t c = (
  omega (arith, c.decreases, guarded_count c.args.guarded.now),
  guarded_room (place_terms c.in_ok-test.field-0.branch) c.args.place.path then_name (where_found c.args.place.path) c.args.guarded.now
      c.in_ok-test.ensures.branch c.requires.branch,
)

pub opened-invariant_of-result : goal.opened-invariant_of-result
opened-invariant_of-result t c =
    record { short = omega (arith, c.requires.branch, room_for_set then_name (guarded_of c.args.guarded.now)) }

pub opened-returns-clause-closed : goal.opened-returns-clause-closed
opened-returns-clause-closed t c =
    is_opened c.args.scope.now c.into_if.new.scope (place_terms c.args.place) (guarded_of c.args.guarded.now) c.args.behind
    _ _ _ c.in_ok-test.ensures.scope c.in_ok-test.ensures.test c.in_ok-test.ensures.paths
    (guarded_made c.args.guarded.now c.into_if.new.scope _ _ _ c.in_ok-branch.ensures.node c.in_ok-test.ensures.branch)

pub chain-opened-requires : goal.chain-opened-requires
chain-opened-requires t c = (
  omega (arith, c.decreases, c.loop-other.invariant.fewer),
  (
    omega (arith, c.loop-other.invariant.room),
    omega (
      arith,
      ap length c.in_ok-behind.ensures,
      room_before _ c.args.others.now _ _ _ c.loop-other.other-index
          c.other-item.result c.loop-other-test.true c.other-item.is _ _ _ _ c.loop-other.invariant,
    ),
  ),
)

pub chain-else_place-requires : goal.chain-else_place-requires
chain-else_place-requires t c =
    room_before _ c.args.others.now _ _ _
    c.loop-other.other-index c.other-item.result c.loop-other-test.true c.other-item.is _ _ _ _ c.loop-other.invariant

pub chain-loop-other-preserved : goal.chain-loop-other-preserved
chain-loop-other-preserved t c =
    chain_more _ c.args.others.now _ _ _ c.loop-other.other-index c.other-item.result c.loop-other-test.true c.other-item.is
    _ _ _ _ c.loop-other.invariant c.opened.new.scope c.in_ok-behind.behind c.in_ok-opened.field-0 (place_terms c.in_ok-next.next)
    c.push.new.self.items c.in_ok-behind.ensures c.in_ok-opened.ensures.scope c.in_ok-opened.ensures.closed
    c.in_ok-next.ensures c.in_ok-push.ensures.items

pub chain-last-requires : goal.chain-last-requires
chain-last-requires t c = (
  omega (arith, c.decreases, c.loop-other.invariant.fewer),
  (chain_opened _ c.args.others.now _ _ _ c.loop-other.other-index _ _ _ _ c.loop-other-test.false c.loop-other.invariant).0,
)

pub chain-returns-clause-scope : goal.chain-returns-clause-scope
chain-returns-clause-scope t c =
    on_ok_weaker c.close_all.result (λ left. left ∙ ap (drop (length c.loop-other.outer.items)) c.in_ok-node.ensures.scope
    ∙ c.loop-other.invariant.scope) c.close_all.ensures.scope

pub chain-returns-clause-node : goal.chain-returns-clause-node
chain-returns-clause-node t c =
    IfOk-weaker c.close_all.result _ _ (λ made is. is ∙ ap (all_closed c.loop-other.outer.items) c.in_ok-node.ensures.node
    ∙ (chain_opened _ c.args.others.now _ _ _ c.loop-other.other-index _ _ _ _ c.loop-other-test.false c.loop-other.invariant).1)
    c.close_all.ensures.node

pub last-opened-requires : goal.last-opened-requires
last-opened-requires t c = (omega (arith, c.decreases), (omega (arith, c.requires), tt))

pub last-opened-requires-2 : goal.last-opened-requires-2
last-opened-requires-2 t c =
    let room = else_room c.args.place.path (guarded_of c.args.guarded.now) c.args.otherwise.now c.in-Some.branch c.in-Some.is c.requires in (
      omega (arith, c.decreases),
      (room.before, omega (arith, room.name, ap length c.in_ok-name.ensures)),
    )

pub last-last_place-requires-clause-name : goal.last-last_place-requires-clause-name
last-last_place-requires-clause-name t c =
    let room = else_room c.args.place.path (guarded_of c.args.guarded.now) c.args.otherwise.now c.in-Some.branch c.in-Some.is c.requires in
    omega (arith, room.own, ap (λ (at : Place). length at.path) c.in_ok-opened-2.ensures.place)

pub last-block-requires : goal.last-block-requires
last-block-requires t c =
    let room = else_room c.args.place.path (guarded_of c.args.guarded.now) c.args.otherwise.now c.in-Some.branch c.in-Some.is c.requires in (
      omega (arith, c.decreases, ap count_else c.in-Some.is, branch_count c.in-Some.branch),
      branch_room (place_terms c.in_ok-own.own) c.in_ok-opened-2.opened.place.path else_name
          (where_not_found c.in_ok-opened-2.opened.place.path) c.in-Some.branch c.in_ok-own.ensures
          (omega (arith, room.reach, ap (λ (at : Place). length at.path) c.in_ok-opened-2.ensures.place)),
    )
