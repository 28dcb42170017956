use Rattle.std.proofs.Common.{◌≡◌, ℕ, ◌+◌, ◌*◌, option_map}
use Rattle.std.specs.Option.{option_copied}
use Rattle.px_syntax.specs.Block.{block_of, body_of, branch_of, else_of, guarded_of}
use Rattle.px_syntax.proofs.Trees.{in_turn}
use Rattle.px_expand.specs.Core.{chain_core, else_core, if_core}
use Rattle.px_forms.specs.Nodes.{alone}
use Rattle.px_forms.specs.Placed.{place_terms}
use Rattle.px_scope.specs.Scope.{here}
use Rattle.px_expand.specs.Size.{actions_nodes, block_nodes, body_nodes, branch_nodes, else_if_nodes, guarded_nodes}
use Rattle.px_expand.proofs.Actions.{NodesLeft}
use Rattle.px_expand.proofs.Chains.{ChainLeft, count_else, ifs}
use Rattle.px_expand.proofs.block.+block.Given as goal

abbrev pub invariant-actions-loop-number : goal.invariant-actions-loop-number
invariant-actions-loop-number l = record {
  scope : l.scope ≡ l.fn.scope;
  left : NodesLeft l.fn.scope (here l.fn.scope) l.form l.actions l.number (option_copied l.behind) l.nodes.items;
}

abbrev pub invariant-chain-loop-other : goal.invariant-chain-loop-other
invariant-chain-loop-other l =
    let last = else_of (option_map branch_of l.otherwise) in
    ChainLeft last l.others
    (alone (if_core l.fn.scope (place_terms l.fn.place) (chain_core (else_core last) (ifs l.others)) (guarded_of l.first)))
    l.fn.scope (guarded_nodes (guarded_of l.first) + else_if_nodes (ifs l.others))
    l.other-index l.scope (place_terms l.place) l.guarded l.outer.items

-- the nodes that are left to make, and how far a function may hand on to another at the same ones
abbrev left : ℕ → ℕ → ℕ
left nodes rank = 8 * nodes + rank

abbrev pub decreases-block : goal.decreases-block
decreases-block l = left (block_nodes (block_of l.block.now)) 1

abbrev pub decreases-nodes_in : goal.decreases-nodes_in
decreases-nodes_in l = left (block_nodes (block_of l.block.now)) 0

abbrev pub decreases-actions : goal.decreases-actions
decreases-actions l = left (actions_nodes (in_turn l.actions.now)) 5

abbrev pub decreases-body : goal.decreases-body
decreases-body l = left (body_nodes (body_of l.body.now)) 4

abbrev pub decreases-for_loop : goal.decreases-for_loop
decreases-for_loop l = left (branch_nodes (branch_of l.branch.now)) 2

abbrev pub decreases-while_loop : goal.decreases-while_loop
decreases-while_loop l = left (guarded_nodes (guarded_of l.guarded.now)) 1

abbrev pub decreases-opened : goal.decreases-opened
decreases-opened l = left (guarded_nodes (guarded_of l.guarded.now)) 1

abbrev pub decreases-chain : goal.decreases-chain
decreases-chain l =
    left (guarded_nodes (guarded_of l.first.now) + else_if_nodes (ifs l.others.now) + count_else l.otherwise.now) 3

abbrev pub decreases-last : goal.decreases-last
decreases-last l = left (guarded_nodes (guarded_of l.guarded.now) + count_else l.otherwise.now) 2
