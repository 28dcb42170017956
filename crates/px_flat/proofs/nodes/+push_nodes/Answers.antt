use Rattle.std.proofs.Common.{◌≡◌, ◌<◌, ◌++◌, ◌∷◌, [], List, take, ap, sym, ◌∙◌, rules, append_assoc}
use Rattle.std.specs.Borrow.{Bor}
use Rattle.std.proofs.lemmas.List.{map-append, take_all, take_more}
use Rattle.px_core.specs.declared.node.CoreNode.{CoreNode}
use Rattle.px_core.specs.declared.node.CoreNode.TheViews.{out-CoreNode}
use Rattle.px_core.specs.Plan.{Head, count_of, trees_of, below_it}
use Rattle.px_flat.specs.Laying.{heads_in, heads_of}
use Rattle.px_flat.proofs.Heads.{heads_of_more, heads_of_one}
use Rattle.px_flat.proofs.Trees.{child_smaller, node_head}
use Rattle.px_flat.proofs.nodes.+push_nodes.Goals as goal

pub push_nodes-requires : goal.push_nodes-requires
push_nodes-requires t c =
    let children = c.deref-child-items.result.now in
    let child = c.child-item.result in
    let smaller : count_of (below_it child) < count_of (below_it c.args.node.now) =
    child_smaller c.args.node.now children c.loop-child.child-index child c.deref-child-items.ensures.value c.loop-child-test.true
    c.child-item.is in
    search rules

pub loop-child-init : goal.loop-child-init
loop-child-init t c =
    ap heads_of c.in_ok-push.ensures.items
    ∙ map-append (λ (node : Bor CoreNode). node_head node.now) c.args.nodes.now.items (c.args.node ∷ [])

pub loop-child-preserved : goal.loop-child-preserved
loop-child-preserved t c =
    let children = c.deref-child-items.result.now in
    let i = c.loop-child.child-index in
    let child = c.child-item.result in
    let old : List Head = heads_of c.args.nodes.now.items in
    let head : Head = node_head c.args.node.now in
    let done : List Head = heads_in (trees_of (take i children)) in
    c.in_ok-push_nodes.ensures
    ∙ ap (λ heads. heads ++ heads_in (trees_of (child ∷ []))) c.loop-child.invariant
    ∙ append_assoc old (head ∷ done) (heads_in (trees_of (child ∷ [])))
    ∙ ap (λ more. old ++ head ∷ more) (sym (heads_of_more (take i children) (child ∷ [])))
    ∙ ap (λ nodes. old ++ head ∷ heads_in (trees_of nodes))
    (ap (λ node. take i children ++ node ∷ []) c.child-item.is ∙ sym (take_more children i child c.loop-child-test.true))

pub returns : goal.returns
returns t c =
    let children = c.deref-child-items.result.now in
    let old : List Head = heads_of c.args.nodes.now.items in
    let node = c.args.node.now in
    let all : take c.loop-child.child-index children ≡ (out-CoreNode node).children.items =
    take_all c.loop-child.child-index children c.loop-child-test.false ∙ c.deref-child-items.ensures.value in
    c.loop-child.invariant
    ∙ ap (λ nodes. old ++ node_head node ∷ heads_in (trees_of nodes)) all
    ∙ ap (λ heads. old ++ heads) (sym (heads_of_one node))
