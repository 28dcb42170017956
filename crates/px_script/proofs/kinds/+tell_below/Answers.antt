use Rattle.std.proofs.Common.{◌≡◌, ◌<◌, ◌++◌, ◌∷◌, [], true, ap, sym, ◌∙◌, subst, take, rules}
use Rattle.std.specs.List.{list_all}
use Rattle.std.proofs.lemmas.List.{take_all, take_more}
use Rattle.px_core.specs.Plan.{count_of, trees_of, below_it}
use Rattle.px_flat.proofs.Trees.{child_smaller, node_head, short_room}
use Rattle.px_script.specs.Telling.{TellKinds, kinds_under, has_short}
use Rattle.px_script.proofs.TellingKinds.{IsShortChild, short_child, told_next}
use Rattle.px_script.proofs.kinds.+tell_below.Goals as goal

pub child-requires : goal.child-requires
child-requires t c =
    let parent = c.args.path.now in
    let children = c.deref-child-items.result.now in
    let short : IsShortChild parent c.child-item.result = subst (IsShortChild parent) (sym c.child-item.is)
    (short_child parent children c.loop-child.child-index c.child-item.result c.loop-child-test.true (rw c.deref-child-items.ensures.value c.requires)) in
    short_room parent (node_head c.child-item.result).name short.own

pub tell_below-requires : goal.tell_below-requires
tell_below-requires t c =
    let parent = c.args.path.now in
    let child = c.child-item.result in
    let children = c.deref-child-items.result.now in
    let smaller : count_of (below_it child) < count_of (below_it c.args.node.now) =
    child_smaller c.args.node.now children c.loop-child.child-index child c.deref-child-items.ensures.value c.loop-child-test.true
    c.child-item.is in
    let short : IsShortChild parent child = subst (IsShortChild parent) (sym c.child-item.is)
    (short_child parent children c.loop-child.child-index child c.loop-child-test.true (rw c.deref-child-items.ensures.value c.requires)) in
    (search rules, subst (λ path. list_all has_short (kinds_under path (below_it child)) ≡ true) (sym c.in_ok-path.ensures) short.inner)

pub loop-child-preserved : goal.loop-child-preserved
loop-child-preserved t c =
    let parent = c.args.path.now in
    let old = c.args.kinds.now.entries in
    let i = c.loop-child.child-index in
    let child = c.child-item.result in
    let children = c.deref-child-items.result.now in
    let before = c.loop-child.kinds.entries in
    let told = c.tell.new.kinds.entries in
    let now = c.tell_below.new.kinds.entries in
    let next = told_next parent old before told now (take i children) child c.loop-child.invariant
    (subst (λ path. TellKinds told (before ++ (path, (node_head child).kind) ∷ [])) (c.in_ok-copy.ensures ∙ c.in_ok-path.ensures) c.in_ok-tell.ensures)
    (subst (λ path. TellKinds now (told ++ kinds_under path (below_it child))) c.in_ok-path.ensures c.in_ok-tell_below.ensures) in
    subst (λ nodes. TellKinds now (old ++ kinds_under parent (trees_of nodes)))
    (ap (λ node. take i children ++ node ∷ []) c.child-item.is ∙ sym (take_more children i child c.loop-child-test.true)) next

pub returns : goal.returns
returns t c =
    subst (λ nodes. TellKinds c.loop-child.kinds.entries (c.args.kinds.now.entries ++ kinds_under c.args.path.now (trees_of nodes)))
    (take_all c.loop-child.child-index c.deref-child-items.result.now c.loop-child-test.false ∙ c.deref-child-items.ensures.value)
    c.loop-child.invariant
