use Rattle.std.proofs.Common.{◌≡◌, ℕ, ◌+◌, ◌<◌, ◌≤◌, ◌++◌, ◌∷◌, [], List, length, set, take, ap, sym, ◌∙◌, subst, arith, rules, length-append, append_assoc}
use Rattle.std.proofs.lemmas.List.{take_all, take_more, set_at}
use Rattle.px_core.specs.declared.node.CoreNode.TheViews.{out-CoreNode}
use Rattle.px_core.specs.Plan.{count_of, trees_of, below_it}
use Rattle.px_flat.specs.Laying.{ends_from}
use Rattle.px_flat.proofs.Trees.{child_smaller, count_next, count_of_one, ends_of_more, ends_of_one, length-ends_from}
use Rattle.px_flat.proofs.ends.+push_ends.Goals as goal

pub push_ends-requires : goal.push_ends-requires
push_ends-requires t c =
    let children = c.deref-child-items.result.now in
    let i = c.loop-child.child-index in
    let child = c.child-item.result in
    let old = c.args.ends.now.items in
    let smaller : count_of (below_it child) < count_of (below_it c.args.node.now) =
    child_smaller c.args.node.now children i child c.deref-child-items.ensures.value c.loop-child-test.true
    c.child-item.is in
    let next : count_of (trees_of (take i children)) + (1 + count_of (below_it child)) ≤ count_of (trees_of children) =
    subst (λ node. count_of (trees_of (take i children)) + (1 + count_of (below_it node)) ≤ count_of (trees_of children))
    (sym c.child-item.is) (count_next children i child c.loop-child-test.true) in
    let all : count_of (trees_of children) ≡ count_of (below_it c.args.node.now) =
    ap (λ nodes. count_of (trees_of nodes)) c.deref-child-items.ensures.value in
    let long : length c.loop-child.ends.items ≡ length old + (1 + count_of (trees_of (take i children))) =
    ap length c.loop-child.invariant
    ∙ length-append old (0 ∷ ends_from (length old + 1) (trees_of (take i children)))
    ∙ ap (λ n. length old + n) (omega (arith, length-ends_from (length old + 1) (trees_of (take i children)))) in
    (search rules, omega (arith, c.requires.few, count_of_one c.args.node.now, count_of_one child))

pub loop-child-preserved : goal.loop-child-preserved
loop-child-preserved t c =
    let children = c.deref-child-items.result.now in
    let i = c.loop-child.child-index in
    let child = c.child-item.result in
    let old = c.args.ends.now.items in
    let done : List ℕ = ends_from (length old + 1) (trees_of (take i children)) in
    let long : length c.loop-child.ends.items ≡ length old + 1 + count_of (trees_of (take i children)) =
    omega (
      arith,
      ap length c.loop-child.invariant,
      length-append old (0 ∷ done),
      length-ends_from (length old + 1) (trees_of (take i children)),
    ) in
    c.in_ok-push_ends.ensures
    ∙ ap (λ n. c.loop-child.ends.items ++ ends_from n (trees_of (child ∷ []))) long
    ∙ ap (λ ends. ends ++ ends_from (length old + 1 + count_of (trees_of (take i children))) (trees_of (child ∷ []))) c.loop-child.invariant
    ∙ append_assoc old (0 ∷ done) (ends_from (length old + 1 + count_of (trees_of (take i children))) (trees_of (child ∷ [])))
    ∙ ap (λ more. old ++ 0 ∷ more) (sym (ends_of_more (length old + 1) (take i children) (child ∷ [])))
    ∙ ap (λ nodes. old ++ 0 ∷ ends_from (length old + 1) (trees_of nodes))
    (ap (λ node. take i children ++ node ∷ []) c.child-item.is ∙ sym (take_more children i child c.loop-child-test.true))

pub overflow_cast-len : goal.overflow_cast-len
overflow_cast-len t c =
    let children = c.deref-child-items.result.now in
    let old = c.args.ends.now.items in
    let all : count_of (trees_of (take c.loop-child.child-index children)) ≡ count_of (below_it c.args.node.now) =
    ap (λ nodes. count_of (trees_of nodes))
    (take_all c.loop-child.child-index children c.loop-child-test.false ∙ c.deref-child-items.ensures.value) in
    let done : List ℕ = ends_from (length old + 1) (trees_of (take c.loop-child.child-index children)) in
    let small : length c.loop-child.ends.items ≤ 4096 =
    omega (
      arith,
      ap length c.loop-child.invariant,
      length-append old (0 ∷ done),
      all,
      c.requires.few,
      length-ends_from (length old + 1) (trees_of (take c.loop-child.child-index children)),
      count_of_one c.args.node.now,
    ) in
    omega (arith, small, c.len.ensures, c.loop-child.ends.ok.0)

pub returns : goal.returns
returns t c =
    let children = c.deref-child-items.result.now in
    let old = c.args.ends.now.items in
    let node = c.args.node.now in
    let all : take c.loop-child.child-index children ≡ (out-CoreNode node).children.items =
    take_all c.loop-child.child-index children c.loop-child-test.false ∙ c.deref-child-items.ensures.value in
    let done : List ℕ = ends_from (length old + 1) (below_it node) in
    let laid : c.loop-child.ends.items ≡ old ++ 0 ∷ done =
    c.loop-child.invariant ∙ ap (λ nodes. old ++ 0 ∷ ends_from (length old + 1) (trees_of nodes)) all in
    let end : c.len.result ≡ length old + 1 + count_of (below_it node) =
    omega (
      arith,
      ap length laid,
      length-append old (0 ∷ done),
      c.len.ensures,
      c.loop-child.ends.ok.0,
      length-ends_from (length old + 1) (below_it node),
    ) in
    let number : length old ≡ c.len-number.result = omega (arith, c.len-number.ensures, c.args.ends.now.ok.0) in
    ap (λ ends. set ends c.len-number.result c.len.result) laid
    ∙ set_at old 0 done c.len.result c.len-number.result number
    ∙ ap (λ end. old ++ end ∷ done) end
    ∙ ap (λ ends. old ++ ends) (sym (ends_of_one (length old) node))
