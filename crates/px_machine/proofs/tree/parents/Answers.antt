use Rattle.std.proofs.Common.{◌≡◌, ◌<◌, ℕ, [], ◌∷◌, ◌++◌, length, map, All, Option, IfSome, ap, sym, ◌∙◌, subst, arith}
use Rattle.std.specs.List.{range_with_len}
use Rattle.std.proofs.lemmas.List.FromFn.{map-range_with_len_more}
use Rattle.px_flat.specs.Flat.{plan_of}
use Rattle.px_flat.specs.Row.{parent_number}
use Rattle.px_machine.proofs.Places.{all_parents}
use Rattle.px_machine.proofs.tree.parents.Goals as goal

pub loop-node-preserved : goal.loop-node-preserved
loop-node-preserved c =
    c.in_ok-push.ensures.items ∙ (λ i. c.loop-node.invariant i ++ c.row.ensures.parent i ∷ [])
    ∙ sym (map-range_with_len_more (parent_number (plan_of c.args.flat.now)) 0 c.loop-node.node c.loop-node.node (omega arith))

pub returns-clause-within : goal.returns-clause-within
returns-clause-within c =
    let plan = plan_of c.args.flat.now in
    let done : c.loop-node.node ≡ length plan =
    omega (arith, c.loop-node-test.false, c.loop-node.auto.node-end, c.nodes-node-end.ensures.count) in
    subst (All (λ (parent : Option ℕ). IfSome parent (λ parent. parent < length plan)))
    (sym (c.loop-node.invariant ∙ ap (λ n. map (parent_number plan) (range_with_len 0 n)) done)) (all_parents c.args.flat.now)
