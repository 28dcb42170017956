use Rattle.std.proofs.Common.{◌≡◌, ◌∷◌, ◌++◌, [], get_or, take, sym, subst}
use Rattle.std.specs.BTreeMap.{get}
use Rattle.std.specs.Ordering.{nat_cmp}
use Rattle.std.proofs.lemmas.List.{take_more}
use Rattle.px_flat.specs.Flat.{plan_of}
use Rattle.px_assign.specs.Contending.{IsFirst}
use Rattle.px_assign.proofs.Staying.{first_within, one_more}
use Rattle.px_assign.proofs.contenders.first_writers.Goals as goal

pub claim-requires-clause-within : goal.claim-requires-clause-within
claim-requires-clause-within c = λ variable other is.
    first_within (plan_of c.args.flat.now) variable c.args.wanting.now c.loop-node.node-index other c.requires
    (subst (IsFirst (plan_of c.args.flat.now) variable (take c.loop-node.node-index c.args.wanting.now)) is
    (c.loop-node.invariant variable))

pub loop-node-preserved : goal.loop-node-preserved
loop-node-preserved c = λ variable.
    let plan = plan_of c.args.flat.now in
    let now : get nat_cmp c.claim.new.first variable ≡ _ = c.in_ok-claim.ensures variable in
    subst (λ nodes. IsFirst plan variable nodes (get nat_cmp c.claim.new.first variable))
    (sym (take_more c.args.wanting.now c.loop-node.node-index 0 c.loop-node-test.true))
    (subst (IsFirst plan variable (take c.loop-node.node-index c.args.wanting.now ++ get_or c.args.wanting.now c.loop-node.node-index 0 ∷ []))
    (sym now)
    (one_more plan variable (take c.loop-node.node-index c.args.wanting.now) (get_or c.args.wanting.now c.loop-node.node-index 0)
    (get nat_cmp c.loop-node.first variable) (c.loop-node.invariant variable)))
