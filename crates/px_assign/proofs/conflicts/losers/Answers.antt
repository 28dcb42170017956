use Rattle.std.proofs.Common.{append-nil, ◌≡◌, ℕ, Bool, List, cond, ◌∷◌, ◌++◌, [], get_or, take, filter, nat_eq, true, false, rules, sym, ap, ◌∙◌}
use Rattle.std.specs.Cmp.{nat_eq_equiv}
use Rattle.std.proofs.lemmas.List.{take_all}
use Rattle.std.proofs.lemmas.List.Elements.{filter_more}
use Rattle.std.proofs.lemmas.List.Folds.{list_any_at}
use Rattle.px_flat.specs.Flat.{plan_of}
use Rattle.px_flat.proofs.Tables.{flat_sound}
use Rattle.px_assign.specs.Conflicts.{is_loser}
use Rattle.px_assign.proofs.Staying.{stays_as_loser}
use Rattle.px_assign.proofs.Ties.{losers_alike}
use Rattle.px_assign.proofs.conflicts.losers.Goals as goal
use Rattle.px_assign.proofs.conflicts.losers.Goals.{then-stays+in_ok-push, else-stays}

pub loop-node-preserved : goal.loop-node-preserved
loop-node-preserved c =
    let plan = plan_of c.args.flat.now in
    let wanting = c.args.wanting.now in
    let i = c.loop-node.node-index in
    let test = is_loser plan wanting c.args.holding.now in
    let judged : test (get_or wanting i 0) ≡ c.stays.result =
    sym (stays_as_loser plan wanting c.args.holding.now _ _ (get_or wanting i 0) c.in_ok-held.ensures c.in_ok-first.ensures
    (list_any_at (nat_eq (get_or wanting i 0)) wanting i 0 c.loop-node-test.true (nat_eq_equiv.refl (get_or wanting i 0))))
    ∙ sym c.stays.ensures in
    let more = filter_more test wanting i 0 c.loop-node-test.true in
    let kept : Bool → List ℕ = λ is. filter test (take i wanting) ++ cond is (get_or wanting i 0 ∷ []) [] in
    elim c.if-stays.branch [
      | then-stays+in_ok-push w ↦
          let pushed : c.if-stays.losers.items ≡ c.loop-node.losers.items ++ get_or wanting i 0 ∷ [] = search rules in
          pushed ∙ ap (λ kept. kept ++ get_or wanting i 0 ∷ []) c.loop-node.invariant
          ∙ sym (more ∙ ap kept (judged ∙ w.if-stays.true))
      | else-stays w ↦
          let same : c.if-stays.losers.items ≡ c.loop-node.losers.items = search rules in
          same ∙ c.loop-node.invariant ∙ sym (append-nil (filter test (take i wanting)))
          ∙ sym (more ∙ ap kept (judged ∙ w.if-stays.false))
    ]

pub returns-clause-nodes : goal.returns-clause-nodes
returns-clause-nodes c = λ world are.
    c.loop-node.invariant
    ∙ ap (filter (is_loser (plan_of c.args.flat.now) c.args.wanting.now c.args.holding.now))
    (take_all c.loop-node.node-index c.args.wanting.now c.loop-node-test.false)
    ∙ losers_alike (plan_of c.args.flat.now) world c.args.wanting.now c.args.holding.now (flat_sound c.args.flat.now)
    c.requires.wanting c.requires.holding are
