use Rattle.std.proofs.Common.{◌≡◌, ◌++◌, ◌∷◌, [], filter, append-nil, true, false, rules, ap, sym, ◌∙◌, ℕ, Bool}
use Rattle.std.specs.List.{range_with_len}
use Rattle.px_sem.specs.Guards.{is_active}
use Rattle.px_sem.specs.World.{state_at}
use Rattle.px_flat.specs.Row.{site_in}
use Rattle.px_parts.specs.Parts.{plan_in, world_in}
use Rattle.px_micro.proofs.Lists.{range_filter_more}
use Rattle.px_micro.proofs.wanting.holding.Goals as goal
use Rattle.px_micro.proofs.wanting.holding.Goals.{then-is_active+in_ok-push, else-is_active}

pub loop-node-preserved : goal.loop-node-preserved
loop-node-preserved c =
    let parts = c.args.parts.now in
    let node = c.loop-node.node in
    let test : ℕ → Bool = λ node. is_active (state_at (world_in parts) (site_in (plan_in parts) node).path) in
    let judged : test node ≡ c.is_active.result = ap is_active (sym c.state_at.ensures) ∙ sym c.is_active.ensures in
    elim c.if-is_active.branch [
      | then-is_active+in_ok-push w ↦
          let pushed : c.if-is_active.nodes.items ≡ c.loop-node.nodes.items ++ node ∷ [] = search rules in
          pushed ∙ ap (λ kept. kept ++ node ∷ []) c.loop-node.invariant
          ∙ sym (range_filter_more test node true (judged ∙ w.if-is_active.true))
      | else-is_active w ↦
          let same : c.if-is_active.nodes.items ≡ c.loop-node.nodes.items = search rules in
          same ∙ c.loop-node.invariant ∙ sym (append-nil (filter test (range_with_len 0 node)))
          ∙ sym (range_filter_more test node false (judged ∙ w.if-is_active.false))
    ]
