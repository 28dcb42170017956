use Rattle.std.proofs.Common.{is_none, ap, ◌∙◌, subst, arith, inl, inr}
use Rattle.std.proofs.lemmas.Bool.{cases_eq, ne_eqb}
use Rattle.px_cached.proofs.OneList.{elsewhere, pushed_here}
use Rattle.px_machine.specs.Queue.{IsBehind}
use Rattle.px_machine.proofs.queue.all_behind.Goals as goal

pub loop-node-preserved : goal.loop-node-preserved
loop-node-preserved c =
    let old = c.loop-node.queue in
    let new = c.push_back_absent.new.self in
    let at = c.loop-node.node in
    let held = c.push_back_absent.ensures.holders in
    record {
      cells = c.push_back_absent.ensures.counts.0 ∙ c.loop-node.invariant.cells;
      lists = c.push_back_absent.ensures.counts.1 ∙ c.loop-node.invariant.lists;
      all = λ node few. elim (cases_eq at node) [
        | inl same ↦
            subst (IsBehind new) same (pushed_here old new at 0 held (ap is_none (c.loop-node.invariant.none at (omega arith))))
        | inr apart ↦
            elsewhere old new at 0 held node (ne_eqb at node apart) ∙ c.loop-node.invariant.all node (omega (arith, few, apart))
      ];
      none = λ node past.
          elsewhere old new at 0 held node (ne_eqb at node (λ same. absurd (omega (arith, same, past))))
          ∙ c.loop-node.invariant.none node (omega (arith, past));
    }
