use Rattle.px_value.proofs.General.{begins_further, on_err}
use Rattle.px_sem.specs.Text.{value_text}
use Rattle.px_trace.proofs.Appends.{keeps_on}
use Rattle.px_trace.proofs.Parting.{parted_begun}
use Rattle.px_trace.proofs.values.push_parted.Goals as goal

pub loop-value-init : goal.loop-value-init
loop-value-init c =
    let first = c.in_ok-push_value.ensures.ok in
    let moved = c.into_iter-value-iterator.ensures.into_iter_gives in (
      parted_begun value_text c.args.values.now c.in-Some.first.now _ _ _
          (cc (c.iter-values.ensures.rest, c.in-Some.ensures.steps, moved)) first,
      keeps_on _ _ _ first,
    )

pub returns-in_err-push_value-2-clause-err : goal.returns-in_err-push_value-2-clause-err
returns-in_err-push_value-2-clause-err c =
    let comma = begins_further _ _ _ c.loop-value.invariant.1 (keeps_on _ _ _ c.in_ok-push_all.ensures.ok) in
    on_err _ (begins_further _ _ _ comma c.in_err-push_value-2.ensures.err)
