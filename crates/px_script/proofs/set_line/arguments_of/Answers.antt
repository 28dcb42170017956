use Rattle.std.proofs.Common.{sym, ◌∙◌}
use Rattle.px_script.proofs.Settings.{values_step}
use Rattle.px_script.proofs.set_line.arguments_of.Goals as goal

pub loop-place-preserved : goal.loop-place-preserved
loop-place-preserved c =
    rw c.in_ok-push.ensures.items
    (values_step c.args.places.now c.loop-place.place-index _ c.loop-place.values.items c.in-Some.value c.loop-place-test.true (sym c.in_ok-value.ensures ∙ c.in-Some.is))
    ∙ c.loop-place.invariant
