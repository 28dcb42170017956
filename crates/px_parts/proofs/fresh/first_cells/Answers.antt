use Rattle.std.proofs.Common.{◌++◌, ap, ◌∙◌, replicate}
use Rattle.std.proofs.lemmas.List.{append_assoc}
use Rattle.std.proofs.Concat.{repeat_push}
use Rattle.px_value.specs.declared.value.Value.TheVariants as values
use Rattle.px_flat.specs.Flat.{plan_of}
use Rattle.px_flat.specs.Layout.{variable_cells}
use Rattle.px_parts.specs.Fresh.{at_rest, all_at_rest}
use Rattle.px_parts.proofs.fresh.first_cells.Goals as goal

pub loop-preserved : goal.loop-preserved
loop-preserved c =
    let front = replicate (variable_cells (plan_of c.args.flat.now)) values.Unknown in
    c.in_ok-push_node.ensures ∙ ap (λ cells. cells ++ at_rest) c.loop.invariant
    ∙ append_assoc front (all_at_rest c.loop.counter) at_rest
    ∙ ap (λ nodes. front ++ nodes) (repeat_push c.loop.counter at_rest)
