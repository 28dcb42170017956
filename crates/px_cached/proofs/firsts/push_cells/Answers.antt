use Rattle.std.proofs.Common.{◌++◌, ◌∷◌, [], replicate, ap, sym, ◌∙◌}
use Rattle.std.proofs.lemmas.Grind.{replicate_next}
use Rattle.std.proofs.lemmas.List.{append_assoc}
use Rattle.px_cached.proofs.firsts.push_cells.Goals as goal

pub loop-preserved : goal.loop-preserved
loop-preserved c =
    let before = c.args.firsts.now.items in
    let first = c.len-first.result in
    c.in_ok-push.ensures.items
    ∙ ap (λ firsts. firsts ++ first ∷ []) c.loop.invariant
    ∙ append_assoc before (replicate c.loop.counter first) (first ∷ [])
    ∙ ap (λ own. before ++ own) (sym (replicate_next c.loop.counter first))
