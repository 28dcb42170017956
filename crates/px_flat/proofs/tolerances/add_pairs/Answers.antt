use Rattle.std.proofs.Common.{fold, map, ap, sym, ◌∙◌}
use Rattle.std.proofs.lemmas.List.Folds.{flat_map-map}
use Rattle.px_flat.proofs.LookedUp.{all_had}
use Rattle.px_core.specs.Plan.{pair_data}
use Rattle.px_sem.specs.Tolerances.{tolerances_in, with_tolerance}
use Rattle.px_flat.proofs.tolerances.add_pairs.Goals as goal

pub returns : goal.returns
returns c =
    all_had with_tolerance (λ pair. tolerances_in pair.value) c.args.tolerances.now.items pair_data c.args.pairs.now c.loop-pair.pair-index _
    c.loop-pair-test.false c.loop-pair.invariant
    ∙ ap (fold with_tolerance c.args.tolerances.now.items) (sym (flat_map-map tolerances_in (λ pair. pair.value) (map pair_data c.args.pairs.now)))
