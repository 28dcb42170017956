use Rattle.std.proofs.Common.{fold, map, ap, sym, ◌∙◌}
use Rattle.std.proofs.lemmas.List.Folds.{flat_map-map}
use Rattle.px_flat.proofs.LookedUp.{all_had}
use Rattle.px_core.specs.Plan.{pair_data}
use Rattle.px_flat.specs.Lookups.{with_name, lookups_in}
use Rattle.px_flat.proofs.lookups.add_pairs.Goals as goal

pub returns : goal.returns
returns c =
    all_had with_name (λ pair. lookups_in pair.value) c.args.names.now.keys pair_data c.args.pairs.now c.loop-pair.pair-index _
    c.loop-pair-test.false c.loop-pair.invariant
    ∙ ap (fold with_name c.args.names.now.keys) (sym (flat_map-map lookups_in (λ pair. pair.value) (map pair_data c.args.pairs.now)))
