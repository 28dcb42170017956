use Rattle.std.proofs.Common.{◌≡◌, fold, take}
use Rattle.std.specs.List.{flat_map}
use Rattle.px_core.specs.Expr.{term_of}
use Rattle.px_flat.specs.Lookups.{with_name, lookups_in}
use Rattle.px_flat.proofs.lookups.add_pairs.Given as goal

abbrev pub invariant-loop-pair : goal.invariant-loop-pair
invariant-loop-pair l = l.names.keys
    ≡ fold with_name l.fn.names.keys (flat_map (λ pair. lookups_in (term_of pair.value)) (take l.pair-index l.pairs))
