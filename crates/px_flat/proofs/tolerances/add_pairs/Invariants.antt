use Rattle.std.proofs.Common.{◌≡◌, fold, take}
use Rattle.std.specs.List.{flat_map}
use Rattle.px_core.specs.Expr.{term_of}
use Rattle.px_sem.specs.Tolerances.{tolerances_in, with_tolerance}
use Rattle.px_flat.proofs.tolerances.add_pairs.Given as goal

abbrev pub invariant-loop-pair : goal.invariant-loop-pair
invariant-loop-pair l = l.tolerances.items
    ≡ fold with_tolerance l.fn.tolerances.items (flat_map (λ pair. tolerances_in (term_of pair.value)) (take l.pair-index l.pairs))
