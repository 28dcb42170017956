use Rattle.std.proofs.Common.{◌≡◌, ◌++◌, codes, flat_map}
use Rattle.std.specs.List.{join_by, zip}
use Rattle.std.specs.Iterator.Adapters.{zip_first, zip_second}
use Rattle.std.specs.Slice.Iter.{iter_rest}
use Rattle.px_sem.specs.Text.{pair_text}
use Rattle.px_trace.specs.Appending.{Keeps}
use Rattle.px_trace.proofs.effects.push_pairs.Given as goal

-- the text so far, and then that of the pairs that are left
abbrev pub invariant-loop-name : goal.invariant-loop-name
invariant-loop-name l =
    (l.out.items ++ flat_map (λ pair. codes ", " ++ pair_text pair)
    (zip (iter_rest (zip_first l.name-iterator)) (iter_rest (zip_second l.name-iterator)))
    ≡ l.fn.out.items ++ join_by pair_text (codes ", ") (zip l.fn.names l.fn.values))
    × Keeps l.fn.out.items l.out.items
