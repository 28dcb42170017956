use Rattle.std.proofs.Common.{◌≡◌, ◌++◌, codes, flat_map}
use Rattle.std.specs.List.{join_by}
use Rattle.std.specs.Slice.Iter.{iter_rest}
use Rattle.px_sem.specs.Text.{value_text}
use Rattle.px_trace.specs.Appending.{Keeps}
use Rattle.px_trace.proofs.values.push_parted.Given as goal

-- the text so far, and then that of the values that are left
abbrev pub invariant-loop-value : goal.invariant-loop-value
invariant-loop-value l =
    (l.out.items ++ flat_map (λ value. codes ", " ++ value_text value) (iter_rest l.value-iterator)
    ≡ l.fn.out.items ++ join_by value_text (codes ", ") l.fn.values)
    × Keeps l.fn.out.items l.out.items
