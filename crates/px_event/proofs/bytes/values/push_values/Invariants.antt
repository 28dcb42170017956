use Rattle.std.proofs.Common.{◌≡◌, ◌≤◌, ◌++◌, take}
use Rattle.std.specs.List.{flat_map}
use Rattle.std.specs.Vec.{vec_capacity}
use Rattle.px_event.specs.Bytes.{value_bytes}
use Rattle.px_event.proofs.bytes.values.push_values.Given as goal

-- the values so far are appended, and no room is lost
abbrev pub invariant-loop-value : goal.invariant-loop-value
invariant-loop-value l =
    (l.out.items ≡ l.fn.out.items ++ flat_map value_bytes (take l.value-index l.values))
    × (vec_capacity l.fn.out ≤ vec_capacity l.out)
