-- Which core plans are too large.
use Rattle.std.specs.Prelude.{ℕ, ◌^◌, ◌-◌, min, Bool, not, ◌||◌, nat_lt}
use Rattle.std.specs.List.{list_all}
use Rattle.px_core.specs.Fit.{has_short_path}
use Rattle.px_core.specs.Plan.{Tree, count_of, sites}

-- over 4,096 nodes, or a path of over 5,000 bytes
abbrev pub is_too_large : Tree → Bool
is_too_large tree = nat_lt 4096 (count_of tree) || not (list_all has_short_path (sites tree))

-- the number of nodes that is told, which has 32 bits
abbrev pub told_nodes : Tree → ℕ
told_nodes tree = min (count_of tree) (2 ^ 32 - 1)
