use Rattle.std.proofs.Common.{◌≡◌, map, drop}
use Rattle.std.specs.List.{list_any}
use Rattle.px_syntax.specs.BlockFaults.{is_same_once}
use Rattle.px_check.specs.Once.{once_data}
use Rattle.px_check.proofs.once.Once.is_among.Given as goal

abbrev pub invariant-loop-one : goal.invariant-loop-one
invariant-loop-one l =
    list_any (is_same_once (once_data l.self)) (map once_data (drop l.one-index l.seen))
    ≡ list_any (is_same_once (once_data l.self)) (map once_data l.seen)
