use Rattle.std.proofs.Common.{◌≡◌, take, filter, not, nat_eq}
use Rattle.std.specs.List.{list_any}
use Rattle.px_micro.proofs.wanting.staying.Given as goal

abbrev pub invariant-loop-one : goal.invariant-loop-one
invariant-loop-one l =
    l.kept.items ≡ filter (λ one. not (list_any (nat_eq one.node) l.losers)) (take l.one-index l.wanted)
