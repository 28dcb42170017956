use Rattle.std.proofs.Common.{◌≡◌, map, take}
use Rattle.px_scope.specs.Resolving.{literal_value}
use Rattle.px_scope.proofs.items.first_values.Given as goal

abbrev pub invariant-loop-listed : goal.invariant-loop-listed
invariant-loop-listed l = l.made.items ≡ map (λ listed. literal_value listed.value) (take l.listed-index l.listed-items)
