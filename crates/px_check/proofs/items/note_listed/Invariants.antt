use Rattle.std.proofs.Common.{◌≡◌, drop, flat_map}
use Rattle.px_syntax.specs.BlockFaults.{literal_fault}
use Rattle.px_syntax.specs.ValueType.{named_type}
use Rattle.px_check.specs.Found.{noted}
use Rattle.px_check.proofs.items.note_listed.Given as goal

abbrev pub invariant-loop-listed : goal.invariant-loop-listed
invariant-loop-listed l =
    noted l.found (flat_map (λ listed. literal_fault (named_type l.of_type) listed.value listed.token) (drop l.listed-index l.values))
    ≡ noted l.initial.found (flat_map (λ listed. literal_fault (named_type l.of_type) listed.value listed.token) l.values)
