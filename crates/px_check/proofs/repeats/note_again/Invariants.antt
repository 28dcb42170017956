use Rattle.std.proofs.Common.{◌≡◌, map, drop, bytes_eq}
use Rattle.px_syntax.specs.BlockFaults.{repeated, spots}
use Rattle.px_syntax.specs.declared.fault.FaultKind.TheVariants.{Redeclared}
use Rattle.px_check.specs.Found.{noted}
use Rattle.px_check.proofs.repeats.note_again.Given as goal

abbrev pub invariant-loop-identifier : goal.invariant-loop-identifier
invariant-loop-identifier l =
    noted l.found
    (repeated bytes_eq Redeclared (map (λ one. one.0) l.before) (spots (map (λ one. one.now) (drop l.identifier-index l.identifiers))))
    ≡ noted l.initial.found (repeated bytes_eq Redeclared (map (λ one. one.0) l.initial.before) (spots (map (λ one. one.now) l.identifiers)))
