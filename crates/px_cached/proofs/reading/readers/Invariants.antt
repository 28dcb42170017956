use Rattle.px_flat.specs.Flat.{plan_of}
use Rattle.px_cached.specs.Reading.{AreReadersBelow}
use Rattle.px_cached.proofs.reading.readers.Given as goal

abbrev pub invariant-loop-part : goal.invariant-loop-part
invariant-loop-part l = AreReadersBelow (plan_of l.flat) l.network l.readers.items l.part
