use Rattle.px_flat.specs.Rows.{sites_of}
use Rattle.px_flat.proofs.Slotted.{AreSlotted}
use Rattle.px_flat.proofs.names.slots_of.Given as goal

abbrev pub invariant-loop-i : goal.invariant-loop-i
invariant-loop-i l = AreSlotted (sites_of l.rows) l.slots.items l.i
