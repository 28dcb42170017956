use Rattle.std.proofs.Common.{◌-◌}
use Rattle.px_told.proofs.Handing.{IsHandedOn}
use Rattle.px_told.proofs.walk.hand_on.Given as goal

abbrev pub decreases-below : goal.decreases-below
decreases-below l = l.end - l.at

abbrev pub invariant-below : goal.invariant-below
invariant-below l = IsHandedOn l.tree l.own l.initial.told l.told l.initial.heard l.heard l.list l.node l.at
