-- RIGHT: all that is kept is right of what was last seen. Of the present it says nothing, so what changes the world alone
-- owes it nothing. (That kept conditions are right in what was seen is what px_cached keeps, and that no wanted variable is
-- free unless it is in play is what px_assign keeps.)
use Rattle.px_parts.specs.declared.parts.Parts.{Parts}
use Rattle.px_parts.specs.Parts.{plan_in}
use Rattle.px_parts.specs.Seen.{AreAllSeen}
use Rattle.px_cached.specs.Cached.{AreFresh, present_in}
use Rattle.std.specs.Prelude.{length}
use Rattle.px_machine.specs.declared.kept.Kept.{Kept}
use Rattle.px_machine.specs.Kept.{IsOfPlan}
use Rattle.px_machine.specs.Queue.{NobodyIsBehind}
use Rattle.px_machine.specs.Still.{AreStill}
use Rattle.px_machine.specs.Told.{Agrees, AreCaughtUp}

pub record IsRight (parts : Parts) (kept : Kept) : Type 0 where
  pub of_plan : IsOfPlan (plan_in parts) kept
  pub agrees : Agrees (length (plan_in parts)) kept
  pub caught_up : AreCaughtUp parts kept
  pub still : AreStill parts kept

-- what was seen is the present, and nobody is behind: so what is kept is right of the present
pub record IsNow (parts : Parts) (kept : Kept) : Type 0 where
  pub seen : AreAllSeen parts
  pub fresh : AreFresh kept.conditions (present_in parts.cells parts.reports)
  pub nobody : NobodyIsBehind kept.queue
