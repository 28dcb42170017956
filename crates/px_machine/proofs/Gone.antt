-- Who was not chosen is still. (The queue after a step: Requeueing.)
use Rattle.std.proofs.Common.{ℕ, ◌<◌, List, length, IsSome, refl, sym, subst}
use Rattle.px_value.proofs.General.{none_from}
use Rattle.px_parts.specs.declared.parts.Parts.{Parts}
use Rattle.px_parts.specs.Parts.{AreStanding, plan_in, world_in}
use Rattle.px_micro.specs.declared.sight.Going.{Going}
use Rattle.px_micro.specs.Going.{AreAllGoing}
use Rattle.px_machine.specs.declared.kept.Kept.{Kept}
use Rattle.px_machine.specs.Contest.{HasLooked}
use Rattle.px_machine.specs.Queue.{IsGoer}
use Rattle.px_machine.specs.Right.{IsNow, IsRight}
use Rattle.px_machine.specs.Still.{IsStill, free_arrival}
use Rattle.px_machine.proofs.Choosing.{free_goes}

-- Who doesn't go is still: its mark is exact, and where it would go without asking for a variable, it goes.
pub others_still : (parts : Parts) (kept : Kept) (looked going : List Going) → AreStanding parts → IsRight parts kept → IsNow parts kept
    → HasLooked parts kept looked → AreAllGoing (plan_in parts) (world_in parts) going
    → (node : ℕ) → node < length (plan_in parts) → (IsGoer going node → ⊥) → IsStill parts kept node
others_still parts kept looked going stand right now found all node here apart = record {
  marked = found.marked node here;
  stays = none_from (free_arrival parts kept node) (λ arrival is.
      apart (all.all node here (subst IsSome (sym (free_goes parts kept stand right now node arrival here is)) refl)));
}
