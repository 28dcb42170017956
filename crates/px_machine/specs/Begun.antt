-- What is begun, with the settled world before it, and what of it is heard of.
use Rattle.std.specs.Prelude.{◌≡◌, ◌≢◌, ℕ, ◌<◌, Bool, true, false, [], length, Option, Some, None, IfSome}
use Rattle.std.specs.Option.{unwrap_or}
use Rattle.px_sem.specs.Stepper as stepper
use Rattle.px_sem.specs.World.{World}
use Rattle.px_flat.specs.Lookups.{lookups_of}
use Rattle.px_flat.specs.Sources.{IsSameReport}
use Rattle.px_parts.specs.declared.parts.Parts.{Parts}
use Rattle.px_parts.specs.Marks.{AreMarked, AreUnmarked}
use Rattle.px_parts.specs.Parts.{plan_in}
use Rattle.px_machine.specs.declared.begun.Begun.{Begun}
use Rattle.px_machine.specs.declared.begun.Begun.TheVariants as begun

abbrev pub begun_in : Begun → World → stepper.Pending
begun_in begun.Nothing settled = stepper.Nothing
begun_in begun.Start settled = stepper.Start
begun_in (begun.Event heard) settled = stepper.Event settled

abbrev pub heard_of : Begun → Option ℕ
heard_of begun.Nothing = None
heard_of begun.Start = None
heard_of (begun.Event heard) = heard

-- since the mark reports have changed under this name at most
abbrev pub HaveHeardOnly : Parts → Option ℕ → Type 0
HaveHeardOnly parts heard = (lookup : ℕ) (tolerance : Option ℕ) → lookup < length (lookups_of (plan_in parts))
    → heard ≢ Some lookup
    → IsSameReport (plan_in parts) (unwrap_or parts.reports.marked []) parts.reports.reports lookup tolerance

-- an event is begun behind a mark: its name is one of the plan's, and no other's reports have changed
pub record IsUnderWay (parts : Parts) (heard : Option ℕ) : Type 0 where
  pub marked : AreMarked parts
  pub name : IfSome heard (λ lookup. lookup < length (lookups_of (plan_in parts)))
  pub only : HaveHeardOnly parts heard

-- an event is begun
abbrev pub is_event : Begun → Bool
is_event begun.Nothing = false
is_event begun.Start = false
is_event (begun.Event heard) = true

-- a mark stands exactly where an event is begun
pub record IsMarkedFor (begun : Begun) (parts : Parts) : Type 0 where
  pub unmarked : is_event begun ≡ false → AreUnmarked parts
  pub under_way : is_event begun ≡ true → IsUnderWay parts (heard_of begun)
