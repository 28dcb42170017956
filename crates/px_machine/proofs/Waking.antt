-- How far a walk over a node's children has come, each of whom is woken.
use Rattle.std.proofs.Common.{◌≡◌, ℕ, ◌<◌, ◌≤◌, false, List, length, Some, refl, sym, subst, arith, inl, inr}
use Rattle.px_core.specs.Plan.{Site}
use Rattle.px_flat.specs.declared.flat.Flat.{Flat}
use Rattle.px_flat.specs.Flat.{plan_of}
use Rattle.px_flat.specs.Row.{after_last, parent_number}
use Rattle.px_flat.proofs.Tables.{flat_sound}
use Rattle.px_links.specs.Links.{LinksData, is_absent}
use Rattle.px_cached.proofs.OneList.{still_waits}
use Rattle.px_micro.proofs.Families.{behind, child_below, is_child}
use Rattle.px_micro.proofs.Passing.{HavePassed, passed_child, passed_more}
use Rattle.px_machine.specs.Queue.{Wakes}
use Rattle.px_machine.proofs.Waiting.{wakes_both}

-- the children among those passed wait
pub record HasWokenBefore (plan : List Site) (node next : ℕ) (old new : LinksData) : Type 0 where
  pub passed : HavePassed plan node next
  pub waits : (child : ℕ) → node < child → child < next → child < length plan → parent_number plan child ≡ Some node
      → is_absent new child ≡ false
  pub wakes : Wakes old new

-- behind the last descendant of the next
pub woken_more : (flat : Flat) (node next : ℕ) (old middle new : LinksData) → node < length (plan_of flat) → next < length (plan_of flat)
    → HasWokenBefore (plan_of flat) node next old middle → Wakes middle new → is_absent new next ≡ false
    → HasWokenBefore (plan_of flat) node (after_last (plan_of flat) next) old new
woken_more flat node next old middle new here there woken wakes waits =
    let end : ℕ = after_last (plan_of flat) next in
    record {
      passed = passed_more flat node next end there refl woken.passed;
      waits = λ child after before inside is.
          elim (passed_child flat node next end there refl woken.passed child here before inside (is_child flat node child inside is)) [
            | inl earlier ↦ still_waits 1 middle new child wakes.added (woken.waits child after earlier inside is)
            | inr same ↦ subst (λ n. is_absent new n ≡ false) (sym same) waits
          ];
      wakes = wakes_both old middle new woken.wakes wakes;
    }

-- a child is below its parent, so it stands before the number after the last descendant
pub all_woken : (flat : Flat) (node next : ℕ) (old new : LinksData) → node < length (plan_of flat)
    → after_last (plan_of flat) node ≤ next → HasWokenBefore (plan_of flat) node next old new → (child : ℕ)
    → child < length (plan_of flat) → parent_number (plan_of flat) child ≡ Some node → is_absent new child ≡ false
all_woken flat node next old new here past woken child there is =
    let place = behind (plan_of flat) node child (flat_sound flat) here there
    (child_below flat node child here there (is_child flat node child there is)) in
    woken.waits child place.0 (omega (arith, place.1, past)) there is
