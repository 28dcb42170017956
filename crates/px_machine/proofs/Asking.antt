-- What each node is told is what its ancestors ask of it now.
use Rattle.std.proofs.Common.{◌≡◌, ℕ, zero, suc, ◌<◌, List, length, ap, ◌∙◌, arith, inl, inr}
use Rattle.px_core.specs.declared.conditions.ConditionKind.TheVariants as which
use Rattle.px_core.specs.Plan.{Site}
use Rattle.px_sem.specs.World.{World}
use Rattle.px_flat.specs.Row.{site_in, parent_number}
use Rattle.px_told.specs.declared.place.Place.{Place}
use Rattle.px_told.specs.Asking.{either}
use Rattle.px_told.specs.Preorder.{parent_of}
use Rattle.px_told.specs.Told as told
use Rattle.px_told.specs.Told.{own_at, told_at}
use Rattle.px_cached.specs.Cached.{kept_truth}
use Rattle.px_parts.specs.declared.parts.Parts.{Parts}
use Rattle.px_parts.specs.Parts.{AreStanding, plan_in, world_in}
use Rattle.px_micro.specs.Above.{asks_at, asks_in, asked_of}
use Rattle.px_micro.proofs.Ancestors.{placed}
use Rattle.px_micro.proofs.Seeing.{asked_at_top, asked_below_is, asked_under, asks_are}
use Rattle.px_machine.specs.declared.kept.Kept.{Kept}
use Rattle.px_machine.specs.Kept.{truths_of}
use Rattle.px_machine.specs.Right.{IsNow, IsRight}
use Rattle.px_machine.proofs.Places.{long, parent_at}
use Rattle.px_machine.proofs.Present.{own_now, truths_now}

-- what a node asks
pub asks_now : (parts : Parts) (kept : Kept) (node : ℕ) → AreStanding parts → IsRight parts kept → IsNow parts kept
    → node < length (plan_in parts)
    → own_at kept.told node ≡ asks_at (plan_in parts) (world_in parts) (site_in (plan_in parts) node).path
asks_now parts kept node stand right now here =
    (right.caught_up node here (now.nobody node)).asks
    ∙ (λ i. asks_in (own_now parts node now.seen i) (kept_truth kept.conditions node which.Exit)
    (kept_truth kept.conditions node which.Invariant) (kept_truth kept.conditions node which.End))
    ∙ asks_are parts node (truths_of kept node) here (truths_now parts kept node stand right now here)

-- by induction on a number above the node's: its parent stands before it
pub told_now : (parts : Parts) (kept : Kept) (node few : ℕ) → AreStanding parts → IsRight parts kept → IsNow parts kept
    → node < length (plan_in parts) → node < few → told_at kept.told node ≡ asked_of (plan_in parts) (world_in parts) node
told_now parts kept node zero stand right now here small = absurd (omega (arith, small))
told_now parts kept node (suc few) stand right now here small =
    let plan : List Site = plan_in parts in
    let world : World = world_in parts in
    let parent : parent_of kept.told.tree node ≡ parent_number plan node =
    ap (λ (tree : List Place). parent_of tree node) right.of_plan.tree ∙ parent_at plan node here in
    let inside : node < length kept.told.tree = omega (arith, here, ap length right.of_plan.tree, long plan) in
    right.agrees.told node inside ∙ ap (told.asked_under kept.told.own kept.told.told) parent
    ∙ elim (placed parts.flat node here) [
      | inl top ↦ ap (told.asked_under kept.told.own kept.told.told) top.number ∙ asked_at_top plan world node top
      | inr under ↦
          let above : under.parent < length plan = omega (arith, under.before, here) in
          ap (told.asked_under kept.told.own kept.told.told) under.number
          ∙ (λ i. either (asks_now parts kept under.parent stand right now above i)
          (told_now parts kept under.parent few stand right now above (omega (arith, under.before, small)) i))
          ∙ asked_below_is plan world under.parent ∙ asked_under plan world node under
    ]
