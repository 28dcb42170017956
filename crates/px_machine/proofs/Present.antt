-- Once all is seen and caught up, what is kept of a node is what is so of it.
use Rattle.std.proofs.Common.{◌≡◌, ℕ, ◌<◌, [], List, length, refl, ap, ◌∙◌, arith, inl, inr}
use Rattle.px_core.specs.declared.conditions.ConditionKind.{ConditionKind}
use Rattle.px_core.specs.declared.conditions.ConditionKind.TheVariants as which
use Rattle.px_core.specs.Plan.{Site}
use Rattle.px_sem.specs.World.{NodeRecord, parent_state as parent_state_at}
use Rattle.px_flat.specs.Numbered.{numbered_conditions}
use Rattle.px_flat.specs.Row.{site_in, parent_number}
use Rattle.px_cached.specs.Cached.{kept_truth, present_in}
use Rattle.px_cached.specs.Conditions.{condition_in, truth_in}
use Rattle.px_parts.specs.declared.parts.Parts.{Parts}
use Rattle.px_parts.specs.Parts.{AreStanding, plan_in, world_in, record_of}
use Rattle.px_parts.specs.Seen.{AreAllSeen}
use Rattle.px_micro.specs.Truths.{truths_in}
use Rattle.px_micro.proofs.Ancestors.{placed}
use Rattle.px_micro.proofs.Seeing.{parent_at_top, parent_is, truths_are}
use Rattle.px_machine.specs.declared.kept.Kept.{Kept}
use Rattle.px_machine.specs.Kept.{own_in, own_seen, parent_state, truths_of}
use Rattle.px_machine.specs.Right.{IsNow, IsRight}

-- its record, its variables apart: the seen cells and acts are the present ones
pub own_now : (parts : Parts) (node : ℕ) → AreAllSeen parts
    → own_seen parts node ≡ record (record_of parts node) { variables = [] }
own_now parts node seen i = own_in (plan_in parts) (seen.cells.0 i) (seen.actions.0 i) node

-- so its state is the one that was seen
pub state_seen : (parts : Parts) (node : ℕ) → AreAllSeen parts → (own_seen parts node).state ≡ (record_of parts node).state
state_seen parts node seen = ap (λ (r : NodeRecord). r.state) (own_now parts node seen)

-- its parent's state
pub parent_now : (parts : Parts) (kept : Kept) (node : ℕ) → IsRight parts kept → IsNow parts kept → node < length (plan_in parts)
    → parent_state kept (parent_number (plan_in parts) node) ≡ parent_state_at (world_in parts) (site_in (plan_in parts) node)
parent_now parts kept node right now here = elim (placed parts.flat node here) [
  | inl top ↦ ap (parent_state kept) top.number ∙ parent_at_top parts node top
  | inr under ↦
      ap (parent_state kept) under.number
      ∙ (right.caught_up under.parent (omega (arith, under.before, here)) (now.nobody under.parent)).state
      ∙ state_seen parts under.parent now.seen
      ∙ parent_is parts node under here
]

-- the truth of each condition
pub truth_now : (parts : Parts) (kept : Kept) (node : ℕ) (kind : ConditionKind) → IsRight parts kept → IsNow parts kept
    → node < length (plan_in parts)
    → kept_truth kept.conditions node kind
    ≡ truth_in (plan_in parts) (present_in parts.cells parts.reports) (condition_in (plan_in parts) node kind)
truth_now parts kept node kind right now here =
    now.fresh node kind (omega (arith, here, ap length right.of_plan.conditions))
    ∙ ap (λ (plan : List Site). truth_in plan (present_in parts.cells parts.reports) (condition_in plan node kind))
    right.of_plan.conditions

pub truths_now : (parts : Parts) (kept : Kept) (node : ℕ) → AreStanding parts → IsRight parts kept → IsNow parts kept
    → node < length (plan_in parts)
    → truths_of kept node ≡ truths_in (plan_in parts) (world_in parts) (site_in (plan_in parts) node).head.conditions
truths_now parts kept node stand right now here =
    (λ i. record {
      start = truth_now parts kept node which.Start right now here i;
      end = truth_now parts kept node which.End right now here i;
      exit = truth_now parts kept node which.Exit right now here i;
      skip = truth_now parts kept node which.Skip right now here i;
      repeat = truth_now parts kept node which.Repeat right now here i;
      pre = truth_now parts kept node which.Pre right now here i;
      post = truth_now parts kept node which.Post right now here i;
      invariant = truth_now parts kept node which.Invariant right now here i;
    })
    ∙ truths_are parts node (numbered_conditions (plan_in parts) (site_in (plan_in parts) node).head.conditions) stand here refl
