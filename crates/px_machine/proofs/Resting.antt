-- Whether all children of a node are at rest, by who is counted as busy.
use Rattle.std.proofs.Common.{◌≡◌, ℕ, ◌<◌, ◌≤◌, true, false, not, List, length, get_or, Some, None, ap, sym, ◌∙◌, arith, inl, inr}
use Rattle.std.proofs.lemmas.Bool.{cases_lt, eq-eqb, eqb-true, false≢true, not-false, true_from_ne_false}
use Rattle.std.proofs.lemmas.List.{get_or_past}
use Rattle.px_value.proofs.General.{same_bool}
use Rattle.px_core.specs.Plan.{Site, is_child_of}
use Rattle.px_sem.specs.Guards.{each_child, is_at_rest}
use Rattle.px_sem.specs.World.{state_at}
use Rattle.px_flat.specs.Row.{site_in, parent_number}
use Rattle.px_tally.specs.Tally.{is_counted, total}
use Rattle.px_tally.proofs.Counting.{count-none, none-count}
use Rattle.px_parts.specs.declared.parts.Parts.{Parts}
use Rattle.px_parts.specs.Parts.{plan_in, world_in}
use Rattle.px_micro.proofs.Families.{child_is, is_child}
use Rattle.px_micro.proofs.Resting.{each_rests, one_works, state_is}
use Rattle.px_machine.specs.declared.kept.Kept.{Kept}
use Rattle.px_machine.specs.Kept.{is_rest, kept_state, parents_of}
use Rattle.px_machine.specs.Right.{IsNow, IsRight}
use Rattle.px_machine.proofs.Places.{parents_at, parents_long}
use Rattle.px_machine.proofs.Present.{state_seen}

-- the state of a node in the world is the one that is kept
pub state_now : (parts : Parts) (kept : Kept) (node : ℕ) → IsRight parts kept → IsNow parts kept → node < length (plan_in parts)
    → kept_state kept node ≡ state_at (world_in parts) (site_in (plan_in parts) node).path
state_now parts kept node right now here =
    (right.caught_up node here (now.nobody node)).state ∙ state_seen parts node now.seen
    ∙ sym (state_is parts node here)

-- who is no node has no parent
no_parent : (plan : List Site) (node : ℕ) → length plan ≤ node → get_or (parents_of plan) node None ≡ None
no_parent plan node past = get_or_past (parents_of plan) node None (omega (arith, past, parents_long plan))

module _ (parts : Parts) (kept : Kept) (node : ℕ) (right : IsRight parts kept) (now : IsNow parts kept)
    (here : node < length (plan_in parts)) where
  abbrev plan : List Site
  plan = plan_in parts

  abbrev own : List ℕ
  own = (site_in plan node).path

  -- who is counted of the node's children
  counted : (child : ℕ) → child < length plan
      → is_counted kept.busy child ≡ not (is_at_rest (state_at (world_in parts) (site_in plan child).path))
  counted child there =
      right.agrees.busy child there ∙ ap (λ state. not (is_at_rest state)) (state_now parts kept child right now there)

  group : (child : ℕ) → child < length plan → get_or kept.busy.group_of child None ≡ parent_number plan child
  group child there =
      ap (λ parents. get_or parents child None) right.of_plan.parents ∙ parents_at plan child there

  -- nobody is counted, so each child is at rest
  one_rests : is_rest kept node ≡ true → (child : ℕ) → child < length plan → is_child_of own (site_in plan child) ≡ true
      → is_at_rest (state_at (world_in parts) (site_in plan child).path) ≡ true
  one_rests rest child there is =
      let busy : is_counted kept.busy child ≡ false =
      none-count node kept.busy.group_of kept.busy.counting (eqb-true (total kept.busy node) 0 rest) child
      (group child there ∙ child_is parts.flat node child here there is) in
      not-false (is_at_rest (state_at (world_in parts) (site_in plan child).path)) (sym (counted child there) ∙ busy)

  -- each child is at rest, so nobody is counted
  nobody_counts : each_child is_at_rest plan (world_in parts) own ≡ true → (child : ℕ)
      → get_or kept.busy.group_of child None ≡ Some node → is_counted kept.busy child ≡ false
  nobody_counts all child of = elim (cases_lt child (length plan)) [
    | inr past ↦
        absurd (cc (sym (ap (λ parents. get_or parents child None) right.of_plan.parents ∙ no_parent plan child past) ∙ of))
    | inl there ↦
        let is_one : is_child_of own (site_in plan child) ≡ true =
        is_child parts.flat node child there (sym (group child there) ∙ of) in
        counted child there
        ∙ ap not (true_from_ne_false (is_at_rest (state_at (world_in parts) (site_in plan child).path)) (λ works.
        false≢true (sym (one_works plan (world_in parts) own child there is_one works) ∙ all)))
  ]

  pub rest_now : is_rest kept node ≡ each_child is_at_rest plan (world_in parts) own
  rest_now =
      same_bool (is_rest kept node) (each_child is_at_rest plan (world_in parts) own)
      (λ rest. each_rests plan (world_in parts) own (one_rests rest))
      (λ all. eq-eqb (total kept.busy node) 0 (count-none node kept.busy.group_of kept.busy.counting (nobody_counts all)))
