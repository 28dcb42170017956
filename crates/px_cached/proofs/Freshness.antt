-- Where nothing is to be looked at again, each part has the truth of what it spells made from scratch.
use Rattle.std.proofs.Common.{◌≡◌, ℕ, ◌<◌, Bool, List, length, Option, Some, None, refl, ap, sym, ◌∙◌, subst}
use Rattle.px_value.specs.Truth.{truth_of, value_of_truth, kleene_and, kleene_not, kleene_or}
use Rattle.px_core.specs.Plan.{Site}
use Rattle.px_flat.specs.Numbered.{Numbered}
use Rattle.px_flat.specs.Sources.{Present}
use Rattle.px_cached.specs.declared.part.Joint.{Joint}
use Rattle.px_cached.specs.declared.part.Joint.TheVariants as joints
use Rattle.px_cached.specs.declared.part.Part.{Part}
use Rattle.px_cached.specs.Conditions.{truth_in}
use Rattle.px_cached.specs.Looking.{IsRight}
use Rattle.px_cached.specs.Network.{Agree, IsSettled, Spells, Whole, Joined, kleene, joined, part_at, truth_at}

back : (truth : Option Bool) → truth_of (value_of_truth truth) ≡ truth
back None = refl
back (Some truth) = refl

module _ (plan : List Site) (seen : Present) where
  or_truth : (a b : Numbered)
      → kleene_or (truth_in plan seen a) (truth_in plan seen b) ≡ truth_in plan seen (joined joints.Or a b)
  or_truth a b = sym (back (kleene_or (truth_in plan seen a) (truth_in plan seen b)))

  joint_truth : (joint : Joint) (a b : Numbered)
      → kleene joint (truth_in plan seen a) (truth_in plan seen b) ≡ truth_in plan seen (joined joint a b)
  joint_truth joints.And a b = sym (back (kleene_and (truth_in plan seen a) (truth_in plan seen b)))
  joint_truth joints.Or a b = or_truth a b
  joint_truth joints.Nor a b =
      ap kleene_not (or_truth a b) ∙ sym (back (kleene_not (truth_in plan seen (joined joints.Or a b))))

module _ (plan : List Site) (seen : Present) (network : List Part) (truths : List (Option Bool))
    (agree : Agree network truths)
    (all_right : (part : ℕ) → part < length network → IsRight plan seen (truth_at truths part) (part_at network part)) where
  pub fresh_part : (part : ℕ) (expr : Numbered) → Spells network part expr → truth_at truths part ≡ truth_in plan seen expr
  fresh_part part expr (Whole of inside at is) =
      let whole = subst (IsRight plan seen (truth_at truths part)) at (all_right part inside) in
      whole ∙ sym (ap (truth_in plan seen) is)
  fresh_part part expr (Joined joint left right a b inside at is one other) =
      let settled = subst (IsSettled truths (truth_at truths part)) at (agree part inside) in
      settled ∙ (λ i. kleene joint (fresh_part left a one i) (fresh_part right b other i))
      ∙ joint_truth plan seen joint a b
      ∙ sym (ap (truth_in plan seen) is)
