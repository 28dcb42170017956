-- One look after another: what is kept stays sound, and what changes is told.
use Rattle.std.proofs.Common.{◌≡◌, ℕ, ◌+◌, ◌<◌, ◌≤◌, Bool, false, List, length, Option, Some, None, IfSome, inl, inr, ap, ◌∙◌, subst, arith, if◌then◌else◌}
use Rattle.std.proofs.lemmas.Option.{IfSome_then}
use Rattle.px_core.specs.Plan.{Site}
use Rattle.px_flat.specs.Sources.{Present}
use Rattle.px_links.specs.Links.{LinksData, HoldsOthersAsBefore, SameCounts, first_of, holder_of, is_absent, popped}
use Rattle.px_cached.specs.declared.laying.Network.{Network}
use Rattle.px_cached.specs.declared.looking.Kept.{Kept}
use Rattle.px_cached.specs.declared.part.Above.{Above}
use Rattle.px_cached.specs.declared.part.Joint.TheVariants as joints
use Rattle.px_cached.specs.declared.part.Part.TheVariants as parts
use Rattle.px_cached.specs.Carrying.{IsOfPart, IsOnlyChanged, LooksUp}
use Rattle.px_cached.specs.Climbs.{climb}
use Rattle.px_cached.specs.Costs.{in_all}
use Rattle.px_cached.specs.Looking.{IsSound, Tells}
use Rattle.px_cached.proofs.Heights.{looked as looked_up}
use Rattle.px_cached.proofs.OneList.{adds_both, holders_then, now_noted, still_noted}
use Rattle.px_cached.proofs.Owing.{in_all-popped}

-- a node that has a condition is one of the plan
pub within_plan : (plan : List Site) (seen : Present) (kept : Kept) → IsSound plan seen kept → (changed : Option ℕ)
    → IfSome changed (IsOfPart kept.network.above.items (length kept.network.parts.items))
    → IfSome changed (λ node. node < length plan)
within_plan plan seen kept sound changed is = IfSome_then changed is (λ node of. sound.laid.named of.0 node of.1.0 of.1.1)

-- ---- what is told

module _ (above : List Above) (first old new : List (Option Bool)) (before between : LinksData) (list : ℕ)
    (tells : Tells above first old before between list) where
  -- no condition changed
  pub tells_same : IsOnlyChanged above old new None → Tells above first new before between list
  tells_same only = record {
    changed = λ part node top. elim (only part node top) [
      | inr is ↦ absurd (cc)
      | inl same ↦ elim (tells.changed part node top) [
        | inl was ↦ inl (same ∙ was)
        | inr noted ↦ inr noted
      ]
    ];
    holders = tells.holders;
    counts = tells.counts;
  }

  -- a condition of this node did
  pub tells_more : (node : ℕ) (after : LinksData) → IsOnlyChanged above old new (Some node)
      → HoldsOthersAsBefore between after node (if is_absent between node then Some list else holder_of between node)
      → SameCounts between after → Tells above first new before after list
  tells_more node after only holders counts = record {
    changed = λ part other top. elim (only part other top) [
      | inr is ↦
          let same : node ≡ other = cc in
          inr (subst (λ other. is_absent after other ≡ false) same (now_noted between after node list holders))
      | inl same ↦ elim (tells.changed part other top) [
        | inl was ↦ inl (same ∙ was)
        | inr noted ↦ inr (still_noted between after node list holders other noted)
      ]
    ];
    holders = adds_both list before between after tells.holders (holders_then between after node list holders);
    counts = (counts.0 ∙ tells.counts.0, counts.1 ∙ tells.counts.1);
  }

-- what holds while looks go on
pub record IsLooking (plan : List Site) (present : Present) (first kept : Kept) (before after : LinksData) (list looks : ℕ) : Type 0 where
  pub network : kept.network ≡ first.network
  pub sound : IsSound plan present kept
  pub tells : Tells first.network.above.items first.truths.items kept.truths.items before after list
  pub owed : looks + in_all (climb first.network.above.items) kept.stale ≤ in_all (climb first.network.above.items) first.stale

-- one look is paid for by what is no longer to be looked at
pub owed_then : (plan : List Site) (present : Present) (first kept : Kept) (stale : LinksData) (part looks more sum due : ℕ)
    → IsSound plan present kept → kept.network ≡ first.network → part < length kept.network.parts.items
    → first_of kept.stale 0 ≡ Some part → stale ≡ popped kept.stale 0
    → LooksUp kept.network.above.items part more → sum ≤ looks + more
    → looks + in_all (climb first.network.above.items) kept.stale ≤ due
    → sum + in_all (climb first.network.above.items) stale ≤ due
owed_then plan present first kept stale part looks more sum due sound same there is_first popped_is up few owed =
    let same_above = ap (λ (network : Network). climb network.above.items part) same in
    omega (
      arith,
      few,
      owed,
      looked_up kept.network.parts.items kept.network.above.items sound.laid.shape part more there up,
      same_above,
      in_all-popped (climb first.network.above.items) kept.stale part is_first,
      ap (in_all (climb first.network.above.items)) popped_is,
    )
