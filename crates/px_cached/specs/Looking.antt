-- Truths that are kept, and what a refresh tells.
use Rattle.std.specs.Prelude.{◌≡◌, ℕ, ◌*◌, ◌<◌, Bool, true, false, List, length, Option, ◌⊎◌}
use Rattle.px_core.specs.Plan.{Site}
use Rattle.px_flat.specs.NumberedData.{expr_data}
use Rattle.px_flat.specs.Sources.{Present}
use Rattle.px_links.specs.Links.{LinksData, is_absent, SameCounts}
use Rattle.px_cached.specs.declared.looking.Kept.{Kept}
use Rattle.px_cached.specs.declared.part.Above.{Above}
use Rattle.px_cached.specs.declared.part.Above.TheVariants as aboves
use Rattle.px_cached.specs.declared.part.Part.{Part}
use Rattle.px_cached.specs.declared.part.Part.TheVariants as parts
use Rattle.px_cached.specs.Adding.{AddsTo}
use Rattle.px_cached.specs.Conditions.{truth_in}
use Rattle.px_cached.specs.Laying.{HasLaid}
use Rattle.px_cached.specs.Network.{Agree, above_at, kleene, part_at, truth_at}

-- a part's truth in what is present: evaluated whole, or by the kept ones of those in it
abbrev pub truth_now : List Site → Present → List (Option Bool) → Part → Option Bool
truth_now plan present truths (parts.Whole expr) = truth_in plan present (expr_data expr)
truth_now plan present truths (parts.Joined joint left right) = kleene joint (truth_at truths left) (truth_at truths right)

-- what is evaluated whole has the truth made from scratch
abbrev pub IsRight : List Site → Present → Option Bool → Part → Type 0
IsRight plan seen truth (parts.Whole expr) = truth ≡ truth_in plan seen (expr_data expr)
IsRight plan seen truth (parts.Joined joint left right) = Unit {0}

-- it has, but where it is to be looked at again
abbrev pub AreRight : List Site → Present → List Part → List (Option Bool) → LinksData → Type 0
AreRight plan seen network truths stale = (part : ℕ) → part < length network → is_absent stale part ≡ true
    → IsRight plan seen (truth_at truths part) (part_at network part)

-- All conditions of the plan are laid, joined parts agree, and what is not to be looked at again is right in what was seen.
pub record IsSound (plan : List Site) (seen : Present) (kept : Kept) : Type 0 where
  pub laid : HasLaid plan kept.network.parts.items kept.network.above.items kept.network.roots.items (8 * length plan)
  pub sized : length kept.truths.items ≡ length kept.network.parts.items
  pub agree : Agree kept.network.parts.items kept.truths.items
  pub cells : kept.stale.cells ≡ length kept.network.parts.items
  pub lists : length kept.stale.lists ≡ 1
  pub right : AreRight plan seen kept.network.parts.items kept.truths.items kept.stale

-- A node with a condition that changed is in some list. A node that was in none may be in this one, and each other one is
-- held as before.
pub record Tells (above : List Above) (old new : List (Option Bool)) (before after : LinksData) (list : ℕ) : Type 0 where
  pub changed : (part node : ℕ) → above_at above part ≡ aboves.Condition node
      → (truth_at new part ≡ truth_at old part) ⊎ (is_absent after node ≡ false)
  pub holders : AddsTo list before after
  pub counts : SameCounts before after
