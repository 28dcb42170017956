-- Where nothing is known yet, what is kept is right of any world.
use Rattle.std.proofs.Common.{◌≡◌, ℕ, ◌<◌, false, not, List, length, get_or, replicate, Option, Some, None, refl, ap, sym, ◌∙◌, subst}
use Rattle.std.proofs.lemmas.List.{get_or-replicate}
use Rattle.px_value.proofs.General.{replicate-same}
use Rattle.px_value.specs.declared.enums.NodeState.TheVariants as states
use Rattle.px_sem.specs.Guards.{is_active, is_at_rest}
use Rattle.px_tally.specs.Tally.{is_counted, nobody}
use Rattle.px_told.specs.declared.asks.Asks.{Asks}
use Rattle.px_told.specs.declared.place.Place.{Place}
use Rattle.px_told.specs.Asking.{either, nothing}
use Rattle.px_told.specs.Preorder.{parent_of}
use Rattle.px_told.specs.Told.{AreTold, asked_under, silent}
use Rattle.px_assign.specs.Claims.{AreNobodys}
use Rattle.px_cached.proofs.OneList.{not_both}
use Rattle.px_parts.specs.declared.parts.Parts.{Parts}
use Rattle.px_parts.specs.Parts.{plan_in}
use Rattle.px_machine.specs.declared.kept.Kept.{Kept}
use Rattle.px_machine.specs.Kept.{IsOfPlan, kept_state, parents_of}
use Rattle.px_machine.specs.Queue.{IsBehind}
use Rattle.px_machine.specs.Right.{IsRight}

-- nobody asks, so nobody is told
pub silent_told : (tree : List Place) → AreTold (silent tree)
silent_told tree node inside = replicate-same (length tree) node nothing ∙ by (parent_of tree node)
  where
    asks : List Asks
    asks = replicate (length tree) nothing

    by : (parent : Option ℕ) → nothing ≡ asked_under asks asks parent
    by None = refl
    by (Some parent) = λ i.
        either (sym (replicate-same (length tree) parent nothing) i) (sym (replicate-same (length tree) parent nothing) i)

-- everybody is behind, and all wait, so nobody counts
pub right_at_first : (parts : Parts) (kept : Kept) → IsOfPlan (plan_in parts) kept
    → ((node : ℕ) → node < length (plan_in parts) → IsBehind kept.queue node)
    → kept.states.items ≡ replicate (length (plan_in parts)) states.Waiting → kept.told ≡ silent kept.told.tree
    → kept.busy ≡ nobody (length (plan_in parts)) (parents_of (plan_in parts)) → AreNobodys (length (plan_in parts)) kept.claims
    → IsRight parts kept
right_at_first parts kept of_plan behind waiting told busy claims = record {
  of_plan = of_plan;
  agrees = record {
    busy = λ node here.
        ap (λ tally. is_counted tally node) busy ∙ replicate-same (length (parents_of (plan_in parts))) node false
        ∙ ap (λ state. not (is_at_rest state)) (sym (waits node here));
    holding = λ node here.
        ap (λ holding. get_or holding node false) claims.holding ∙ replicate-same (length (plan_in parts)) node false
        ∙ ap is_active (sym (waits node here));
    told = subst AreTold (sym told) (silent_told kept.told.tree);
  };
  caught_up = λ node here apart. absurd (apart (behind node here));
  still = λ node here absent. absurd (not_both kept.queue node 0 (behind node here) absent);
}
  where
    waits : (node : ℕ) → node < length (plan_in parts) → kept_state kept node ≡ states.Waiting
    waits node here = ap (λ kept. get_or kept node states.Inactive) waiting
        ∙ get_or-replicate (length (plan_in parts)) node states.Waiting states.Inactive here
