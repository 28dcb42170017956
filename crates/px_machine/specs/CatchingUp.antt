-- What catching up with one node changes.
use Rattle.std.specs.Prelude.{◌≡◌, ◌⊎◌, ℕ, ◌<◌, false, not, List, length, set, Some}
use Rattle.px_core.specs.declared.conditions.ConditionKind.TheVariants as which
use Rattle.px_core.specs.Plan.{Site}
use Rattle.px_value.specs.declared.enums.NodeState.{NodeState}
use Rattle.px_sem.specs.Guards.{is_active, is_at_rest}
use Rattle.px_flat.specs.Row.{parent_number}
use Rattle.px_links.specs.Links.{is_absent}
use Rattle.px_tally.specs.Tally.{marked, CountsOthersAsBefore}
use Rattle.px_told.specs.declared.asks.Asks.{Asks}
use Rattle.px_assign.specs.Claims.{with_holding}
use Rattle.px_cached.specs.Cached.{kept_truth}
use Rattle.px_parts.specs.declared.parts.Parts.{Parts}
use Rattle.px_micro.specs.Above.{asks_in}
use Rattle.px_machine.specs.declared.kept.Kept.{Kept}
use Rattle.px_machine.specs.Kept.{kept_state, own_seen}
use Rattle.px_machine.specs.Queue.{Wakes}

-- the node counts by this state, and nothing else changes
pub record HasCounted (old new : Kept) (node : ℕ) (state : NodeState) : Type 0 where
  pub busy : new.busy ≡ marked old.busy node (not (is_at_rest state))
  pub counts : CountsOthersAsBefore old.busy new.busy node (not (is_at_rest state))
  pub claims : new.claims ≡ with_holding old.claims node (is_active state)
  pub conditions : new.conditions ≡ old.conditions
  pub states : new.states ≡ old.states
  pub told : new.told ≡ old.told
  pub queue : new.queue ≡ old.queue

-- its parent and its children wait
pub record WaitAround (plan : List Site) (kept : Kept) (node : ℕ) : Type 0 where
  pub parent : (parent : ℕ) → parent_number plan node ≡ Some parent → is_absent kept.queue parent ≡ false
  pub children : (child : ℕ) → child < length plan → parent_number plan child ≡ Some node
      → is_absent kept.queue child ≡ false

-- the node has this state and counts by it; it is the one of before, or its parent and its children wait
pub record HasTakenState (plan : List Site) (old new : Kept) (node : ℕ) (state : NodeState) : Type 0 where
  pub states : new.states.items ≡ set old.states.items node state
  pub busy : new.busy ≡ marked old.busy node (not (is_at_rest state))
  pub counts : CountsOthersAsBefore old.busy new.busy node (not (is_at_rest state))
  pub claims : new.claims ≡ with_holding old.claims node (is_active state)
  pub conditions : new.conditions ≡ old.conditions
  pub told : new.told ≡ old.told
  pub around : (state ≡ kept_state old node) ⊎ WaitAround plan new node
  pub wakes : Wakes old.queue new.queue

-- this is what the node asks of those below it, by what was seen of it
abbrev pub IsAskedFor : Parts → Kept → ℕ → Asks → Type 0
IsAskedFor parts kept node asks = asks
    ≡ asks_in (own_seen parts node) (kept_truth kept.conditions node which.Exit)
    (kept_truth kept.conditions node which.Invariant) (kept_truth kept.conditions node which.End)
