-- TOLD: what is kept beside the conditions is right of each node that was caught up, and agrees with itself always.
use Rattle.std.specs.Prelude.{◌≡◌, ℕ, ◌<◌, not, false, length, slice_index_or}
use Rattle.px_sem.specs.Guards.{is_active, is_at_rest}
use Rattle.px_tally.specs.Tally.{is_counted}
use Rattle.px_told.specs.Told.{own_at, AreTold}
use Rattle.px_parts.specs.declared.parts.Parts.{Parts}
use Rattle.px_parts.specs.Parts.{plan_in}
use Rattle.px_machine.specs.declared.kept.Kept.{Kept}
use Rattle.px_machine.specs.CatchingUp.{IsAskedFor}
use Rattle.px_machine.specs.Kept.{kept_state, own_seen}
use Rattle.px_machine.specs.Queue.{IsBehind}

-- who is counted as busy, and who as at work, goes by the kept states, always; and each node is told what it is to be told
pub record Agrees (nodes : ℕ) (kept : Kept) : Type 0 where
  pub busy : (node : ℕ) → node < nodes → is_counted kept.busy node ≡ not (is_at_rest (kept_state kept node))
  pub holding : (node : ℕ) → node < nodes
      → slice_index_or kept.claims.holding node false ≡ is_active (kept_state kept node)
  pub told : AreTold kept.told

-- its state is the one that was seen, and it asks what it asks by that and by its kept conditions
pub record IsCaughtUp (parts : Parts) (kept : Kept) (node : ℕ) : Type 0 where
  pub state : kept_state kept node ≡ (own_seen parts node).state
  pub asks : IsAskedFor parts kept node (own_at kept.told node)

-- each node is, or is behind
abbrev pub AreCaughtUp : Parts → Kept → Type 0
AreCaughtUp parts kept = (node : ℕ) → node < length (plan_in parts) → (IsBehind kept.queue node → ⊥)
    → IsCaughtUp parts kept node
