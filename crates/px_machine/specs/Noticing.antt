-- What the phases before the look leave.
use Rattle.std.specs.Prelude.{◌≡◌, ℕ, ◌+◌, ◌<◌, ◌≤◌, true, false, List, length, slice_get, All, Contains}
use Rattle.px_core.specs.Plan.{Site}
use Rattle.px_flat.specs.Layout.{node_cell, node_cells}
use Rattle.px_links.specs.Links.{is_absent}
use Rattle.px_cells.specs.Marked.{MarkedData}
use Rattle.px_cached.specs.Cached.{IsTouchedAt, is_touched, present_in}
use Rattle.px_cached.specs.Cached as cached
use Rattle.px_parts.specs.declared.parts.Parts.{Parts}
use Rattle.px_parts.specs.Seen.{AreAllSeen}
use Rattle.px_machine.specs.declared.kept.Kept.{Kept}
use Rattle.px_machine.specs.Queue.{FallBehind, NobodyIsWoken}
use Rattle.px_machine.specs.Right.{IsRight}

-- all is as before but the queue, and of the conditions which sources are touched
pub record IsSameBut (old new : Kept) : Type 0 where
  pub flat : new.conditions.flat ≡ old.conditions.flat
  pub truths : new.conditions.truths ≡ old.conditions.truths
  pub seen : new.conditions.seen ≡ old.conditions.seen
  pub states : new.states ≡ old.states
  pub told : new.told ≡ old.told
  pub busy : new.busy ≡ old.busy
  pub claims : new.claims ≡ old.claims

-- a cell is one of a node's five
abbrev pub IsCellOf : List Site → ℕ → ℕ → Type 0
IsCellOf plan node cell = (node_cell plan node ≤ cell) × (cell < node_cell plan node + node_cells)

-- NOTICED: all is seen; each source that isn't as the conditions saw it is touched, and each node whose own record isn't as
-- it was caught up is behind
pub record IsNoticed (parts : Parts) (kept : Kept) : Type 0 where
  pub seen : AreAllSeen parts
  pub touched : cached.IsSeenBut kept.conditions (present_in parts.cells parts.reports)
  pub right : IsRight parts kept
  pub nobody : NobodyIsWoken kept.queue

-- REFRESHED: the conditions were looked at in the present, and each node of which one has changed is behind
pub record IsRefreshed (parts : Parts) (kept : Kept) : Type 0 where
  pub seen : cached.IsSeen kept.conditions (present_in parts.cells parts.reports)
  pub right : IsRight parts kept
  pub nobody : NobodyIsWoken kept.queue

-- ---- in turn

-- each source that has one of these cells is touched, and each node one of whose own cells is among them waits; nothing else
-- changes
pub record HaveNotedCells (plan : List Site) (old new : Kept) (cells : List ℕ) : Type 0 where
  pub same : IsSameBut old new
  pub queue : FallBehind old.queue new.queue
  pub touched : All (λ cell. IsTouchedAt new.conditions cell) cells
  pub before : (source : ℕ) → is_touched old.conditions source ≡ true → is_touched new.conditions source ≡ true
  pub noted : (node : ℕ) → node < length plan → All (λ cell. IsCellOf plan node cell → is_absent new.queue node ≡ false) cells

-- each of these nodes waits; nothing else changes
pub record HaveNotedActs (old new : Kept) (nodes : List ℕ) : Type 0 where
  pub conditions : new.conditions ≡ old.conditions
  pub same : IsSameBut old new
  pub queue : FallBehind old.queue new.queue
  pub noted : All (λ node. is_absent new.queue node ≡ false) nodes

-- what is not among the news is as it was seen
abbrev pub IsSeenBut : {X : Type 0} → MarkedData X → Type 0
IsSeenBut marked = (at : ℕ) → (Contains marked.news at → ⊥)
    → slice_get marked.contents.values at ≡ slice_get marked.seen at
