-- Who waits in the queue: nodes that are behind are to be caught up, and those that are woken are to be looked at.
use Rattle.std.specs.Prelude.{◌≡◌, ◌≢◌, ◌⊎◌, ℕ, ◌<◌, true, List, map, length, Some, Contains}
use Rattle.px_links.specs.Links.{LinksData, holder_of, is_absent, SameCounts}
use Rattle.px_links.specs.Lists.{nth}
use Rattle.px_cached.specs.Adding.{AddsTo}
use Rattle.px_micro.specs.declared.sight.Going.{Going}
use Rattle.px_machine.specs.declared.queue.TheConstants.{BEHIND, WOKEN}

abbrev pub IsBehind : LinksData → ℕ → Type 0
IsBehind queue node = holder_of queue node ≡ Some BEHIND

abbrev pub IsWoken : LinksData → ℕ → Type 0
IsWoken queue node = holder_of queue node ≡ Some WOKEN

abbrev pub NobodyIsBehind : LinksData → Type 0
NobodyIsBehind queue = (node : ℕ) → IsBehind queue node → ⊥

abbrev pub NobodyIsWoken : LinksData → Type 0
NobodyIsWoken queue = (node : ℕ) → IsWoken queue node → ⊥

-- those that are behind, in their order
abbrev pub behind_in : LinksData → List ℕ
behind_in queue = nth queue.lists BEHIND

-- the same nodes wait
abbrev pub HaveTheSame : LinksData → LinksData → Type 0
HaveTheSame old new = (node : ℕ) → is_absent new node ≡ is_absent old node

-- some fall behind
pub record FallBehind (old new : LinksData) : Type 0 where
  pub added : AddsTo BEHIND old new
  pub counts : SameCounts old new

-- some are woken, and those that are behind are the same
pub record Wakes (old new : LinksData) : Type 0 where
  pub added : AddsTo WOKEN old new
  pub behind : behind_in new ≡ behind_in old
  pub counts : SameCounts old new

-- nobody is woken any more: those who were wait nowhere, and the others where they did
pub record HaveRested (old new : LinksData) : Type 0 where
  pub nobody : NobodyIsWoken new
  pub each : (node : ℕ) → (holder_of new node ≡ holder_of old node) ⊎ (IsWoken old node × (is_absent new node ≡ true))
  pub counts : SameCounts old new

-- the node that was the first of those behind is woken
pub record HasPassed (old new : LinksData) (node : ℕ) : Type 0 where
  pub woken : IsWoken new node
  pub others : (other : ℕ) → other ≢ node → holder_of new other ≡ holder_of old other
  pub fewer : length (behind_in new) < length (behind_in old)
  pub counts : SameCounts old new

abbrev pub IsGoer : List Going → ℕ → Type 0
IsGoer going node = Contains (map (λ one. one.node) going) node

-- nobody waits but those that have gone, which are behind
pub record HaveGone (old new : LinksData) (going : List Going) : Type 0 where
  pub gone : (node : ℕ) → IsGoer going node → IsBehind new node
  pub others : (node : ℕ) → (IsGoer going node → ⊥) → is_absent new node ≡ true
  pub counts : SameCounts old new
