-- What is kept of each node, and where the node goes by it.
use Rattle.std.specs.Prelude.{◌≡◌, ℕ, ◌<◌, ◌^◌, Bool, List, [], length, map, slice_index_or, Option, Some, None}
use Rattle.std.specs.List.{range_with_len}
use Rattle.px_value.specs.declared.enums.NodeState.{NodeState}
use Rattle.px_value.specs.declared.enums.NodeState.TheVariants as states
use Rattle.px_value.specs.declared.value.Value.{Value}
use Rattle.px_core.specs.declared.conditions.ConditionKind.TheVariants as which
use Rattle.px_core.specs.Plan.{Site}
use Rattle.px_sem.specs.declared.guards.Arrival.{Arrival}
use Rattle.px_sem.specs.Table.{dest}
use Rattle.px_sem.specs.World.{NodeRecord}
use Rattle.px_flat.specs.declared.act.Act.{Act}
use Rattle.px_flat.specs.Parts.{record_in}
use Rattle.px_flat.specs.Row.{site_in, parent_number, after_last}
use Rattle.px_tally.specs.Tally.{is_nobody}
use Rattle.px_told.specs.declared.place.Place.{Place}
use Rattle.px_told.specs.Told.{told_at}
use Rattle.px_assign.specs.Claims.{AreOf}
use Rattle.px_cached.specs.Cached as cached
use Rattle.px_cached.specs.Cached.{CachedData, kept_truth}
use Rattle.px_cached.specs.Conditions.{all_sources}
use Rattle.px_parts.specs.declared.parts.Parts.{Parts}
use Rattle.px_parts.specs.Parts.{plan_in}
use Rattle.px_micro.specs.declared.truths.Truths.{Truths}
use Rattle.px_micro.specs.Guarded.{guards_in}
use Rattle.px_machine.specs.declared.kept.Kept.{Kept}

-- ---- of which plan it is

-- where each node stands, and whose child it is
abbrev pub place_in : List Site → ℕ → Place
place_in plan node = record { parent = parent_number plan node; end = after_last plan node }

abbrev pub places_of : List Site → List Place
places_of plan = map (place_in plan) (range_with_len 0 (length plan))

abbrev pub parents_of : List Site → List (Option ℕ)
parents_of plan = map (parent_number plan) (range_with_len 0 (length plan))

-- all that is kept is of this plan's nodes, by their numbers
pub record IsOfPlan (plan : List Site) (kept : Kept) : Type 0 where
  pub conditions : cached.plan_in kept.conditions ≡ plan
  pub states : length kept.states.items ≡ length plan
  pub tree : kept.told.tree ≡ places_of plan
  pub parents : kept.busy.group_of ≡ parents_of plan
  pub groups : kept.busy.groups ≡ length plan
  pub claims : AreOf plan kept.claims
  pub wanting : length kept.claims.wanting ≡ length plan
  pub holding : length kept.claims.holding ≡ length plan
  pub cells : kept.queue.cells ≡ length plan
  pub lists : length kept.queue.lists ≡ 2
  pub few : all_sources plan < 2 ^ 32

-- ---- the six inputs of a node's destination, of which its kind is the plan's

-- its record in these cells and acts, its variables apart, which no guard reads
abbrev pub own_in : List Site → List Value → List Act → ℕ → NodeRecord
own_in plan cells acts node = record (record_in plan cells acts node) { variables = [] }

-- as it was last seen
abbrev pub own_seen : Parts → ℕ → NodeRecord
own_seen parts node = own_in (plan_in parts) parts.cells.seen parts.actions.seen node

-- its state, where it was last caught up
abbrev pub kept_state : Kept → ℕ → NodeState
kept_state kept node = slice_index_or kept.states.items node states.Inactive

-- its parent's; the root's virtual parent is always EXECUTING
abbrev pub parent_state : Kept → Option ℕ → NodeState
parent_state kept None = states.Executing
parent_state kept (Some parent) = kept_state kept parent

-- no child of it is busy
abbrev pub is_rest : Kept → ℕ → Bool
is_rest kept node = is_nobody kept.busy node

-- the truths of its conditions
abbrev pub kept_truths : CachedData → ℕ → Truths
kept_truths conditions node = record {
  start = kept_truth conditions node which.Start;
  end = kept_truth conditions node which.End;
  exit = kept_truth conditions node which.Exit;
  skip = kept_truth conditions node which.Skip;
  repeat = kept_truth conditions node which.Repeat;
  pre = kept_truth conditions node which.Pre;
  post = kept_truth conditions node which.Post;
  invariant = kept_truth conditions node which.Invariant;
}

abbrev pub truths_of : Kept → ℕ → Truths
truths_of kept node = kept_truths kept.conditions node

-- as if all were UNKNOWN
abbrev pub unread : Truths
unread = record {
  start = None;
  end = None;
  exit = None;
  skip = None;
  repeat = None;
  pre = None;
  post = None;
  invariant = None;
}

-- those of the truths that the rows of a state read, of whatever kind the node is; the others as if they were UNKNOWN
abbrev pub truths_read : NodeState → Truths → Truths
truths_read states.Waiting t = record unread { start = t.start; exit = t.exit; skip = t.skip; pre = t.pre }
truths_read states.Executing t = record unread { end = t.end; exit = t.exit; post = t.post; invariant = t.invariant }
truths_read states.Finishing t = record unread { exit = t.exit; post = t.post; invariant = t.invariant }
truths_read states.IterationEnded t = record unread { repeat = t.repeat }
truths_read state t = unread

-- where it goes by the six, or none where it stays
abbrev pub arrival_of : Parts → Kept → ℕ → Option Arrival
arrival_of parts kept node =
    dest (site_in (plan_in parts) node).head.kind (own_seen parts node).state
    (guards_in (site_in (plan_in parts) node).head.kind (own_seen parts node)
    (parent_state kept (parent_number (plan_in parts) node)) (told_at kept.told node) (is_rest kept node)
    (truths_of kept node))
