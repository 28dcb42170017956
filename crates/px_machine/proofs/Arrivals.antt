-- Where nodes go by what is kept is where they go in the world, once all is seen and caught up: from the six inputs of a node
-- to its destination.
use Rattle.std.proofs.Common.{◌≡◌, ℕ, ◌+◌, ◌<◌, ◌&&◌, Bool, length, get_or, Option, Some, None, refl, ap, sym, ◌∙◌, arith, if◌then◌else◌}
use Rattle.px_value.specs.declared.enums.NodeState.{NodeState}
use Rattle.px_value.specs.declared.enums.NodeState.TheVariants as states
use Rattle.px_core.specs.declared.node.Kind.{Kind}
use Rattle.px_sem.specs.declared.guards.Arrival.{Arrival}
use Rattle.px_sem.specs.Conflicts.{destination}
use Rattle.px_sem.specs.Table.{dest}
use Rattle.px_sem.specs.World.{NodeRecord}
use Rattle.px_flat.specs.Row.{site_in, parent_number}
use Rattle.px_assign.specs.Conflicts.{is_writer}
use Rattle.px_told.specs.declared.asks.Asks.{Asks}
use Rattle.px_told.specs.Told.{told_at}
use Rattle.px_tables.specs.Reading.{read_by}
use Rattle.px_tables.proofs.Readings.{dest_same}
use Rattle.px_parts.specs.declared.parts.Parts.{Parts}
use Rattle.px_parts.specs.Parts.{AreStanding, plan_in, world_in, record_of}
use Rattle.px_micro.specs.declared.truths.Truths.{Truths}
use Rattle.px_micro.specs.Going.{is_start}
use Rattle.px_micro.specs.Guarded.{guards_at, guards_in}
use Rattle.px_micro.proofs.Guarding.{guards_are}
use Rattle.px_parts.proofs.Found.{record_is}
use Rattle.px_machine.specs.declared.kept.Kept.{Kept}
use Rattle.px_machine.specs.Kept.{arrival_of, is_rest, own_seen, parent_state, truths_of, truths_read}
use Rattle.px_machine.specs.Right.{IsNow, IsRight}
use Rattle.px_machine.specs.Still.{claims_now, free_arrival}
use Rattle.px_machine.proofs.Asking.{told_now}
use Rattle.px_machine.proofs.Present.{own_now, parent_now, truths_now}
use Rattle.px_machine.proofs.Resting.{rest_now}

-- ---- the frame: the same six, the same arrival

-- a node's six inputs but its kind, which is the plan's
pub record HasTheSame (parts parts' : Parts) (kept kept' : Kept) (node : ℕ) : Type 0 where
  pub plan : plan_in parts' ≡ plan_in parts
  pub own : own_seen parts' node ≡ own_seen parts node
  pub parent : parent_state kept' (parent_number (plan_in parts') node) ≡ parent_state kept (parent_number (plan_in parts) node)
  pub told : told_at kept'.told node ≡ told_at kept.told node
  pub rest : is_rest kept' node ≡ is_rest kept node
  pub truths : truths_of kept' node ≡ truths_of kept node

pub same_arrival : (parts parts' : Parts) (kept kept' : Kept) (node : ℕ) → HasTheSame parts parts' kept kept' node
    → arrival_of parts' kept' node ≡ arrival_of parts kept node
same_arrival parts parts' kept kept' node same i =
    dest (site_in (same.plan i) node).head.kind (same.own i).state
    (guards_in (site_in (same.plan i) node).head.kind (same.own i) (same.parent i) (same.told i) (same.rest i) (same.truths i))

-- so it claims the same, and goes the same way without asking
pub same_claims : (parts parts' : Parts) (kept kept' : Kept) (node : ℕ) → HasTheSame parts parts' kept kept' node
    → claims_now parts' kept' node ≡ claims_now parts kept node
same_claims parts parts' kept kept' node same i =
    is_writer (same.plan i) node && is_start (same.own i).state (same_arrival parts parts' kept kept' node same i)

pub same_free : (parts parts' : Parts) (kept kept' : Kept) (node : ℕ) → HasTheSame parts parts' kept kept' node
    → free_arrival parts' kept' node ≡ free_arrival parts kept node
same_free parts parts' kept kept' node same i =
    if same_claims parts parts' kept kept' node same i then None else same_arrival parts parts' kept kept' node same i

-- with the same states a parent has the same one
pub parent_same : (old new : Kept) → new.states ≡ old.states → (parent : Option ℕ) → parent_state new parent ≡ parent_state old parent
parent_same old new same None = refl
parent_same old new same (Some parent) = λ i. get_or (same i).items parent states.Inactive

-- ---- what a state reads

guards_read : (state : NodeState) (kind : Kind) (r : NodeRecord) (parent : NodeState) (asked : Asks) (rest : Bool) (truths : Truths)
    → read_by state (guards_in kind r parent asked rest (truths_read state truths))
    ≡ read_by state (guards_in kind r parent asked rest truths)
guards_read states.Inactive kind r parent asked rest truths = refl
guards_read states.Waiting kind r parent asked rest truths = refl
guards_read states.Executing kind r parent asked rest truths = refl
guards_read states.Finishing kind r parent asked rest truths = refl
guards_read states.IterationEnded kind r parent asked rest truths = refl
guards_read states.Failing kind r parent asked rest truths = refl
guards_read states.Finished kind r parent asked rest truths = refl

-- a node goes where it would by all truths
pub dest_by_read : (state : NodeState) (kind : Kind) (r : NodeRecord) (parent : NodeState) (asked : Asks) (rest : Bool) (truths : Truths)
    → dest kind state (guards_in kind r parent asked rest (truths_read state truths))
    ≡ dest kind state (guards_in kind r parent asked rest truths)
dest_by_read state kind r parent asked rest truths =
    dest_same kind state (guards_in kind r parent asked rest (truths_read state truths)) (guards_in kind r parent asked rest truths)
    (guards_read state kind r parent asked rest truths)

-- ---- the present

-- where a node goes by a record, with all else as the world has it
abbrev by_record : Parts → ℕ → NodeRecord → Option Arrival
by_record parts node r = dest (site_in (plan_in parts) node).head.kind r.state (guards_at parts node)

pub arrival_now : (parts : Parts) (kept : Kept) (node : ℕ) → AreStanding parts → IsRight parts kept → IsNow parts kept
    → node < length (plan_in parts)
    → arrival_of parts kept node ≡ destination (plan_in parts) (world_in parts) (site_in (plan_in parts) node)
arrival_now parts kept node stand right now here =
    (λ i. dest (site_in (plan_in parts) node).head.kind (own_now parts node now.seen i).state
    (guards_in (site_in (plan_in parts) node).head.kind (own_now parts node now.seen i)
    (parent_now parts kept node right now here i) (told_now parts kept node (node + 1) stand right now here (omega arith) i)
    (rest_now parts kept node right now here i) (truths_now parts kept node stand right now here i)))
    ∙ ap (dest (site_in (plan_in parts) node).head.kind (record_of parts node).state) (guards_are parts node here)
    ∙ ap (by_record parts node) (sym (record_is parts node here))
