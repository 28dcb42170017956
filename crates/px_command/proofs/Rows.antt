-- The rows of the table of events, each over the parts of one node.
use Rattle.std.proofs.Common.{◌≡◌, ℕ, ◌+◌, ◌<◌, Bool, true, false, ◌&&◌, ◌||◌, List, [], ◌∷◌, length, map, set, refl, ap, sym, ◌∙◌, arith, Option, Some, None, if◌then◌else◌}
use Rattle.std.proofs.lemmas.Bool.{and_parts, and_from, false≢true}
use Rattle.std.proofs.lemmas.Grind.{common_steps}
use Rattle.std.proofs.lemmas.List.{get_or-set_same}
use Rattle.px_value.specs.declared.enums.Handle.{Handle}
use Rattle.px_value.specs.declared.enums.NodeState.{NodeState}
use Rattle.px_value.specs.declared.value.Value.{Value}
use Rattle.px_value.specs.declared.value.Value.TheVariants as values
use Rattle.px_core.specs.Plan.{Site, BodyData, Nothing, Assign, Command, Update, is_same}
use Rattle.px_event.specs.declared.event.Event.{Event}
use Rattle.px_event.specs.declared.event.Event.TheVariants as events
use Rattle.px_sem.specs.Events.{with_record, with_action, with_handle, with_abort_done, body_at, action_at, is_command, is_update, counts, changed, take}
use Rattle.px_sem.specs.Guards.{is_active, is_executing, is_failing}
use Rattle.px_sem.specs.World as world
use Rattle.px_sem.specs.World.{World, NodeRecord, Action, LookState, Report, state_at}
use Rattle.px_flat.specs.declared.act.Abort.{Abort}
use Rattle.px_flat.specs.declared.act.Abort.TheVariants as aborts
use Rattle.px_flat.specs.declared.act.Act.{Act}
use Rattle.px_flat.specs.declared.act.Act.TheVariants as under_way
use Rattle.px_flat.specs.Layout.{node_cell, state_cell, handle_cell, acknowledgement_cell}
use Rattle.px_flat.specs.Numbered.{held}
use Rattle.px_flat.specs.Parts.{IsParts, IsNode, world_of, record_in, action_in, act_of, state_in, fits, is_state, is_outcome, is_failure, is_handle_of, is_acknowledgement_of}
use Rattle.px_flat.specs.Row.{site_in}
use Rattle.px_flat.proofs.Changes.{world_of-changed}
use Rattle.px_flat.proofs.Known.{IsSound}
use Rattle.px_flat.proofs.NodeChanges.{handle_written, acknowledgement_written, act_put}
use Rattle.px_flat.proofs.Sites.{found_site}
use Rattle.px_flat.proofs.Worlds.{record_at-world_of}
use Rattle.px_command.specs.Counting.{is_sent, handle_counts, abort_done_counts}
use Rattle.px_command.specs.Results.{aborted}
use Rattle.px_command.proofs.Nodes.{elsewhere, cell_kept, act_kept}

-- ---- what the world has of a node

pub record HasNode (plan : List Site) (cells : List Value) (reports : List (LookState × Report)) (acts : List Act) (node : ℕ)
    : Type 0 where
  pub body_is : body_at plan (site_in plan node).path ≡ (site_in plan node).head.body
  pub state_is : state_at (world_of plan cells reports acts) (site_in plan node).path
      ≡ state_in (held cells (state_cell plan node))
  pub action_is : action_at (world_of plan cells reports acts) (site_in plan node).path
      ≡ action_in (act_of acts node) (held cells (handle_cell plan node)) (held cells (acknowledgement_cell plan node))
  -- the same action again changes nothing
  pub same_action : with_action (world_of plan cells reports acts) (site_in plan node).path
      (action_at (world_of plan cells reports acts) (site_in plan node).path) ≡ world_of plan cells reports acts

pub has_node : (plan : List Site) (cells : List Value) (reports : List (LookState × Report)) (acts : List Act) (node : ℕ)
    → IsSound plan → node < length plan → HasNode plan cells reports acts node
has_node plan cells reports acts node sound within =
    let record_is = record_at-world_of plan cells reports acts node sound.distinct within in
    record {
      body_is = ap (λ (site : Site). site.head.body) (found_site plan node sound.distinct within);
      state_is = ap (λ (r : NodeRecord). r.state) record_is;
      action_is = ap (λ (r : NodeRecord). r.action) record_is;
      same_action = sym (world_of-changed plan cells cells reports acts acts node sound.distinct within
          (λ other inside apart i. record_in plan cells acts other)
          ∙ ap (with_record (world_of plan cells reports acts) (site_in plan node).path) (sym record_is));
    }

-- ---- whether a row counts

pub counted : (plan : List Site) (before : World) (event : Event) → counts plan before event ≡ true
    → take plan before event ≡ changed plan before event
counted plan before event holds = ap (λ b. if b then changed plan before event else before) holds

pub uncounted : (plan : List Site) (before : World) (event : Event) → counts plan before event ≡ false
    → take plan before event ≡ before
uncounted plan before event fails = ap (λ b. if b then changed plan before event else before) fails

-- an event that changes nothing where it counts never does
pub nothing_changes : (plan : List Site) (before : World) (event : Event)
    → (counts plan before event ≡ true → changed plan before event ≡ before) → take plan before event ≡ before
nothing_changes plan before event same = grind (arith, common_steps, counted, uncounted)

-- ---- a command's handle, and its abort

sent_command : (plan : List Site) (body : BodyData) (act : Act) → fits plan body act ≡ true → is_sent act ≡ true
    → is_command body ≡ true
sent_command plan (Command name args result) act fit sent = refl
sent_command plan Nothing (under_way.Sent index abort) fit sent = absurd (false≢true fit)
sent_command plan (Assign target value) (under_way.Sent index abort) fit sent = absurd (false≢true fit)
sent_command plan (Update pairs) (under_way.Sent index abort) fit sent = absurd (false≢true fit)
sent_command plan body act fit sent = absurd (false≢true sent)

handle_unsent : (handle : Handle) (act : Act) (h a : Value) → is_sent act ≡ false
    → with_handle handle (action_in act h a) ≡ action_in act h a
handle_unsent handle (under_way.Sent index abort) h a fails = absurd (false≢true (sym fails))
handle_unsent handle under_way.Idle h a fails = refl
handle_unsent handle under_way.Unwritten h a fails = refl
handle_unsent handle (under_way.Scalar old) h a fails = refl
handle_unsent handle (under_way.Element index old) h a fails = refl
handle_unsent handle under_way.Updated h a fails = refl

handle_sent : (handle : Handle) (act : Act) (h a : Value) → is_sent act ≡ true
    → action_in act (values.Handle handle) a ≡ with_handle handle (action_in act h a)
handle_sent handle (under_way.Sent index abort) h a holds = refl
handle_sent handle act h a holds = absurd (false≢true holds)

abort_unsent : (act : Act) (h a : Value) → is_sent act ≡ false
    → with_abort_done (action_in act h a) ≡ action_in act h a
abort_unsent (under_way.Sent index abort) h a fails = absurd (false≢true (sym fails))
abort_unsent under_way.Idle h a fails = refl
abort_unsent under_way.Unwritten h a fails = refl
abort_unsent (under_way.Scalar old) h a fails = refl
abort_unsent (under_way.Element index old) h a fails = refl
abort_unsent under_way.Updated h a fails = refl

abort_sent : (act : Act) (h a : Value) → is_sent act ≡ true
    → action_in (aborted act) h a ≡ with_abort_done (action_in act h a)
abort_sent (under_way.Sent index abort) h a holds = refl
abort_sent act h a holds = absurd (false≢true holds)

-- a command fits, whatever has become of its abort
pub command_fits : (plan : List Site) (body : BodyData) (index : Option ℕ) (abort now : Abort)
    → fits plan body (under_way.Sent index abort) ≡ true → fits plan body (under_way.Sent index now) ≡ true
command_fits plan (Command name args result) None abort now fit = refl
command_fits plan (Command name args None) (Some index) abort now fit = absurd (false≢true fit)
command_fits plan (Command name args (Some target)) (Some index) abort now fit = fit
command_fits plan Nothing index abort now fit = absurd (false≢true fit)
command_fits plan (Assign target value) index abort now fit = absurd (false≢true fit)
command_fits plan (Update pairs) index abort now fit = absurd (false≢true fit)

-- what is so of an act is so of what its abort makes of it, where it is of a command whatever has become of its abort
of_aborted : (P : Act → Type 0)
    → ((index : Option ℕ) (abort : Abort) → P (under_way.Sent index abort) → P (under_way.Sent index aborts.Done))
    → (act : Act) → P act → P (aborted act)
of_aborted P sent (under_way.Sent index abort) is = sent index abort is
of_aborted P sent under_way.Idle is = is
of_aborted P sent under_way.Unwritten is = is
of_aborted P sent (under_way.Scalar old) is = is
of_aborted P sent (under_way.Element index old) is = is
of_aborted P sent under_way.Updated is = is

handle_of_sent : (act : Act) (handle : Handle) → is_sent act ≡ true → is_handle_of act (values.Handle handle) ≡ true
handle_of_sent (under_way.Sent index abort) handle holds = refl
handle_of_sent act handle holds = absurd (false≢true holds)

-- what is a handle of anything is one of a command
pub command_handle : (act : Act) (index : Option ℕ) (abort : Abort) (h : Value) → is_handle_of act h ≡ true
    → is_handle_of (under_way.Sent index abort) h ≡ true
command_handle act index abort values.Unknown is = refl
command_handle act index abort (values.Handle handle) is = refl
command_handle act index abort h is = absurd (cc is)

command_acknowledgement : (index : Option ℕ) (abort now : Abort) (a : Value)
    → is_acknowledgement_of (under_way.Sent index abort) a ≡ true → is_acknowledgement_of (under_way.Sent index now) a ≡ true
command_acknowledgement index abort now (values.Boolean false) is = refl
command_acknowledgement index abort now a is = absurd (cc)

-- of two records that a node gets the later one counts
with_record-twice : (before : World) (path : List ℕ) (first second : NodeRecord)
    → with_record (with_record before path first) path second ≡ with_record before path second
with_record-twice before path first second =
    ap (λ nodes. record before { nodes = nodes }) (over before.nodes)
  where
    one : (own : List ℕ) (old : NodeRecord) (b : Bool)
        → (if b then second else if b then first else old) ≡ (if b then second else old)
    one own old true = refl
    one own old false = refl

    put : NodeRecord → List ℕ × NodeRecord → List ℕ × NodeRecord
    put r entry = (entry.0, if is_same entry.0 path then r else entry.1)

    over : (nodes : List (List ℕ × NodeRecord)) → map (put second) (map (put first) nodes) ≡ map (put second) nodes
    over [] = refl
    over (entry ∷ nodes) = λ i. (entry.0, one entry.0 entry.1 (is_same entry.0 path) i) ∷ over nodes i

-- ---- whether the rows of a node count

module _ (plan : List Site) (cells : List Value) (reports : List (LookState × Report)) (acts : List Act) (node : ℕ)
    (sound : IsSound plan) (within : node < length plan) where
  abbrev own : List ℕ
  own = (site_in plan node).path

  abbrev before : World
  before = world_of plan cells reports acts

  abbrev act : Act
  act = act_of acts node

  abbrev state : NodeState
  state = state_in (held cells (state_cell plan node))

  has : HasNode plan cells reports acts node
  has = has_node plan cells reports acts node sound within

  -- a change of the action that counts at such states changes nothing where no command is under way
  ignored : (event : Event) (at_work : NodeState → Bool) (change : Action → Action)
      → counts plan before event ≡ (is_command (body_at plan own) && at_work (state_at before own))
      → changed plan before event ≡ with_action before own (change (action_at before own))
      → (is_sent act ≡ false → (h a : Value) → change (action_in act h a) ≡ action_in act h a)
      → (at_work state && is_sent act) ≡ false → take plan before event ≡ before
  ignored event at_work change counts_is changes unsent fails = nothing_changes plan before event (λ holds.
      let working : at_work state ≡ true =
      ap at_work (sym has.state_is) ∙ (and_parts (is_command (body_at plan own)) _ (sym counts_is ∙ holds)).1 in
      let none : is_sent act ≡ false = sym (ap (λ b. b && is_sent act) working) ∙ fails in
      changes ∙ ap (with_action before own) (ap change has.action_is ∙ unsent none _ _ ∙ sym has.action_is) ∙ has.same_action)

  -- and it counts where one is
  counts_here : (at_work : NodeState → Bool) → IsParts plan cells acts → is_sent act ≡ true → at_work state ≡ true
      → (is_command (body_at plan own) && at_work (state_at before own)) ≡ true
  counts_here at_work parts sent working = and_from (is_command (body_at plan own)) _
      (ap is_command has.body_is ∙ sent_command plan (site_in plan node).head.body act (parts.nodes node within).act sent)
      (ap at_work has.state_is ∙ working)

  -- a handle counts where a command is under way and the node is at work
  pub handle_ignored : (handle : Handle) → handle_counts state act ≡ false
      → take plan before (events.Handle own handle) ≡ before
  handle_ignored handle fails =
      ignored (events.Handle own handle) is_active (with_handle handle) refl refl (λ none h a. handle_unsent handle act h a none) fails

  pub handle_taken : (handle : Handle) → IsParts plan cells acts → handle_counts state act ≡ true
      → world_of plan (set cells (handle_cell plan node) (values.Handle handle)) reports acts
      ≡ take plan before (events.Handle own handle)
  handle_taken handle parts holds =
      let both = and_parts (is_active state) (is_sent act) holds in
      handle_written plan cells reports acts node (values.Handle handle) sound.distinct within parts.all_cells
      ∙ ap (with_action before own) (handle_sent handle act (held cells (handle_cell plan node)) _ both.1
      ∙ ap (with_handle handle) (sym has.action_is))
      ∙ sym (counted plan before (events.Handle own handle) (counts_here is_active parts both.1 both.0))

  -- the abort of a command is done where one is under way and the node fails
  pub abort_ignored : abort_done_counts state act ≡ false → take plan before (events.AbortDone own) ≡ before
  abort_ignored fails =
      ignored (events.AbortDone own) is_failing with_abort_done refl refl (λ none h a. abort_unsent act h a none) fails

  pub abort_taken : IsParts plan cells acts → abort_done_counts state act ≡ true
      → world_of plan cells reports (set acts node (aborted act)) ≡ take plan before (events.AbortDone own)
  abort_taken parts holds =
      let both = and_parts (is_failing state) (is_sent act) holds in
      act_put plan cells reports acts node (aborted act) sound.distinct within parts.all_acts
      ∙ ap (with_action before own) (abort_sent act _ _ both.1 ∙ ap with_abort_done (sym has.action_is))
      ∙ sym (counted plan before (events.AbortDone own) (counts_here is_failing parts both.1 both.0))

  -- an acknowledgement counts where the node is an update that is at work or fails
  pub acknowledged_ignored : (is_update (site_in plan node).head.body && (is_executing state || is_failing state)) ≡ false
      → take plan before (events.Acknowledged own) ≡ before
  acknowledged_ignored fails = uncounted plan before (events.Acknowledged own)
      ((λ i. is_update (has.body_is i) && (is_executing (has.state_is i) || is_failing (has.state_is i))) ∙ fails)

  pub acknowledged_taken : IsParts plan cells acts
      → (is_update (site_in plan node).head.body && (is_executing state || is_failing state)) ≡ true
      → world_of plan (set cells (acknowledgement_cell plan node) (values.Boolean true)) reports (set acts node under_way.Updated)
      ≡ take plan before (events.Acknowledged own)
  acknowledged_taken parts holds =
      acknowledgement_written plan cells reports new_acts node (values.Boolean true) sound.distinct within parts.all_cells
      ∙ ap (λ (r : NodeRecord). with_record (world_of plan cells reports new_acts) own (record r { action = done }))
      (record_at-world_of plan cells reports new_acts node sound.distinct within)
      ∙ ap (λ act. with_record (world_of plan cells reports new_acts) own (record (record_in plan cells acts node)
      { action = action_in act (held cells (handle_cell plan node)) (values.Boolean true) })) put
      ∙ ap (λ before. with_record before own (record (record_in plan cells acts node) { action = world.Updated true }))
      (act_put plan cells reports acts node under_way.Updated sound.distinct within parts.all_acts)
      ∙ with_record-twice before own _ (record (record_in plan cells acts node) { action = world.Updated true })
      ∙ ap (λ (r : NodeRecord). with_record before own (record r { action = world.Updated true }))
      (sym (record_at-world_of plan cells reports acts node sound.distinct within))
      ∙ sym (counted plan before (events.Acknowledged own)
      ((λ i. is_update (has.body_is i) && (is_executing (has.state_is i) || is_failing (has.state_is i))) ∙ holds))
    where
      new_acts : List Act
      new_acts = set acts node under_way.Updated

      done : Action
      done = action_in (act_of new_acts node) (held cells (handle_cell plan node)) (values.Boolean true)

      put : act_of new_acts node ≡ under_way.Updated
      put = get_or-set_same acts node under_way.Updated under_way.Idle (omega (arith, within, parts.all_acts))

-- ---- the parts behind a row

pub handle_parts : (plan : List Site) (cells : List Value) (acts : List Act) (node : ℕ) (handle : Handle)
    → node < length plan → IsParts plan cells acts → is_sent (act_of acts node) ≡ true
    → IsParts plan (set cells (handle_cell plan node) (values.Handle handle)) acts
handle_parts plan cells acts node handle within parts sent =
    grind (arith, common_steps, cell_kept, elsewhere, get_or-set_same, handle_of_sent)

pub abort_parts : (plan : List Site) (cells : List Value) (acts : List Act) (node : ℕ) → node < length plan
    → IsParts plan cells acts → IsParts plan cells (set acts node (aborted (act_of acts node)))
abort_parts plan cells acts node within parts =
    let act : Act = act_of acts node in
    let body : BodyData = (site_in plan node).head.body in
    let handle : Value = held cells (handle_cell plan node) in
    let acknowledgement : Value = held cells (acknowledgement_cell plan node) in
    let old = parts.nodes node within in
    act_kept plan cells acts node (aborted act) within parts
    (of_aborted (λ act. is_handle_of act handle ≡ true)
    (λ index abort. command_handle (under_way.Sent index abort) index aborts.Done handle) act old.handle)
    (of_aborted (λ act. is_acknowledgement_of act acknowledgement ≡ true)
    (λ index abort. command_acknowledgement index abort aborts.Done acknowledgement) act old.acknowledgement)
    (of_aborted (λ act. fits plan body act ≡ true) (λ index abort. command_fits plan body index abort aborts.Done) act old.act)

-- ---- an update's acknowledgement

update_fits : (plan : List Site) (body : BodyData) → is_update body ≡ true → fits plan body under_way.Updated ≡ true
update_fits plan (Update pairs) is = refl
update_fits plan body is = absurd (false≢true is)

-- an update that is under way, or nothing, has fails handle
update_handle : (plan : List Site) (body : BodyData) (act : Act) (handle : Value) → is_update body ≡ true
    → fits plan body act ≡ true → is_handle_of act handle ≡ true → is_handle_of under_way.Updated handle ≡ true
update_handle plan (Update pairs) under_way.Idle handle update fit is = is
update_handle plan (Update pairs) under_way.Updated handle update fit is = is
update_handle plan (Update pairs) act handle update fit is = absurd (false≢true fit)
update_handle plan body act handle update fit is = absurd (false≢true update)

pub acknowledged_parts : (plan : List Site) (cells : List Value) (acts : List Act) (node : ℕ) → node < length plan
    → IsParts plan cells acts → is_update (site_in plan node).head.body ≡ true
    → IsParts plan (set cells (acknowledgement_cell plan node) (values.Boolean true)) (set acts node under_way.Updated)
acknowledged_parts plan cells acts node within parts update =
    cell_kept plan cells (set acts node under_way.Updated) node 4 value (omega arith) (omega arith) now (record {
      state = ap is_state (elsewhere cells cell (state_cell plan node) value (λ same. absurd (omega (arith, same)))) ∙ own_act.state;
      outcome = ap is_outcome (elsewhere cells cell (node_cell plan node + 1) value (λ same. absurd (omega (arith, same)))) ∙ own_act.outcome;
      failure = ap is_failure (elsewhere cells cell (node_cell plan node + 2) value (λ same. absurd (omega (arith, same)))) ∙ own_act.failure;
      handle = ap (is_handle_of (act_of (set acts node under_way.Updated) node))
          (elsewhere cells cell (node_cell plan node + 3) value (λ same. absurd (omega (arith, same)))) ∙ own_act.handle;
      acknowledgement = (λ i. is_acknowledgement_of (put i)
          (get_or-set_same cells cell value values.Unknown (omega (arith, within, parts.all_cells)) i));
      act = own_act.act;
    })
  where
    cell : ℕ
    cell = node_cell plan node + 4

    value : Value
    value = values.Boolean true

    old : IsNode plan cells acts node
    old = parts.nodes node within

    put : act_of (set acts node under_way.Updated) node ≡ under_way.Updated
    put = get_or-set_same acts node under_way.Updated under_way.Idle (omega (arith, within, parts.all_acts))

    was : (act : Act) (a : Value) → is_acknowledgement_of act a ≡ true → is_acknowledgement_of under_way.Updated a ≡ true
    was act (values.Boolean false) is = refl
    was act (values.Boolean true) is = refl
    was act a is = absurd (cc)

    now : IsParts plan cells (set acts node under_way.Updated)
    now = act_kept plan cells acts node under_way.Updated within parts
        (update_handle plan (site_in plan node).head.body (act_of acts node) (held cells (handle_cell plan node)) update old.act old.handle)
        (was (act_of acts node) (held cells (acknowledgement_cell plan node)) old.acknowledgement)
        (update_fits plan (site_in plan node).head.body update)

    own_act : IsNode plan cells (set acts node under_way.Updated) node
    own_act = now.nodes node within
