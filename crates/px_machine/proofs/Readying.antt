-- What is kept stays ready as the world goes on and back, and a mark stays where an event is begun.
use Rattle.std.proofs.Common.{◌≡◌, ◌≢◌, ℕ, ◌<◌, ◌≤◌, Bool, true, false, List, [], length, get_or, Option, Some, None, IfSome, IsNone, IsSome, refl, ap, sym, ◌∙◌, subst, inl, inr}
use Rattle.std.specs.Coded.{codes}
use Rattle.std.specs.Option.{unwrap_or}
use Rattle.std.proofs.lemmas.Bool.{cases_eq, false≢true}
use Rattle.px_value.specs.declared.value.Value.{Value}
use Rattle.px_core.specs.Plan.{Site}
use Rattle.px_event.specs.declared.event.Event.{Event}
use Rattle.px_sem.specs.Conflicts.{is_quiet}
use Rattle.px_sem.specs.Events.{take}
use Rattle.px_sem.specs.Step.{micro, moves}
use Rattle.px_sem.specs.Tolerances.{tolerances}
use Rattle.px_sem.specs.World.{LookState, Report, World}
use Rattle.px_sem.specs.Stepper as stepper
use Rattle.px_flat.specs.declared.act.Act.{Act}
use Rattle.px_flat.specs.Flat.{plan_of}
use Rattle.px_flat.specs.Layout.{all_cells}
use Rattle.px_flat.specs.Lookups.{lookups_of}
use Rattle.px_flat.specs.Numbered.{reported_of}
use Rattle.px_flat.specs.Sources.{Reports, IsSameReport}
use Rattle.px_flat.specs.Parts.{IsParts}
use Rattle.px_links.specs.Links.{LinksData}
use Rattle.px_lookup.specs.Reports.{reports_after}
use Rattle.px_lookup.proofs.Taking.{reports-take}
use Rattle.px_cached.specs.Cached.{CachedData, HasTouchedReports, is_touched}
use Rattle.px_cached.specs.Conditions.{all_sources, number_of, source_number}
use Rattle.px_cached.proofs.Reported.{report_behind, report_there}
use Rattle.px_parts.specs.declared.parts.Parts.{Parts}
use Rattle.px_parts.specs.Marks.{AreMarked, AreUnmarked, marked_world}
use Rattle.px_parts.specs.Parts.{AreOfOnePlan, AreSame, AreStanding, plan_in, world_in}
use Rattle.px_parts.specs.Seen.{AreSeenAsBefore}
use Rattle.px_parts.proofs.Stepped as stepped
use Rattle.px_micro.specs.declared.sight.Going.{Going}
use Rattle.px_micro.specs.Stepping.{moves_after}
use Rattle.px_micro.proofs.Turning.{Latches, with_room}
use Rattle.px_machine.specs.declared.begun.Begun.{Begun}
use Rattle.px_machine.specs.declared.begun.Begun.TheVariants as begun
use Rattle.px_machine.specs.declared.kept.Kept.{Kept}
use Rattle.px_machine.specs.Begun.{IsMarkedFor, IsUnderWay, begun_in, heard_of, is_event}
use Rattle.px_machine.specs.Hearing.{HasHeard, heard_by}
use Rattle.px_machine.specs.Kept.{own_in}
use Rattle.px_machine.specs.Machine.{state_with}
use Rattle.px_machine.specs.Queue.{HaveGone}
use Rattle.px_machine.specs.Right.{IsRight}
use Rattle.px_machine.specs.Stepping.{HasChosen, IsReady}
use Rattle.px_machine.proofs.Framing.{right_framed}
use Rattle.px_machine.proofs.Hearing.{others_stay, seen_then}
use Rattle.px_machine.proofs.Requeueing.{right_after_going, with_queue}

-- ---- parts

-- the same, by another proof that reports latch by the tolerances of the plan
abbrev pub latched_by : (parts : Parts) → Latches parts → Parts
latched_by parts latching = with_room parts latching parts.cells parts.actions

numbers_set : IsSet (List ℕ)
numbers_set = hlevel codes

-- what is said of parts is said of these
pub relatched : (P : Parts → Type 0) (parts : Parts) (latching : Latches parts) → P parts
    → P (latched_by parts latching)
relatched P parts latching holds =
    subst (λ latching. P (latched_by parts latching))
    (numbers_set parts.reports.tolerances (tolerances (plan_in parts)) parts.latching latching) holds

-- ---- what is kept

-- all is as before but that more is touched
pub record TouchesMore (old new : CachedData) : Type 0 where
  pub flat : new.flat ≡ old.flat
  pub truths : new.truths ≡ old.truths
  pub seen : new.seen ≡ old.seen
  pub others : (source : ℕ) → is_touched old source ≡ true → is_touched new source ≡ true

pub touches_none : (conditions : CachedData) → TouchesMore conditions conditions
touches_none conditions = record { flat = refl; truths = refl; seen = refl; others = λ source was. was }

pub touches_all : (old new : CachedData) → HasTouchedReports old new → TouchesMore old new
touches_all old new heard = record { flat = heard.flat; truths = heard.truths; seen = heard.seen; others = heard.others }

abbrev pub with_conditions : Kept → CachedData → Kept
with_conditions kept conditions = record kept { conditions = conditions }

-- What is kept speaks of what was seen alone: with the same plan and the same seen values it stays right, whatever the parts
-- hold, where each name is touched under which reports have changed.
pub ready_then : (old new : Parts) (kept : Kept) (conditions : CachedData) → IsReady old kept → plan_in new ≡ plan_in old
    → AreSeenAsBefore old new → AreStanding new → TouchesMore kept.conditions conditions
    → ((number : ℕ) (tolerance : Option ℕ) → number < length (lookups_of (plan_in old))
    → is_touched conditions (source_number (plan_in old) (Reports number tolerance)) ≡ false
    → IsSameReport (plan_in old) old.reports.reports new.reports.reports number tolerance)
    → IsReady new (with_conditions kept conditions)
ready_then old new kept conditions ready plan seen stand touched others =
    let is = ready.right.of_plan in
    record {
      stand = stand;
      seen = seen_then old new kept.conditions conditions ready.seen seen.cells plan touched.seen touched.others others;
      right = right_framed old new kept (with_conditions kept conditions) (record {
        plan = plan;
        of_plan = record {
          conditions = (λ i. plan_of (touched.flat i)) ∙ is.conditions;
          states = is.states;
          tree = is.tree;
          parents = is.parents;
          groups = is.groups;
          claims = is.claims;
          wanting = is.wanting;
          holding = is.holding;
          cells = is.cells;
          lists = is.lists;
          few = is.few;
        };
        states = refl;
        told = refl;
        busy = refl;
        claims = refl;
        behind = λ node was. was;
        absent = λ node absent. absent;
        own = λ node here apart i. own_in (plan i) (seen.cells i) (seen.actions i) node;
        truths = λ node kind here apart i. get_or (touched.truths i) (number_of node kind) None;
      }) ready.right;
    }

same_reports : (plan : List Site) (one other : List (LookState × Report)) → other ≡ one → (number : ℕ) (tolerance : Option ℕ)
    → IsSameReport plan one other number tolerance
same_reports plan one other same number tolerance args i =
    reported_of (sym same i) (get_or (lookups_of plan) number []) args tolerance

-- the reports are the same, and so is what is kept
pub ready_still : (old new : Parts) (kept : Kept) → IsReady old kept → plan_in new ≡ plan_in old → AreSeenAsBefore old new
    → AreStanding new → new.reports.reports ≡ old.reports.reports → IsReady new kept
ready_still old new kept ready plan seen stand reports =
    ready_then old new kept kept.conditions ready plan seen stand (touches_none kept.conditions)
    (λ number tolerance within untouched.
    same_reports (plan_in old) old.reports.reports new.reports.reports reports number tolerance)

-- all that is reported is touched
pub ready_anew : (old new : Parts) (kept : Kept) (conditions : CachedData) → IsReady old kept → plan_in new ≡ plan_in old
    → AreSeenAsBefore old new → AreStanding new → HasTouchedReports kept.conditions conditions
    → IsReady new (with_conditions kept conditions)
ready_anew old new kept conditions ready plan seen stand heard =
    ready_then old new kept conditions ready plan seen stand (touches_all kept.conditions conditions heard)
    (λ number tolerance within untouched.
    let all = subst (λ (sites : List Site). (source : ℕ) → all_cells sites ≤ source → source < all_sources sites
    → is_touched conditions source ≡ true) ready.right.of_plan.conditions heard.all in
    absurd (false≢true (sym untouched ∙ all (source_number (plan_in old) (Reports number tolerance))
    (report_behind (plan_in old) number tolerance) (report_there (plan_in old) number tolerance within))))

-- what was heard is touched where it reads another value, and reports of no other name have changed
pub ready_heard : (old new : Parts) (kept : Kept) (conditions : CachedData) (heard : Option ℕ) → IsReady old kept
    → plan_in new ≡ plan_in old → AreSeenAsBefore old new → AreStanding new
    → IfSome heard (λ lookup. TouchesMore kept.conditions conditions × ((tolerance : Option ℕ)
    → is_touched conditions (source_number (plan_in old) (Reports lookup tolerance)) ≡ false
    → IsSameReport (plan_in old) old.reports.reports new.reports.reports lookup tolerance))
    → (IsNone heard → conditions ≡ kept.conditions)
    → ((number : ℕ) (tolerance : Option ℕ) → number < length (lookups_of (plan_in old)) → heard ≢ Some number
    → IsSameReport (plan_in old) old.reports.reports new.reports.reports number tolerance)
    → IsReady new (with_conditions kept conditions)
ready_heard old new kept conditions None ready plan seen stand some none others =
    subst (λ conditions. IsReady new (with_conditions kept conditions)) (sym (none refl))
    (ready_then old new kept kept.conditions ready plan seen stand (touches_none kept.conditions)
    (λ number tolerance within untouched. others number tolerance within (λ same. absurd (cc same))))
ready_heard old new kept conditions (Some lookup) ready plan seen stand some none others =
    ready_then old new kept conditions ready plan seen stand some.0 (λ number tolerance within untouched.
    elim (cases_eq lookup number) [
      | inl one ↦
          subst (λ number. is_touched conditions (source_number (plan_in old) (Reports number tolerance)) ≡ false
          → IsSameReport (plan_in old) old.reports.reports new.reports.reports number tolerance) one (some.1 tolerance) untouched
      | inr apart ↦ others number tolerance within (λ same. apart (cc same))
    ])

-- ---- after a step

ready_queued : (parts : Parts) (kept : Kept) (queue : LinksData) → IsReady parts kept → IsRight parts (with_queue kept queue)
    → IsReady parts (with_queue kept queue)
ready_queued parts kept queue ready right = record {
  stand = ready.stand;
  seen = record { cells = ready.seen.cells; reports = ready.seen.reports };
  right = right;
}

pub ready_gone : (old new : Parts) (kept : Kept) (queue : LinksData) (going : List Going) → IsReady old kept → HasChosen old kept going
    → HaveGone kept.queue queue going → plan_in new ≡ plan_in old → AreSeenAsBefore old new → AreStanding new
    → new.reports.reports ≡ old.reports.reports → IsReady new (with_queue kept queue)
ready_gone old new kept queue going ready chosen gone plan seen stand reports =
    ready_still old new (with_queue kept queue)
    (ready_queued old kept queue ready (right_after_going old kept queue going ready.right chosen gone)) plan seen stand reports

-- ---- marks

pub same_is_one : (old new : Parts) → AreSame old new → AreOfOnePlan old new
same_is_one old new same = record {
  plan = same.plan;
  cells = λ i. (same.cells i).marked;
  reports = λ i. (same.reports i).marked;
  actions = λ i. (same.actions i).marked;
}

marked_after : (old new : Parts) → AreMarked old → AreOfOnePlan old new → AreMarked new
marked_after old new marked one =
    let cells : unwrap_or new.cells.contents.marked [] ≡ unwrap_or old.cells.contents.marked [] =
    ap (λ (kept : Option (List Value)). unwrap_or kept []) one.cells in
    let acts : unwrap_or new.actions.contents.marked [] ≡ unwrap_or old.actions.contents.marked [] =
    ap (λ (kept : Option (List Act)). unwrap_or kept []) one.actions in
    record {
      cells = subst IsSome (sym one.cells) marked.cells;
      reports = subst IsSome (sym one.reports) marked.reports;
      actions = subst IsSome (sym one.actions) marked.actions;
      stand =
          subst (λ (plan : List Site). IsParts plan (unwrap_or new.cells.contents.marked []) (unwrap_or new.actions.contents.marked []))
          (sym one.plan)
          (subst (λ (values : List Value). IsParts (plan_in old) values (unwrap_or new.actions.contents.marked [])) (sym cells)
          (subst (λ (done : List Act). IsParts (plan_in old) (unwrap_or old.cells.contents.marked []) done) (sym acts) marked.stand));
    }

unmarked_after : (old new : Parts) → AreUnmarked old → AreOfOnePlan old new → AreUnmarked new
unmarked_after old new unmarked one = record {
  cells = subst IsNone (sym one.cells) unmarked.cells;
  reports = subst IsNone (sym one.reports) unmarked.reports;
  actions = subst IsNone (sym one.actions) unmarked.actions;
}

under_way_after : (old new : Parts) (heard : Option ℕ) → IsUnderWay old heard → AreOfOnePlan old new
    → new.reports.reports ≡ old.reports.reports → IsUnderWay new heard
under_way_after old new heard is one reports = record {
  marked = marked_after old new is.marked one;
  name = subst (λ (plan : List Site). IfSome heard (λ lookup. lookup < length (lookups_of plan))) (sym one.plan) is.name;
  only = subst (λ (plan : List Site). (lookup : ℕ) (tolerance : Option ℕ) → lookup < length (lookups_of plan) → heard ≢ Some lookup
      → IsSameReport plan (unwrap_or new.reports.marked []) new.reports.reports lookup tolerance) (sym one.plan)
      (λ lookup tolerance within other args.
      (λ i. reported_of (unwrap_or (one.reports i) []) (get_or (lookups_of (plan_in old)) lookup []) args tolerance)
      ∙ is.only lookup tolerance within other args
      ∙ (λ i. reported_of (sym reports i) (get_or (lookups_of (plan_in old)) lookup []) args tolerance));
}

-- as a step leaves it
pub marked_still : (now : Begun) (old new : Parts) → IsMarkedFor now old → AreOfOnePlan old new
    → new.reports.reports ≡ old.reports.reports → IsMarkedFor now new
marked_still now old new marked one reports = record {
  unmarked = λ none. unmarked_after old new (marked.unmarked none) one;
  under_way = λ some. under_way_after old new (heard_of now) (marked.under_way some) one reports;
}

-- where no event is begun
pub marked_nothing : (now : Begun) (parts : Parts) → is_event now ≡ false → AreUnmarked parts → IsMarkedFor now parts
marked_nothing now parts none unmarked = record {
  unmarked = λ _. unmarked;
  under_way = λ some. absurd (false≢true (sym none ∙ some));
}

-- what is begun by the stepper's state
event_is : (now : Begun) (settled : World) → stepper.is_event (begun_in now settled) ≡ is_event now
event_is begun.Nothing settled = refl
event_is begun.Start settled = refl
event_is (begun.Event heard) settled = refl

pub no_event : (now : Begun) (settled : World) → begun_in now settled ≡ stepper.Nothing → is_event now ≡ false
no_event now settled is = sym (event_is now settled) ∙ ap stepper.is_event is

pub some_event : (now : Begun) (settled : World) → stepper.is_event (begun_in now settled) ≡ true → is_event now ≡ true
some_event now settled is = sym (event_is now settled) ∙ is

pub one_both : (first middle last : Parts) → AreOfOnePlan first middle → AreOfOnePlan middle last → AreOfOnePlan first last
one_both first middle last one two = record {
  plan = two.plan ∙ one.plan;
  cells = two.cells ∙ one.cells;
  reports = two.reports ∙ one.reports;
  actions = two.actions ∙ one.actions;
}

-- ---- the stepper's state

pub same_state : (now : Begun) (old new : Parts) → AreSame old new → state_with now new ≡ state_with now old
same_state now = stepped.same_state (begun_in now)

pub same_quiet : (now : Begun) (old new : Parts) (quiet : Bool) → AreSame old new → is_quiet (plan_in new) (world_in new) ≡ quiet
    → is_quiet (plan_in old) (world_in old) ≡ quiet
same_quiet now old new quiet same is =
    ap (λ (state : stepper.State). is_quiet state.nodes state.world) (sym (same_state now old new same)) ∙ is

pub stepped_state : (now : Begun) (old middle new : Parts) → AreSame old middle → AreOfOnePlan middle new
    → world_in new ≡ micro (plan_in middle) (world_in middle) → state_with now new ≡ stepper.stepped (state_with now old)
stepped_state now old middle new same one world =
    stepped.stepped_state (begun_in now) middle new one world ∙ ap stepper.stepped (same_state now old middle same)

-- what a step tells is what was done, and else the moves are those of before
pub moves_behind : (tells : Bool) (now : Begun) (old middle new : Parts) → AreSame old middle
    → middle.moves.items ≡ old.moves.items → new.moves.items ≡ moves_after tells (moves (plan_in middle) (world_in middle)) middle.moves.items
    → new.moves.items ≡ moves_after tells (moves (state_with now old).nodes (state_with now old).world) old.moves.items
moves_behind true now old middle new same kept told =
    told ∙ ap (λ (state : stepper.State). moves state.nodes state.world) (same_state now old middle same)
moves_behind false now old middle new same kept told = told ∙ kept

pub seen_both : (first middle last : Parts) → AreSeenAsBefore first middle → AreSeenAsBefore middle last → AreSeenAsBefore first last
seen_both first middle last one two = record { cells = two.cells ∙ one.cells; actions = two.actions ∙ one.actions }

-- ---- an event is begun

module _ (old middle new : Parts) (event : Event) (marked : AreMarked middle) (kept : marked_world middle ≡ world_in old)
    (plan : plan_in middle ≡ plan_in old) (world : world_in middle ≡ world_in old) (one : AreOfOnePlan middle new) where
  -- what the mark keeps are the reports of before
  pub marked_reports : unwrap_or new.reports.marked [] ≡ old.reports.reports
  marked_reports =
      (λ i. unwrap_or (one.reports i) []) ∙ ap (λ (world : World). world.reports) kept

  module _ (taken : world_in new ≡ take (plan_in middle) (world_in middle) event) where
    now_reports : new.reports.reports ≡ reports_after (tolerances (plan_in old)) event old.reports.reports
    now_reports =
        ap (λ (world : World). world.reports) taken ∙ reports-take (plan_in middle) (world_in middle) event
        ∙ (λ i. reports_after (tolerances (plan i)) event (world i).reports)

    pub only_heard : (number : ℕ) (tolerance : Option ℕ) → number < length (lookups_of (plan_in old))
        → heard_by (plan_in old) event ≢ Some number
        → IsSameReport (plan_in old) old.reports.reports new.reports.reports number tolerance
    only_heard number tolerance within other args =
        others_stay (plan_in old) event old.reports.reports number tolerance within other args
        ∙ (λ i. reported_of (sym now_reports i) (get_or (lookups_of (plan_in old)) number []) args tolerance)

    pub under_way : (heard : Option ℕ) → heard ≡ heard_by (plan_in new) event
        → IfSome heard (λ lookup. lookup < length (lookups_of (plan_in new))) → IsUnderWay new heard
    under_way heard is name = record {
      marked = marked_after middle new marked one;
      name = name;
      only = subst (λ (sites : List Site). (lookup : ℕ) (tolerance : Option ℕ) → lookup < length (lookups_of sites)
          → heard ≢ Some lookup
          → IsSameReport sites (unwrap_or new.reports.marked []) new.reports.reports lookup tolerance) (sym (one.plan ∙ plan))
          (λ lookup tolerance within other args.
          (λ i. reported_of (marked_reports i) (get_or (lookups_of (plan_in old)) lookup []) args tolerance)
          ∙ only_heard lookup tolerance within
          (λ same. other (is ∙ ap (λ (sites : List Site). heard_by sites event) (one.plan ∙ plan) ∙ same)) args);
    }

  -- what was heard is touched where it reads another value than before
  pub heard_now : (latching : Latches new) (before after : CachedData) (lookup : ℕ)
      → HasHeard (latched_by new latching) before after lookup
      → TouchesMore before after × ((tolerance : Option ℕ)
      → is_touched after (source_number (plan_in old) (Reports lookup tolerance)) ≡ false
      → IsSameReport (plan_in old) old.reports.reports new.reports.reports lookup tolerance)
  heard_now latching before after lookup heard = (
    record { flat = heard.flat; truths = heard.truths; seen = heard.seen; others = heard.others },
    subst (λ (sites : List Site). (tolerance : Option ℕ)
        → is_touched after (source_number sites (Reports lookup tolerance)) ≡ false
        → IsSameReport sites old.reports.reports new.reports.reports lookup tolerance) (one.plan ∙ plan)
        (λ tolerance untouched args.
        (λ i. reported_of (sym marked_reports i) (get_or (lookups_of (plan_in new)) lookup []) args tolerance)
        ∙ heard.stayed tolerance untouched args),
  )

-- ---- an event is given up

-- reports have changed under its name at most, and go back
pub back_heard : (old new : Parts) (heard : Option ℕ) → IsUnderWay old heard → world_in new ≡ marked_world old
    → (number : ℕ) (tolerance : Option ℕ) → number < length (lookups_of (plan_in old)) → heard ≢ Some number
    → IsSameReport (plan_in old) old.reports.reports new.reports.reports number tolerance
back_heard old new heard is world number tolerance within other args =
    sym (is.only number tolerance within other args)
    ∙ (λ i. reported_of ((sym world i).reports) (get_or (lookups_of (plan_in old)) number []) args tolerance)

-- what is heard once more is touched where it read another value than at the mark
pub heard_back : (old new : Parts) (before after : CachedData) (lookup : ℕ) → world_in new ≡ marked_world old
    → HasHeard old before after lookup → TouchesMore before after × ((tolerance : Option ℕ)
    → is_touched after (source_number (plan_in old) (Reports lookup tolerance)) ≡ false
    → IsSameReport (plan_in old) old.reports.reports new.reports.reports lookup tolerance)
heard_back old new before after lookup world heard = (
  record { flat = heard.flat; truths = heard.truths; seen = heard.seen; others = heard.others },
  (λ tolerance untouched args.
      sym (heard.stayed tolerance untouched args)
      ∙ (λ i. reported_of ((sym world i).reports) (get_or (lookups_of (plan_in old)) lookup []) args tolerance)),
)
