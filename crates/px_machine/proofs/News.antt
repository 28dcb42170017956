-- News that is noted: what isn't noted is as it was seen.
use Rattle.std.proofs.Common.{◌≡◌, ◌⊎◌, ℕ, ◌+◌, ◌<◌, true, false, [], ◌∷◌, ◌++◌, length, List, Contains, All, get_or, None, slice_get, refl, ap, sym, ◌∙◌, subst, arith, inl, inr}
use Rattle.std.specs.Option.{unwrap_or}
use Rattle.std.proofs.lemmas.List.Elements.{All-contains, All-push}
use Rattle.std.proofs.lemmas.Option.{unwrap_or-slice_get}
use Rattle.px_value.specs.declared.value.Value.{Value}
use Rattle.px_core.specs.declared.conditions.ConditionKind.{ConditionKind}
use Rattle.px_core.specs.Plan.{Site}
use Rattle.px_flat.specs.declared.act.Act.TheVariants as under_way
use Rattle.px_flat.specs.declared.flat.Flat.{Flat}
use Rattle.px_flat.specs.Flat.{plan_of}
use Rattle.px_flat.specs.Layout.{acknowledgement_cell, failure_cell, handle_cell, outcome_cell, state_cell}
use Rattle.px_flat.specs.Lookups.{lookups_of}
use Rattle.px_flat.specs.Numbered.{Numbered, held, reported_of}
use Rattle.px_flat.specs.Parts.{action_in, failure_in, outcome_in, state_in}
use Rattle.px_flat.specs.Sources.{Cells, IsSame, Reports, Source, sources_in}
use Rattle.px_links.specs.Links.{is_absent}
use Rattle.px_assign.specs.Claims.{AreOf}
use Rattle.px_cached.specs.Cached.{CachedData, HasTouchedCell, IsTouchedAt, SeenIn, TouchedIn, TellsChanged, is_touched, kept_truth, present_in}
use Rattle.px_cached.specs.Cached as cached
use Rattle.px_cached.specs.Conditions.{condition_in, number_of, source_number}
use Rattle.px_cached.specs.Firsts.{HasCell}
use Rattle.px_cached.proofs.Conditions.{condition_within}
use Rattle.px_cached.proofs.Listening.{IsThere, sources_there}
use Rattle.px_cached.proofs.OneList.{still_waits, was_absent}
use Rattle.px_cached.proofs.Seeing.{was_untouched}
use Rattle.px_parts.specs.declared.parts.Parts.{Parts}
use Rattle.px_parts.specs.Parts.{AreSame, AreStanding, plan_in}
use Rattle.px_parts.specs.Seen.{AreAllSeen}
use Rattle.px_machine.specs.declared.kept.Kept.{Kept}
use Rattle.px_machine.specs.Kept.{IsOfPlan, own_in, own_seen}
use Rattle.px_machine.specs.Noticing.{HaveNotedActs, HaveNotedCells, IsCellOf, IsNoticed, IsRefreshed, IsSameBut, IsSeenBut}
use Rattle.px_machine.specs.Queue.{FallBehind, IsBehind, NobodyIsWoken}
use Rattle.px_machine.specs.Right.{IsRight}
use Rattle.px_machine.specs.Seen.{IsSeen}
use Rattle.px_machine.proofs.Framing.{IsFramed, right_framed}
use Rattle.px_machine.proofs.Waiting.{among_or_not, falls_both, in_one_of_two, none_woken, still_behind}

-- where nobody is woken, whoever waits at all is behind
pub all_behind : (kept : Kept) (node : ℕ) → length kept.queue.lists ≡ 2 → NobodyIsWoken kept.queue
    → is_absent kept.queue node ≡ false → IsBehind kept.queue node
all_behind kept node lists nobody waits = elim (in_one_of_two kept.queue node lists waits) [
  | inl behind ↦ behind
  | inr woken ↦ absurd (nobody node woken)
]

-- what is the same at a place, whatever stands for nothing there
same_at : {X : Type 0} (xs ys : List X) (k : ℕ) (d : X) → slice_get xs k ≡ slice_get ys k → get_or xs k d ≡ get_or ys k d
same_at xs ys k d same =
    sym (unwrap_or-slice_get xs k d) ∙ ap (λ found. unwrap_or found d) same ∙ unwrap_or-slice_get ys k d

-- it has no news and is as it was, or it has
same_or : {X : Type 0} (now seen : List X) (news : List ℕ) (d : X)
    → ((k : ℕ) → (Contains news k → ⊥) → slice_get now k ≡ slice_get seen k) → (k : ℕ)
    → (get_or now k d ≡ get_or seen k d) ⊎ Contains news k
same_or now seen news d others k = elim (among_or_not news k) [
  | inl there ↦ inr there
  | inr apart ↦ inl (same_at now seen k d (others k apart))
]

-- ---- one cell more, or one act

-- what was touched is
still_touched : (old new : CachedData) (cell : ℕ) → new.flat ≡ old.flat
    → ((source : ℕ) → is_touched old source ≡ true → is_touched new source ≡ true) → IsTouchedAt old cell → IsTouchedAt new cell
still_touched old new cell flat others touched =
    subst (λ (flat : Flat). TouchedIn (plan_of flat) new cell) (sym flat)
    (λ node kind here k d inside own. others _ (touched node kind here k d inside own))

same_both : (first middle last : Kept) → IsSameBut first middle → IsSameBut middle last → IsSameBut first last
same_both first middle last one two = record {
  flat = two.flat ∙ one.flat;
  truths = two.truths ∙ one.truths;
  seen = two.seen ∙ one.seen;
  states = two.states ∙ one.states;
  told = two.told ∙ one.told;
  busy = two.busy ∙ one.busy;
  claims = two.claims ∙ one.claims;
}

pub cells_more : (plan : List Site) (first old new : Kept) (some : List ℕ) (cell : ℕ) → HaveNotedCells plan first old some
    → IsSameBut old new → HasTouchedCell old.conditions new.conditions cell → FallBehind old.queue new.queue
    → ((node : ℕ) → node < length plan → IsCellOf plan node cell → is_absent new.queue node ≡ false)
    → HaveNotedCells plan first new (some ++ cell ∷ [])
cells_more plan first old new some cell noted same touched queue waits = record {
  same = same_both first old new noted.same same;
  queue = falls_both first.queue old.queue new.queue noted.queue queue;
  touched = All-push (λ cell. IsTouchedAt new.conditions cell) some cell
      (λ k d inside. still_touched old.conditions new.conditions (get_or some k d) touched.flat touched.others (noted.touched k d inside))
      touched.this;
  before = λ source was. touched.others source (noted.before source was);
  noted = λ node here.
      All-push (λ cell. IsCellOf plan node cell → is_absent new.queue node ≡ false) some cell
      (λ k d inside own. still_waits 0 old.queue new.queue node queue.added (noted.noted node here k d inside own))
      (waits node here);
}

pub acts_more : (first old new : Kept) (some : List ℕ) (node : ℕ) → HaveNotedActs first old some → IsSameBut old new
    → new.conditions ≡ old.conditions → FallBehind old.queue new.queue → is_absent new.queue node ≡ false
    → HaveNotedActs first new (some ++ node ∷ [])
acts_more first old new some node noted same conditions queue waits = record {
  conditions = conditions ∙ noted.conditions;
  same = same_both first old new noted.same same;
  queue = falls_both first.queue old.queue new.queue noted.queue queue;
  noted = All-push (λ node. is_absent new.queue node ≡ false) some node
      (λ k d inside. still_waits 0 old.queue new.queue (get_or some k d) queue.added (noted.noted k d inside)) waits;
}

-- ---- what was noted is noticed

module _ (old new : Parts) (before middle after : Kept) (stand : AreStanding old) (right : IsRight old before)
    (seen : IsSeen old before.conditions) (nobody : NobodyIsWoken before.queue)
    (cells : HaveNotedCells (plan_in old) before middle old.cells.news) (cells_seen : IsSeenBut old.cells)
    (acts : HaveNotedActs middle after old.actions.news) (acts_seen : IsSeenBut old.actions) (same : AreSame old new)
    (all : AreAllSeen new) where
  abbrev plan : List Site
  plan = plan_in old

  falls : FallBehind before.queue after.queue
  falls = falls_both before.queue middle.queue after.queue cells.queue acts.queue

  lists : length after.queue.lists ≡ 2
  lists = falls.counts.1 ∙ right.of_plan.lists

  nobody_after : NobodyIsWoken after.queue
  nobody_after = none_woken before.queue after.queue falls nobody

  -- what is seen now
  cells_now : new.cells.seen ≡ old.cells.contents.values
  cells_now = all.cells.0 ∙ ap (λ contents. contents.values) same.cells

  acts_now : new.actions.seen ≡ old.actions.contents.values
  acts_now = all.actions.0 ∙ ap (λ contents. contents.values) same.actions

  -- ---- the own record of a node that isn't behind

  module _ (node : ℕ) (here : node < length plan) (apart : IsBehind after.queue node → ⊥) where
    cell_stays : (cell : ℕ) → IsCellOf plan node cell → held new.cells.seen cell ≡ held old.cells.seen cell
    cell_stays cell own =
        ap (λ (cells : List Value). held cells cell) cells_now
        ∙ elim (same_or old.cells.contents.values old.cells.seen old.cells.news _ cells_seen cell) [
          | inl is ↦ is
          | inr there ↦
              let noted : is_absent middle.queue node ≡ false =
              All-contains (λ cell. IsCellOf plan node cell → is_absent middle.queue node ≡ false) old.cells.news cell
              (cells.noted node here) there own in
              absurd (apart (all_behind after node lists nobody_after
              (still_waits 0 middle.queue after.queue node acts.queue.added noted)))
        ]

    act_stays : get_or new.actions.seen node under_way.Idle ≡ get_or old.actions.seen node under_way.Idle
    act_stays =
        ap (λ acts. get_or acts node under_way.Idle) acts_now
        ∙ elim (same_or old.actions.contents.values old.actions.seen old.actions.news under_way.Idle acts_seen node) [
          | inl is ↦ is
          | inr there ↦
              absurd (apart (all_behind after node lists nobody_after
              (All-contains (λ node. is_absent after.queue node ≡ false) old.actions.news node acts.noted there)))
        ]

    own_stays : own_seen new node ≡ own_seen old node
    own_stays =
        ap (λ (sites : List Site). own_in sites new.cells.seen new.actions.seen node) same.plan
        ∙ (λ i. record {
          state = state_in (cell_stays (state_cell plan node) (omega arith, omega arith) i);
          outcome = outcome_in (cell_stays (outcome_cell plan node) (omega arith, omega arith) i);
          failure = failure_in (cell_stays (failure_cell plan node) (omega arith, omega arith) i);
          variables = [];
          action = action_in (act_stays i) (cell_stays (handle_cell plan node) (omega arith, omega arith) i)
              (cell_stays (acknowledgement_cell plan node) (omega arith, omega arith) i);
        })

  -- ---- what is kept

  framed : IsFramed old new before after
  framed = record {
    plan = same.plan;
    of_plan = record {
      conditions = (λ i. plan_of (acts.same.flat i)) ∙ (λ i. plan_of (cells.same.flat i)) ∙ right.of_plan.conditions;
      states = (λ i. length (acts.same.states i).items) ∙ (λ i. length (cells.same.states i).items) ∙ right.of_plan.states;
      tree = (λ i. (acts.same.told i).tree) ∙ (λ i. (cells.same.told i).tree) ∙ right.of_plan.tree;
      parents = (λ i. (acts.same.busy i).group_of) ∙ (λ i. (cells.same.busy i).group_of) ∙ right.of_plan.parents;
      groups = (λ i. (acts.same.busy i).groups) ∙ (λ i. (cells.same.busy i).groups) ∙ right.of_plan.groups;
      claims = subst (AreOf plan) (sym (acts.same.claims ∙ cells.same.claims)) right.of_plan.claims;
      wanting = (λ i. length (acts.same.claims i).wanting) ∙ (λ i. length (cells.same.claims i).wanting) ∙ right.of_plan.wanting;
      holding = (λ i. length (acts.same.claims i).holding) ∙ (λ i. length (cells.same.claims i).holding) ∙ right.of_plan.holding;
      cells = falls.counts.0 ∙ right.of_plan.cells;
      lists = lists;
      few = right.of_plan.few;
    };
    states = acts.same.states ∙ cells.same.states;
    told = acts.same.told ∙ cells.same.told;
    busy = acts.same.busy ∙ cells.same.busy;
    claims = acts.same.claims ∙ cells.same.claims;
    behind = λ node was. still_behind before.queue after.queue 0 node falls.added was;
    absent = λ node absent. was_absent before.queue after.queue 0 node falls.added absent;
    own = own_stays;
    truths = λ node kind here apart i.
        get_or ((acts.same.truths ∙ cells.same.truths) i) (number_of node kind) None;
  }

  -- ---- sources

  plan_is : cached.plan_in after.conditions ≡ plan
  plan_is = framed.of_plan.conditions

  touched_at : All (TouchedIn plan after.conditions) old.cells.news
  touched_at = subst (λ (sites : List Site). All (TouchedIn sites after.conditions) old.cells.news) plan_is
      (subst (λ conditions. All (IsTouchedAt conditions) old.cells.news) (sym acts.conditions) cells.touched)

  kept_touched : (source : ℕ) → is_touched before.conditions source ≡ true → is_touched after.conditions source ≡ true
  kept_touched source was = (λ i. is_touched (acts.conditions i) source) ∙ cells.before source was

  -- a source that isn't touched holds what it held
  source_same : (source : Source) → IsThere plan source
      → ((cell : ℕ) → HasCell source cell → Contains old.cells.news cell
      → is_touched after.conditions (source_number plan source) ≡ true)
      → is_touched after.conditions (source_number plan source) ≡ false
      → IsSame plan after.conditions.seen (present_in new.cells new.reports) source
  source_same (Cells first size) there touches untouched = λ k few.
      (λ i. held (acts.conditions i).seen.cells (first + k)) ∙ (λ i. held (cells.same.seen i).cells (first + k))
      ∙ (λ i. held (seen.cells i) (first + k))
      ∙ sym (elim (same_or old.cells.contents.values old.cells.seen old.cells.news _ cells_seen (first + k)) [
        | inl is ↦ is
        | inr among ↦ absurd (cc (sym (touches (first + k) (omega arith, omega (arith, few)) among) ∙ untouched))
      ])
      ∙ (λ i. held (sym same.cells i).values (first + k))
  source_same (Reports lookup tolerance) there touches untouched = λ args.
      (λ i. reported_of (acts.conditions i).seen.reports (get_or (lookups_of plan) lookup []) args tolerance)
      ∙ (λ i. reported_of (cells.same.seen i).reports (get_or (lookups_of plan) lookup []) args tolerance)
      ∙ seen.reports lookup tolerance there (was_untouched before.conditions after.conditions (source_number plan (Reports lookup tolerance)) kept_touched untouched) args
      ∙ (λ i. reported_of (sym same.reports i).reports (get_or (lookups_of plan) lookup []) args tolerance)

  seen_in : SeenIn plan after.conditions (present_in new.cells new.reports)
  seen_in node kind here k d inside =
      let expr : Numbered = condition_in plan node kind in
      source_same (get_or (sources_in plan expr) k d)
      (sources_there plan expr (condition_within old.flat node kind here) k d inside)
      (λ cell own among. All-contains (TouchedIn plan after.conditions) old.cells.news cell touched_at among node kind here k d inside own)

  pub noticed : IsNoticed new after
  noticed = record {
    seen = all;
    touched = subst (λ (sites : List Site). SeenIn sites after.conditions (present_in new.cells new.reports)) (sym plan_is) seen_in;
    right = right_framed old new before after framed right;
    nobody = nobody_after;
  }

-- A node with a condition that changed waits, so it is behind, and nothing is owed of it; of any other all eight truths are as
-- before.
pub refreshed : (parts : Parts) (old new : Kept) → IsNoticed parts old
    → new ≡ record old { conditions = new.conditions; queue = new.queue } → cached.plan_in new.conditions ≡ plan_in parts
    → cached.IsSeen new.conditions (present_in parts.cells parts.reports) → TellsChanged old.conditions new.conditions old.queue new.queue 0
    → IsRefreshed parts new
refreshed parts old new noticed same plan seen tells = record {
  seen = seen;
  right = right_framed parts parts old new framed noticed.right;
  nobody = nobody;
}
  where
    of_plan : IsOfPlan (plan_in parts) old
    of_plan = noticed.right.of_plan

    nobody : NobodyIsWoken new.queue
    nobody = none_woken old.queue new.queue (record { added = tells.holders; counts = tells.counts }) noticed.nobody

    truth_same : (node : ℕ) (kind : ConditionKind) → node < length (plan_in parts) → (IsBehind new.queue node → ⊥)
        → kept_truth new.conditions node kind ≡ kept_truth old.conditions node kind
    truth_same node kind here apart =
        elim (tells.changed node kind (omega (arith, here, ap length of_plan.conditions))) [
          | inl is ↦ is
          | inr waits ↦ absurd (apart (all_behind new node (tells.counts.1 ∙ of_plan.lists) nobody waits))
        ]

    framed : IsFramed parts parts old new
    framed = record {
      plan = refl;
      of_plan = record {
        conditions = plan;
        states = (λ i. length (same i).states.items) ∙ of_plan.states;
        tree = (λ i. (same i).told.tree) ∙ of_plan.tree;
        parents = (λ i. (same i).busy.group_of) ∙ of_plan.parents;
        groups = (λ i. (same i).busy.groups) ∙ of_plan.groups;
        claims = subst (AreOf (plan_in parts)) (λ i. (sym same i).claims) of_plan.claims;
        wanting = (λ i. length (same i).claims.wanting) ∙ of_plan.wanting;
        holding = (λ i. length (same i).claims.holding) ∙ of_plan.holding;
        cells = tells.counts.0 ∙ of_plan.cells;
        lists = tells.counts.1 ∙ of_plan.lists;
        few = of_plan.few;
      };
      states = λ i. (same i).states;
      told = λ i. (same i).told;
      busy = λ i. (same i).busy;
      claims = λ i. (same i).claims;
      behind = λ node was. still_behind old.queue new.queue 0 node tells.holders was;
      absent = λ node absent. was_absent old.queue new.queue 0 node tells.holders absent;
      own = λ node here apart. refl;
      truths = truth_same;
    }
