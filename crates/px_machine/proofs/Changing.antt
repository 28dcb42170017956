-- What is kept stays right as one node is caught up: whoever reads what changes waits.
use Rattle.std.proofs.Common.{◌≡◌, ◌≢◌, ◌⊎◌, ℕ, ◌<◌, ◌&&◌, Bool, true, false, not, List, [], length, set, get_or, Option, Some, None, nat_eq, refl, ap, sym, ◌∙◌, subst, arith, inl, inr}
use Rattle.std.proofs.lemmas.Bool.{and_from, cases_eq, cond-false, cond-true, eq-eqb, false_from_ne_true, ne_eqb, not-false}
use Rattle.std.proofs.lemmas.List.{get_or-set_same, get_or-set_other, length-set, set-get_or}
use Rattle.px_value.specs.declared.enums.NodeState.{NodeState}
use Rattle.px_value.specs.declared.enums.NodeState.TheVariants as states
use Rattle.px_core.specs.declared.conditions.ConditionKind.TheVariants as which
use Rattle.px_core.specs.Plan.{Site}
use Rattle.px_sem.specs.Guards.{is_active, is_at_rest}
use Rattle.px_flat.specs.Row.{parent_number}
use Rattle.px_tally.specs.Tally.{is_counted, marked, total}
use Rattle.px_assign.specs.Claims.{AreOf, with_holding}
use Rattle.px_assign.proofs.Contested.{nobody_as_before}
use Rattle.px_cached.specs.Cached.{kept_truth}
use Rattle.px_cached.specs.Cached as cached
use Rattle.px_cached.proofs.OneList.{not_both, was_absent}
use Rattle.px_micro.specs.Above.{asks_in}
use Rattle.px_links.specs.Links.{LinksData, holder_of, is_absent}
use Rattle.px_told.specs.declared.asks.Asks.{Asks}
use Rattle.px_told.specs.Asking.{is_same}
use Rattle.px_told.specs.Hearing.{HasHeard, is_told_anew}
use Rattle.px_told.specs.Told.{ToldData, own_at, told_at, AreTold, AsksOthersAsBefore}
use Rattle.px_told.proofs.Same.{same_asks}
use Rattle.px_parts.specs.declared.parts.Parts.{Parts}
use Rattle.px_parts.specs.Parts.{plan_in}
use Rattle.px_machine.specs.declared.kept.Kept.{Kept}
use Rattle.px_machine.specs.CatchingUp.{HasTakenState, IsAskedFor}
use Rattle.px_machine.specs.Kept.{is_rest, kept_state, own_seen, parent_state, kept_truths}
use Rattle.px_machine.specs.Queue.{IsBehind, Wakes, behind_in}
use Rattle.px_machine.specs.Right.{IsRight}
use Rattle.px_machine.specs.Still.{IsStill, is_marked}
use Rattle.px_machine.specs.Told.{Agrees, IsCaughtUp}
use Rattle.px_machine.proofs.Arrivals.{HasTheSame, same_claims, same_free}
use Rattle.px_machine.proofs.Places.{parents_at}
use Rattle.px_machine.proofs.Waiting.{still_behind, wakes_both, wakes_none}

-- ---- frames

-- the same six inputs and the same mark
pub still_same : (parts parts' : Parts) (kept kept' : Kept) (node : ℕ) → HasTheSame parts parts' kept kept' node
    → is_marked kept' node ≡ is_marked kept node → IsStill parts kept node → IsStill parts' kept' node
still_same parts parts' kept kept' node same mark still = record {
  marked = mark ∙ still.marked ∙ sym (same_claims parts parts' kept kept' node same);
  stays = same_free parts parts' kept kept' node same ∙ still.stays;
}

-- ---- a node takes the state that was seen

-- where it is the state of before, so is who counts
same_marked : (kept : Kept) (nodes node : ℕ) (state : NodeState) → node < nodes → Agrees nodes kept → state ≡ kept_state kept node
    → marked kept.busy node (not (is_at_rest state)) ≡ kept.busy
same_marked kept nodes node state here agrees same =
    ap (marked kept.busy node) (ap (λ state. not (is_at_rest state)) same ∙ sym (agrees.busy node here))
    ∙ ap (λ counting. record { groups = kept.busy.groups; group_of = kept.busy.group_of; counting = counting })
    (set-get_or kept.busy.counting node false)

-- and nothing has changed
pub same_taken : (plan : List Site) (old new : Kept) (node : ℕ) (state : NodeState) → node < length plan → Agrees (length plan) old
    → new ≡ record old { states = new.states } → new.states.items ≡ set old.states.items node state → state ≡ kept_state old node
    → HasTakenState plan old new node state
same_taken plan old new node state here agrees is states same = record {
  states = states;
  busy = (λ i. (is i).busy) ∙ sym (same_marked old (length plan) node state here agrees same);
  counts = λ other. (λ i. is_counted (is i).busy other) ∙ elim (cases_eq node other) [
    | inl this ↦
        ap (is_counted old.busy) (sym this) ∙ sym counts
        ∙ sym (cond-true (nat_eq node other) (not (is_at_rest state)) (is_counted old.busy other) (eq-eqb node other this))
    | inr apart ↦
        sym (cond-false (nat_eq node other) (not (is_at_rest state)) (is_counted old.busy other) (ne_eqb node other apart))
  ];
  claims = (λ i. (is i).claims) ∙ sym (
      ap (with_holding old.claims node) (ap is_active same ∙ sym (agrees.holding node here))
      ∙ ap (λ holding. record old.claims { holding = holding }) (set-get_or old.claims.holding node false)
      );
  conditions = λ i. (is i).conditions;
  told = λ i. (is i).told;
  around = inl same;
  wakes = subst (Wakes old.queue) (λ i. (sym is i).queue) (wakes_none old.queue);
}
  where
    counts : not (is_at_rest state) ≡ is_counted old.busy node
    counts = ap (λ state. not (is_at_rest state)) same ∙ sym (agrees.busy node here)

module _ (parts : Parts) (old new : Kept) (node : ℕ) (right : IsRight parts old) (here : node < length (plan_in parts))
    (behind : IsBehind old.queue node) (taken : HasTakenState (plan_in parts) old new node (own_seen parts node).state) where
  abbrev state : NodeState
  state = (own_seen parts node).state

  abbrev busy_now : Bool
  busy_now = not (is_at_rest state)

  kept_here : kept_state new node ≡ state
  kept_here = ap (λ kept. get_or kept node states.Inactive) taken.states
      ∙ get_or-set_same old.states.items node state states.Inactive (omega (arith, here, right.of_plan.states))

  kept_other : (other : ℕ) → other ≢ node → kept_state new other ≡ kept_state old other
  kept_other other apart = ap (λ kept. get_or kept other states.Inactive) taken.states
      ∙ get_or-set_other old.states.items node other state states.Inactive apart

  -- the tallies, at the node and elsewhere
  busy_agrees : (other : ℕ) → other < length (plan_in parts) → is_counted new.busy other ≡ not (is_at_rest (kept_state new other))
  busy_agrees other within = elim (cases_eq node other) [
    | inl same ↦
        taken.counts other ∙ cond-true (nat_eq node other) busy_now (is_counted old.busy other) (eq-eqb node other same)
        ∙ ap (λ state. not (is_at_rest state)) (sym kept_here ∙ ap (kept_state new) same)
    | inr apart ↦
        taken.counts other ∙ cond-false (nat_eq node other) busy_now (is_counted old.busy other) (ne_eqb node other apart)
        ∙ right.agrees.busy other within
        ∙ ap (λ state. not (is_at_rest state)) (sym (kept_other other (λ same. apart (sym same))))
  ]

  holding_agrees : (other : ℕ) → other < length (plan_in parts) → get_or new.claims.holding other false ≡ is_active (kept_state new other)
  holding_agrees other within = elim (cases_eq node other) [
    | inl same ↦
        subst (λ other. get_or new.claims.holding other false ≡ is_active (kept_state new other)) same
        (ap (λ claims. get_or claims.holding node false) taken.claims
        ∙ get_or-set_same old.claims.holding node (is_active state) false (omega (arith, here, right.of_plan.holding))
        ∙ ap is_active (sym kept_here))
    | inr apart ↦
        ap (λ claims. get_or claims.holding other false) taken.claims
        ∙ get_or-set_other old.claims.holding node other (is_active state) false (λ same. apart (sym same))
        ∙ right.agrees.holding other within ∙ ap is_active (sym (kept_other other (λ same. apart (sym same))))
  ]

  -- where the state is the same, so is who counts
  same_busy : state ≡ kept_state old node → new.busy ≡ old.busy
  same_busy same = taken.busy ∙ same_marked old (length (plan_in parts)) node state here right.agrees same

  -- ---- who waits nowhere

  module _ (other : ℕ) (within : other < length (plan_in parts)) (absent : is_absent new.queue other ≡ true) where
    parent_same : (parent : Option ℕ) → parent_number (plan_in parts) other ≡ parent → parent_state new parent ≡ parent_state old parent
    parent_same None is = refl
    parent_same (Some parent) is = elim (cases_eq parent node) [
      | inl same ↦ elim taken.around [
        | inl state_same ↦ ap (kept_state new) same ∙ kept_here ∙ state_same ∙ ap (kept_state old) (sym same)
        | inr wait ↦
            let waits : is_absent new.queue other ≡ false = wait.children other within (is ∙ ap Some same) in
            absurd (cc (sym waits ∙ absent))
      ]
      | inr apart ↦ kept_other parent apart
    ]

    rest_same : is_rest new other ≡ is_rest old other
    rest_same = elim taken.around [
      | inl state_same ↦ ap (λ tally. nat_eq (total tally other) 0) (same_busy state_same)
      | inr wait ↦
          ap (λ tally. nat_eq (total tally other) 0) taken.busy
          ∙ nobody_as_before old.busy node busy_now other (λ is.
          let parent : parent_number (plan_in parts) node ≡ Some other =
          sym (parents_at (plan_in parts) node here) ∙ ap (λ parents. get_or parents node None) (sym right.of_plan.parents) ∙ is in
          let waits : is_absent new.queue other ≡ false = wait.parent other parent in
          absurd (cc (sym waits ∙ absent)))
    ]

    other_same : HasTheSame parts parts old new other
    other_same = record {
      plan = refl;
      own = refl;
      parent = parent_same (parent_number (plan_in parts) other) refl;
      told = ap (λ told. told_at told other) taken.told;
      rest = rest_same;
      truths = ap (λ conditions. kept_truths conditions other) taken.conditions;
    }

  others_caught_up : (other : ℕ) → other < length (plan_in parts) → (IsBehind new.queue other → ⊥) → IsCaughtUp parts new other
  others_caught_up other within apart = elim (cases_eq node other) [
    | inl same ↦ absurd (apart (still_behind old.queue new.queue 1 other taken.wakes.added (subst (IsBehind old.queue) same behind)))
    | inr differs ↦
        let was = right.caught_up other within (λ before. apart (still_behind old.queue new.queue 1 other taken.wakes.added before)) in
        record {
          state = kept_other other (λ same. differs (sym same)) ∙ was.state;
          asks = ap (λ told. own_at told other) taken.told ∙ was.asks
              ∙ sym (ap (λ conditions. asks_in (own_seen parts other) (kept_truth conditions other which.Exit)
              (kept_truth conditions other which.Invariant) (kept_truth conditions other which.End)) taken.conditions);
        }
  ]

  pub right_after_state : IsRight parts new
  right_after_state = record {
    of_plan = record {
      conditions = ap cached.plan_in taken.conditions ∙ right.of_plan.conditions;
      states = ap length taken.states ∙ length-set old.states.items node state ∙ right.of_plan.states;
      tree = ap (λ told. told.tree) taken.told ∙ right.of_plan.tree;
      parents = ap (λ tally. tally.group_of) taken.busy ∙ right.of_plan.parents;
      groups = ap (λ tally. tally.groups) taken.busy ∙ right.of_plan.groups;
      claims = subst (AreOf (plan_in parts)) (sym taken.claims)
          (record { writers = right.of_plan.claims.writers; variables = right.of_plan.claims.variables });
      wanting = ap (λ claims. length claims.wanting) taken.claims ∙ right.of_plan.wanting;
      holding = ap (λ claims. length claims.holding) taken.claims
          ∙ length-set old.claims.holding node (is_active state) ∙ right.of_plan.holding;
      cells = taken.wakes.counts.0 ∙ right.of_plan.cells;
      lists = taken.wakes.counts.1 ∙ right.of_plan.lists;
      few = right.of_plan.few;
    };
    agrees = record { busy = busy_agrees; holding = holding_agrees; told = subst AreTold (sym taken.told) right.agrees.told };
    caught_up = others_caught_up;
    still = λ other within absent.
        still_same parts parts old new other (other_same other within absent)
        (ap (λ claims. get_or claims.wanting other false) taken.claims)
        (right.still other within (was_absent old.queue new.queue 1 other taken.wakes.added absent));
  }

-- ---- a node asks what it asks now

-- what `told.set` leaves of what is told, and of the queue
pub record HasAsked (old : Kept) (told : ToldData) (queue : LinksData) (node : ℕ) (asks : Asks) : Type 0 where
  pub tree : told.tree ≡ old.told.tree
  pub own : AsksOthersAsBefore old.told told node asks
  pub right : AreTold told
  pub heard : HasHeard old.told.told told.told old.queue queue 1

abbrev pub with_told : Kept → ToldData → LinksData → Kept
with_told kept told queue = record kept { told = told; queue = queue }

-- whoever is told something else is woken
pub hearers_wake : (old : Kept) (told : ToldData) (queue : LinksData) (node : ℕ) (asks : Asks) → HasAsked old told queue node asks
    → Wakes old.queue queue
hearers_wake old told queue node asks asked = record {
  added = λ other. by other (is_told_anew old.told.told told.told other) (is_absent old.queue other) refl refl;
  behind = ap behind_in asked.heard.lists ∙ get_or-set_other old.queue.lists 1 0 _ [] (λ same. absurd (omega (arith, same)));
  counts = asked.heard.counts;
}
  where
    by : (other : ℕ) (anew absent : Bool) → is_told_anew old.told.told told.told other ≡ anew → is_absent old.queue other ≡ absent
        → (holder_of queue other ≡ holder_of old.queue other)
        ⊎ ((is_absent old.queue other ≡ true) × (holder_of queue other ≡ Some 1))
    by other true true anew_is absent_is = inr (absent_is, rw (anew_is, absent_is) at (asked.heard.holders other))
    by other true false anew_is absent_is = inl (rw (anew_is, absent_is) at (asked.heard.holders other))
    by other false absent anew_is absent_is = inl (rw anew_is at (asked.heard.holders other))

module _ (parts : Parts) (old : Kept) (told : ToldData) (queue : LinksData) (node : ℕ) (asks : Asks)
    (right : IsRight parts old) (behind : IsBehind old.queue node) (asked : HasAsked old told queue node asks) where
  wakes : Wakes old.queue queue
  wakes = hearers_wake old told queue node asks asked

  -- who waits nowhere is told what it was
  same_told : (other : ℕ) → is_absent queue other ≡ true → told_at told other ≡ told_at old.told other
  same_told other absent =
      same_asks (told_at told other) (told_at old.told other)
      (not-false (is_same (told_at told other) (told_at old.told other))
      (false_from_ne_true (is_told_anew old.told.told told.told other) (λ anew.
      let both : Bool = is_told_anew old.told.told told.told other && is_absent old.queue other in
      let woken : holder_of queue other ≡ Some 1 = asked.heard.holders other
      ∙ cond-true both (Some 1) (holder_of old.queue other)
      (and_from (is_told_anew old.told.told told.told other) (is_absent old.queue other) anew
      (was_absent old.queue queue 1 other wakes.added absent)) in
      not_both queue other 1 woken absent)))

  -- what another node asks is as before; this one is behind, and nothing is owed of it
  askers_caught_up : (other : ℕ) → other < length (plan_in parts) → (IsBehind queue other → ⊥)
      → IsCaughtUp parts (with_told old told queue) other
  askers_caught_up other here apart = elim (cases_eq node other) [
    | inl same ↦ absurd (apart (still_behind old.queue queue 1 other wakes.added (subst (IsBehind old.queue) same behind)))
    | inr differs ↦
        let was = right.caught_up other here (λ before. apart (still_behind old.queue queue 1 other wakes.added before)) in
        record {
          state = was.state;
          asks = asked.own other ∙ cond-false (nat_eq node other) asks (own_at old.told other) (ne_eqb node other differs) ∙ was.asks;
        }
  ]

  pub right_after_asks : IsRight parts (with_told old told queue)
  right_after_asks = record {
    of_plan = record {
      conditions = right.of_plan.conditions;
      states = right.of_plan.states;
      tree = asked.tree ∙ right.of_plan.tree;
      parents = right.of_plan.parents;
      groups = right.of_plan.groups;
      claims = right.of_plan.claims;
      wanting = right.of_plan.wanting;
      holding = right.of_plan.holding;
      cells = wakes.counts.0 ∙ right.of_plan.cells;
      lists = wakes.counts.1 ∙ right.of_plan.lists;
      few = right.of_plan.few;
    };
    agrees = record { busy = right.agrees.busy; holding = right.agrees.holding; told = asked.right };
    caught_up = askers_caught_up;
    still = λ other here absent.
        still_same parts parts old (with_told old told queue) other (record {
          plan = refl;
          own = refl;
          parent = refl;
          told = same_told other absent;
          rest = refl;
          truths = refl;
        }) refl (right.still other here (was_absent old.queue queue 1 other wakes.added absent));
  }

-- The node that both were done for: `states` at the node by `set`, `own` at the node.
pub is_caught_up : (parts : Parts) (old middle : Kept) (told : ToldData) (queue : LinksData) (node : ℕ) (asks : Asks)
    → HasTakenState (plan_in parts) old middle node (own_seen parts node).state → IsAskedFor parts middle node asks
    → HasAsked middle told queue node asks → node < length old.states.items → IsCaughtUp parts (with_told middle told queue) node
is_caught_up parts old middle told queue node asks taken is asked within = record {
  state = ap (λ kept. get_or kept node states.Inactive) taken.states
      ∙ get_or-set_same old.states.items node (own_seen parts node).state states.Inactive within;
  asks = asked.own node ∙ cond-true (nat_eq node node) asks (own_at middle.told node) (eq-eqb node node refl) ∙ is;
}

-- both together: a node that is behind takes the state that was seen, and then asks what it asks
pub node_caught_up : (parts : Parts) (old middle : Kept) (told : ToldData) (queue : LinksData) (node : ℕ) (state : NodeState) (asks : Asks)
    → IsRight parts old → node < length (plan_in parts) → IsBehind old.queue node → state ≡ (own_seen parts node).state
    → HasTakenState (plan_in parts) old middle node state → IsAskedFor parts middle node asks → HasAsked middle told queue node asks
    → IsRight parts (with_told middle told queue) × IsCaughtUp parts (with_told middle told queue) node × Wakes old.queue queue
node_caught_up parts old middle told queue node state asks right here behind is_seen took is asked =
    let taken : HasTakenState (plan_in parts) old middle node (own_seen parts node).state =
    subst (HasTakenState (plan_in parts) old middle node) is_seen took in
    let waits : IsBehind middle.queue node = still_behind old.queue middle.queue 1 node taken.wakes.added behind in (
      right_after_asks parts middle told queue node asks (right_after_state parts old middle node right here behind taken) waits asked,
      is_caught_up parts old middle told queue node asks taken is asked (omega (arith, here, right.of_plan.states)),
      wakes_both old.queue middle.queue queue taken.wakes (hearers_wake middle told queue node asks asked),
    )
