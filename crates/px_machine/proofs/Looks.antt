-- How far a look over the woken nodes has come.
use Rattle.std.proofs.Common.{◌≡◌, ◌≢◌, ℕ, suc, ◌<◌, Bool, true, false, [], ◌∷◌, ◌++◌, append-nil, List, length, get_or, Option, Some, None, All, AllPairs, Contains, IsSome, map, refl, ap, sym, ◌∙◌, subst, arith, inl, inr, if◌then◌else◌}
use Rattle.std.specs.List.{cons_option}
use Rattle.std.proofs.lemmas.Bool.{cases_eq, eqb-true, false≢true}
use Rattle.std.proofs.lemmas.List.{get_or-set_other, length-set, map-append}
use Rattle.std.proofs.lemmas.List.Elements.{All-nil, All-push, Contains-append_left, Contains-append_right}
use Rattle.std.proofs.lemmas.List.Quantifiers.{all_pairs_push, position-Some}
use Rattle.std.proofs.lemmas.Map.Made.{Contains-tail}
use Rattle.std.proofs.lemmas.Map.Views.{Contains-from_any}
use Rattle.px_sem.specs.declared.guards.Arrival.{Arrival}
use Rattle.px_sem.specs.Conflicts.{destination, is_loser, transition}
use Rattle.px_core.specs.Plan.{Site}
use Rattle.px_sem.specs.World.{World}
use Rattle.px_flat.specs.Row.{parent_number, site_in}
use Rattle.px_links.specs.Links.{is_absent}
use Rattle.px_links.specs.Lists.{has, nth}
use Rattle.px_assign.specs.Claims.{ClaimsData}
use Rattle.px_cached.proofs.OneList.{not_both}
use Rattle.px_parts.specs.declared.parts.Parts.{Parts}
use Rattle.px_parts.specs.Parts.{AreStanding, plan_in, world_in}
use Rattle.px_micro.specs.declared.sight.Going.{Going}
use Rattle.px_micro.specs.Going.{with_node}
use Rattle.px_machine.specs.declared.kept.Kept.{Kept}
use Rattle.px_machine.specs.Contest.{HasLooked, IsSimulation}
use Rattle.px_machine.specs.Kept.{arrival_of}
use Rattle.px_machine.specs.Looking.{HasLookedAt, IsSameButMark, with_mark}
use Rattle.px_machine.specs.Queue.{IsGoer, IsWoken, NobodyIsBehind}
use Rattle.px_machine.specs.Right.{IsNow, IsRight}
use Rattle.px_machine.specs.Still.{claims_now, free_arrival, is_marked}
use Rattle.px_machine.proofs.Arrivals.{HasTheSame, arrival_now, parent_same, same_claims, same_free}
use Rattle.px_machine.proofs.Changing.{still_same}
use Rattle.px_machine.proofs.Choosing.{claims_are, writer_loses}
use Rattle.px_machine.proofs.Waiting.{waits_nowhere}

-- the marks of all nodes but those ahead are exact, and these are all of them that go without asking for a variable
pub record HaveLookedBut (parts : Parts) (kept : Kept) (going : List Going) (ahead : List ℕ) : Type 0 where
  pub marked : (node : ℕ) → node < length (plan_in parts) → (Contains ahead node → ⊥) → is_marked kept node ≡ claims_now parts kept node
  pub within : All (λ one. one.node < length (plan_in parts)) going
  pub behind : All (λ one. Contains ahead one.node → ⊥) going
  pub once : AllPairs (λ a b. a.node ≢ b.node) going
  pub each : All (λ one. free_arrival parts kept one.node ≡ Some one.arrival) going
  pub all : (node : ℕ) → node < length (plan_in parts) → (Contains ahead node → ⊥) → IsSome (free_arrival parts kept node) → IsGoer going node

-- ---- a mark is no input of anything

abbrev with_claims : Kept → ClaimsData → Kept
with_claims kept claims = record kept { claims = claims }

six_marked : (parts : Parts) (kept : Kept) (claims : ClaimsData) (node : ℕ) → HasTheSame parts parts kept (with_claims kept claims) node
six_marked parts kept claims node = record {
  plan = refl;
  own = refl;
  parent = parent_same kept (with_claims kept claims) refl (parent_number (plan_in parts) node);
  told = refl;
  rest = refl;
  truths = refl;
}

claims_marked : (parts : Parts) (kept : Kept) (claims : ClaimsData) (node : ℕ)
    → claims_now parts (with_claims kept claims) node ≡ claims_now parts kept node
claims_marked parts kept claims node = same_claims parts parts kept (with_claims kept claims) node (six_marked parts kept claims node)

free_marked : (parts : Parts) (kept : Kept) (claims : ClaimsData) (node : ℕ)
    → free_arrival parts (with_claims kept claims) node ≡ free_arrival parts kept node
free_marked parts kept claims node = same_free parts parts kept (with_claims kept claims) node (six_marked parts kept claims node)

-- ---- at first

-- a node that isn't woken waits nowhere, since nobody is behind, and is still
pub looked_at_none : (parts : Parts) (kept : Kept) → IsRight parts kept → NobodyIsBehind kept.queue
    → HaveLookedBut parts kept [] (nth kept.queue.lists 1)
looked_at_none parts kept right nobody = record {
  marked = λ node here apart. (right.still node here (absent node apart)).marked;
  within = All-nil (λ one. one.node < length (plan_in parts));
  behind = All-nil (λ one. Contains (nth kept.queue.lists 1) one.node → ⊥);
  once = λ i j d before inside. absurd (omega (arith, inside));
  each = All-nil (λ one. free_arrival parts kept one.node ≡ Some one.arrival);
  all = λ node here apart goes. absurd (false≢true (subst IsSome (right.still node here (absent node apart)).stays goes));
}
  where
    absent : (node : ℕ) → (Contains (nth kept.queue.lists 1) node → ⊥) → is_absent kept.queue node ≡ true
    absent node apart = waits_nowhere kept.queue node right.of_plan.lists (nobody node) (λ woken.
        apart (Contains-from_any eqb-true node (nth kept.queue.lists 1)
        (position-Some (λ cells. has cells node) kept.queue.lists 1 [] woken).1))

-- ---- one more

module _ (parts : Parts) (old : Kept) (node : ℕ) (wants : Bool) (before after : List Going) (ahead : List ℕ)
    (here : node < length (plan_in parts)) (looked : HaveLookedBut parts old before (node ∷ ahead))
    (at : HasLookedAt parts (with_mark old node wants) node before after) (once : Contains ahead node → ⊥) where
  abbrev remarked : Kept
  remarked = with_mark old node wants

  marked : (other : ℕ) → other < length (plan_in parts) → (Contains ahead other → ⊥) → is_marked remarked other ≡ claims_now parts remarked other
  marked other there apart = elim (cases_eq other node) [
    | inl same ↦ subst (λ node. is_marked remarked node ≡ claims_now parts remarked node) (sym same) at.marked
    | inr differs ↦
        get_or-set_other old.claims.wanting node other wants false differs
        ∙ looked.marked other there (λ among. apart (Contains-tail node ahead other (λ same. differs (sym same)) among)) ∙ sym (claims_marked parts old remarked.claims other)
  ]

  each : All (λ one. free_arrival parts remarked one.node ≡ Some one.arrival) before
  each k d inside = free_marked parts old remarked.claims (get_or before k d).node ∙ looked.each k d inside

  behind : All (λ one. Contains ahead one.node → ⊥) before
  behind k d inside there = looked.behind k d inside (Contains-append_right (node ∷ []) ahead (get_or before k d).node there)

  -- a node that went before is another one
  all_others : (other : ℕ) → other < length (plan_in parts) → other ≢ node → (Contains ahead other → ⊥)
      → IsSome (free_arrival parts remarked other) → IsGoer before other
  all_others other there differs apart goes =
      looked.all other there (λ among. apart (Contains-tail node ahead other (λ same. differs (sym same)) among)) (subst IsSome (free_marked parts old remarked.claims other) goes)

  looked_to : (to : Option Arrival) → free_arrival parts remarked node ≡ to
      → HaveLookedBut parts remarked (before ++ cons_option (with_node node to) []) ahead
  looked_to None is = subst (λ going. HaveLookedBut parts remarked going ahead) (sym (append-nil before)) (record {
    marked = marked;
    within = looked.within;
    behind = behind;
    once = looked.once;
    each = each;
    all = λ other there apart goes. elim (cases_eq other node) [
      | inl same ↦ absurd (false≢true (subst IsSome (ap (free_arrival parts remarked) same ∙ is) goes))
      | inr differs ↦ all_others other there differs apart goes
    ];
  })
  looked_to (Some arrival) is =
      let one : Going = record { node = node; arrival = arrival } in
      record {
        marked = marked;
        within = All-push (λ one. one.node < length (plan_in parts)) before one looked.within here;
        behind = All-push (λ one. Contains ahead one.node → ⊥) before one behind once;
        once = all_pairs_push (λ a b. a.node ≢ b.node) before one looked.once (λ k d inside same.
            looked.behind k d inside (0, omega arith, sym same));
        each = All-push (λ one. free_arrival parts remarked one.node ≡ Some one.arrival) before one each is;
        all = λ other there apart goes.
            subst (λ nodes. Contains nodes other) (sym (map-append (λ (one : Going). one.node) before (one ∷ []))) (
            elim (cases_eq other node) [
              | inl same ↦ Contains-append_right (map (λ (one : Going). one.node) before) (node ∷ []) other (0, omega arith, sym same)
              | inr differs ↦ Contains-append_left (map (λ (one : Going). one.node) before) (node ∷ []) other
                  (all_others other there differs apart goes)
            ]
            );
      }

  pub looked_at_this : HaveLookedBut parts remarked after ahead
  looked_at_this =
      subst (λ going. HaveLookedBut parts remarked going ahead) (sym at.going) (looked_to (free_arrival parts remarked node) refl)

pub looked_at_one : (parts : Parts) (old new : Kept) (node : ℕ) (before after : List Going) (ahead : List ℕ)
    → node < length (plan_in parts) → HaveLookedBut parts old before (node ∷ ahead) → IsSameButMark old new node
    → HasLookedAt parts new node before after → (Contains ahead node → ⊥) → HaveLookedBut parts new after ahead
looked_at_one parts old new node before after ahead here looked same at once =
    subst (λ kept. HaveLookedBut parts kept after ahead) (sym same.1)
    (looked_at_this parts old node same.0 before after ahead here looked
    (subst (λ kept. HasLookedAt parts kept node before after) same.1 at) once)

pub looked_at_all : (parts : Parts) (kept : Kept) (going : List Going) → HaveLookedBut parts kept going [] → HasLooked parts kept going
looked_at_all parts kept going looked = record {
  marked = λ node here. looked.marked node here (nowhere node);
  within = looked.within;
  once = looked.once;
  each = looked.each;
  all = λ node here goes. looked.all node here (nowhere node) goes;
}
  where
    nowhere : (node : ℕ) → Contains [] node → ⊥
    nowhere node there = omega (arith, there.1)

-- ---- the mark of a woken node is no matter to what is kept: it waits

right_with : (parts : Parts) (old : Kept) (node : ℕ) (wants : Bool) → IsRight parts old → IsWoken old.queue node
    → IsRight parts (with_mark old node wants)
right_with parts old node wants right woken = record {
  of_plan = record {
    conditions = right.of_plan.conditions;
    states = right.of_plan.states;
    tree = right.of_plan.tree;
    parents = right.of_plan.parents;
    groups = right.of_plan.groups;
    claims = record { writers = right.of_plan.claims.writers; variables = right.of_plan.claims.variables };
    wanting = length-set old.claims.wanting node wants ∙ right.of_plan.wanting;
    holding = right.of_plan.holding;
    cells = right.of_plan.cells;
    lists = right.of_plan.lists;
    few = right.of_plan.few;
  };
  agrees = record { busy = right.agrees.busy; holding = right.agrees.holding; told = right.agrees.told };
  caught_up = λ other here apart.
      let was = right.caught_up other here apart in
      record { state = was.state; asks = was.asks };
  still = λ other here absent.
      still_same parts parts old (with_mark old node wants) other (six_marked parts old (with_mark old node wants).claims other)
      (get_or-set_other old.claims.wanting node other wants false (λ same.
      not_both old.queue node 1 woken (ap (is_absent old.queue) (sym same) ∙ absent)))
      (right.still other here absent);
}

pub right_with_mark : (parts : Parts) (old new : Kept) (node : ℕ) → IsRight parts old → IsWoken old.queue node
    → IsSameButMark old new node → IsRight parts new
right_with_mark parts old new node right woken same =
    subst (IsRight parts) (sym same.1) (right_with parts old node same.0 right woken)

pub now_with_mark : (parts : Parts) (old new : Kept) (node : ℕ) → IsNow parts old → IsSameButMark old new node → IsNow parts new
now_with_mark parts old new node now same =
    subst (IsNow parts) (sym same.1) (record { seen = now.seen; fresh = now.fresh; nobody = now.nobody })

-- ---- no node is woken twice

pub others_once : (node : ℕ) (ahead : List ℕ) → AllPairs (λ a b. a ≢ b) (node ∷ ahead) → AllPairs (λ a b. a ≢ b) ahead
others_once node ahead apart i j d before inside = apart (suc i) (suc j) d (omega (arith, before)) (omega (arith, inside))

-- ---- who is not in the queue

-- who stays by its row stays
stays_put : (plan : List Site) (world : World) (site : Site) → destination plan world site ≡ None → transition plan world site ≡ None
stays_put plan world site none = by (is_loser plan world site) none
  where
    by : (loses : Bool) → destination plan world site ≡ None → (if loses then None else destination plan world site) ≡ None
    by true none = refl
    by false none = none

pub simulation : (parts : Parts) (kept : Kept) (going : List Going) → AreStanding parts → IsRight parts kept → IsNow parts kept
    → HasLooked parts kept going → IsSimulation parts kept
simulation parts kept going stand right now looked = record {
  outside = λ node here absent unmarked.
      let claims : claims_now parts kept node ≡ false = sym (looked.marked node here) ∙ unmarked in
      let free : free_arrival parts kept node ≡ arrival_of parts kept node =
      ap (λ claims. if claims then None else arrival_of parts kept node) claims in
      stays_put (plan_in parts) (world_in parts) (site_in (plan_in parts) node)
      (sym (arrival_now parts kept node stand right now here) ∙ sym free ∙ (right.still node here absent).stays);
  losers = λ node here loses.
      looked.marked node here ∙ claims_are parts kept node stand right now here
      ∙ writer_loses (plan_in parts) (world_in parts) node loses;
}
