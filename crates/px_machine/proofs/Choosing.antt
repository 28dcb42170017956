-- Who goes: those that go without asking for a variable, and the winners of the others.
use Rattle.std.proofs.Common.{◌≡◌, ◌≢◌, ℕ, suc, ◌<◌, ◌≤◌, Bool, true, false, ◌&&◌, not, ◌++◌, [], ◌∷◌, List, length, map, get_or, Option, Some, None, All, AllPairs, Contains, IsSome, is_some, nat_eq, refl, ap, sym, ◌∙◌, subst, arith, if◌then◌else◌}
use Rattle.std.specs.Cmp.{nat_eq_equiv}
use Rattle.std.specs.List.{filter_map, cons_option, list_any}
use Rattle.std.specs.List.Sorted.{IsNonDecreasingBy, IsPermutation}
use Rattle.std.specs.Option.{option_map, unwrap_or}
use Rattle.std.proofs.lemmas.Bool.{and_from, and_parts, eqb-true, false_from_ne_true, false≢true, not-true}
use Rattle.std.proofs.lemmas.Bool.Decides.{Decides-eqb}
use Rattle.std.proofs.lemmas.List.{append_assoc, get_or-map, length-map, map-append}
use Rattle.std.proofs.lemmas.List.Elements.{All-append, All-contains_itself, All-map, Contains-append_left, Contains-append_right, filter_map-append}
use Rattle.std.proofs.lemmas.List.Sorted.{All-permutation, Contains-permutation, IsPermutation-map}
use Rattle.std.proofs.lemmas.Map.Keys.{IsDistinct-IsPermutation}
use Rattle.std.proofs.lemmas.Map.Made.{AllPairs-from_IsDistinct, IsDistinct-from_AllPairs}
use Rattle.std.proofs.lemmas.Map.Views.{Contains-from_any, list_any-from_Contains}
use Rattle.px_value.proofs.General.{same_bool, pairs_append}
use Rattle.px_value.specs.declared.enums.NodeState.TheVariants as states
use Rattle.px_core.specs.Plan.{Site, TargetData}
use Rattle.px_sem.specs.declared.guards.Arrival.{Arrival}
use Rattle.px_sem.specs.Conflicts.{destination, holds_variable, target_of, transition, would_start}
use Rattle.px_sem.specs.Conflicts as semantics
use Rattle.px_sem.specs.Guards.{is_active}
use Rattle.px_sem.specs.World.{World, state_at}
use Rattle.px_flat.specs.Row.{site_in}
use Rattle.px_assign.specs.Conflicts.{is_loser_in, is_writer, AreWriters}
use Rattle.px_assign.proofs.Ties.{first_of, written_is}
use Rattle.px_assign.specs.Claims.{AreAllStarting, AreWinners, holding_in, starts_in, wanting_in}
use Rattle.px_assign.proofs.Winning.{among_numbers, flag_is}
use Rattle.px_parts.specs.declared.parts.Parts.{Parts}
use Rattle.px_parts.specs.Parts.{AreStanding, plan_in, world_in}
use Rattle.px_micro.specs.declared.sight.Going.{Going}
use Rattle.px_micro.specs.Going.{AreAllGoing, is_start, with_node}
use Rattle.px_micro.proofs.Choosing.{loser_starts, start_goes, would_start_is}
use Rattle.px_micro.proofs.Lists.{pairs_map, pairs_unmap}
use Rattle.px_micro.proofs.Resting.{state_is}
use Rattle.px_machine.specs.declared.kept.Kept.{Kept}
use Rattle.px_machine.specs.Contest.{HasLooked, IsEachGoing}
use Rattle.px_machine.specs.Kept.{arrival_of, own_seen}
use Rattle.px_machine.specs.Queue.{IsGoer}
use Rattle.px_machine.specs.Right.{IsNow, IsRight}
use Rattle.px_machine.specs.Still.{claims_now, free_arrival}
use Rattle.px_machine.proofs.Arrivals.{arrival_now}
use Rattle.px_machine.proofs.Present.{state_seen}
use Rattle.px_machine.proofs.Resting.{state_now}
use Rattle.px_machine.proofs.Waiting.{nodes_of}

-- ---- starts

-- a start by what is kept is a start in the world
pub claims_are : (parts : Parts) (kept : Kept) (node : ℕ) → AreStanding parts → IsRight parts kept → IsNow parts kept → node < length (plan_in parts)
    → claims_now parts kept node ≡ (is_writer (plan_in parts) node && would_start (plan_in parts) (world_in parts) (site_in (plan_in parts) node))
claims_are parts kept node stand right now here =
    let plan : List Site = plan_in parts in
    let site : Site = site_in plan node in
    let state : (own_seen parts node).state ≡ state_at (world_in parts) site.path =
    state_seen parts node now.seen ∙ sym (state_is parts node here) in
    ap (λ starts. is_writer plan node && starts)
    ((λ i. is_start (state i) (arrival_now parts kept node stand right now here i))
    ∙ sym (would_start_is plan (world_in parts) site))

-- a loser would start, and writes a variable
pub writer_loses : (plan : List Site) (world : World) (node : ℕ) → is_loser_in plan world node ≡ true
    → (is_writer plan node && would_start plan world (site_in plan node)) ≡ true
writer_loses plan world node loses = by (target_of (site_in plan node).head.body) refl
  where
    by : (target : Option TargetData) → target_of (site_in plan node).head.body ≡ target
        → (is_writer plan node && would_start plan world (site_in plan node)) ≡ true
    by None is =
        let never : semantics.is_loser plan world (site_in plan node) ≡ false = rw is refl in
        absurd (false≢true (sym never ∙ loses))
    by (Some target) is =
        let writer : is_writer plan node ≡ true =
        ap is_some (written_is plan (site_in plan node).head.body ∙ ap (option_map (first_of plan)) is) in
        and_from (is_writer plan node) (would_start plan world (site_in plan node)) writer
        (loser_starts plan world (site_in plan node) loses)

-- the marks and the holders of variables are the world's
pub are_writers : (parts : Parts) (kept : Kept) (going : List Going) → AreStanding parts → IsRight parts kept → IsNow parts kept
    → HasLooked parts kept going → AreWriters (plan_in parts) (world_in parts) (wanting_in kept.claims) (holding_in kept.claims)
are_writers parts kept going stand right now looked = record {
  starts = λ node here among.
      (and_parts (is_writer (plan_in parts) node) (would_start (plan_in parts) (world_in parts) (site_in (plan_in parts) node))
      (sym (claims_are parts kept node stand right now here) ∙ sym (looked.marked node here)
      ∙ flag_is kept.claims.wanting node among)).1;
  wants = λ node here writer starts.
      among_numbers kept.claims.wanting (nat_eq node) node
      (looked.marked node here ∙ claims_are parts kept node stand right now here
      ∙ and_from (is_writer (plan_in parts) node) (would_start (plan_in parts) (world_in parts) (site_in (plan_in parts) node)) writer starts)
      (nat_eq_equiv.refl node);
  holds = λ node here writer.
      let active : get_or kept.claims.holding node false ≡ holds_variable (world_in parts) (site_in (plan_in parts) node) =
      right.agrees.holding node here ∙ ap is_active (state_now parts kept node right now here) in
      same_bool (list_any (nat_eq node) (holding_in kept.claims)) (holds_variable (world_in parts) (site_in (plan_in parts) node))
      (λ among. sym active ∙ flag_is kept.claims.holding node among)
      (λ holds. among_numbers kept.claims.holding (nat_eq node) node (active ∙ holds) (nat_eq_equiv.refl node));
}

-- ---- the winners, with where they go

-- where a node goes that goes somewhere
abbrev there : Option Arrival → Arrival
there to = unwrap_or to (record { to = states.Executing; outcome = None; failure = None })

abbrev with_there : (ℕ → Option Arrival) → ℕ → Going
with_there to node = record { node = node; arrival = there (to node) }

each_there : (to : ℕ → Option Arrival) (nodes : List ℕ) → All (λ node. IsSome (to node)) nodes
    → filter_map (λ node. with_node node (to node)) nodes ≡ map (with_there to) nodes
each_there to [] each = refl
each_there to (node ∷ nodes) each =
    by (to node) refl (each 0 node (omega arith)) (each_there to nodes (λ k d inside. each (suc k) d (omega (arith, inside))))
  where
    by : (at : Option Arrival) → to node ≡ at → IsSome (to node)
        → filter_map (λ node. with_node node (to node)) nodes ≡ map (with_there to) nodes
        → cons_option (with_node node (to node)) (filter_map (λ node. with_node node (to node)) nodes)
        ≡ with_there to node ∷ map (with_there to) nodes
    by None is some rest = absurd (false≢true (subst IsSome is some))
    by (Some arrival) is some rest =
        ap (λ at. cons_option (with_node node at) (filter_map (λ node. with_node node (to node)) nodes)) is
        ∙ (λ i. record { node = node; arrival = there (sym is i) } ∷ rest i)

there_is : (to : Option Arrival) → IsSome to → to ≡ Some (there to)
there_is (Some arrival) some = refl
there_is None some = absurd (false≢true some)

-- ---- who goes without asking

module _ (parts : Parts) (kept : Kept) (stand : AreStanding parts) (right : IsRight parts kept) (now : IsNow parts kept) where
  abbrev sites : List Site
  sites = plan_in parts

  abbrev present : World
  present = world_in parts

  abbrev leads : ℕ → Option Arrival
  leads node = arrival_of parts kept node

  -- where no conflict is lost a node goes by its row
  not_lost : (node : ℕ) → is_loser_in sites present node ≡ false → transition sites present (site_in sites node) ≡ destination sites present (site_in sites node)
  not_lost node stays = ap (λ loses. if loses then None else destination sites present (site_in sites node)) stays

  goes_by : (node : ℕ) (arrival : Arrival) → node < length sites → is_loser_in sites present node ≡ false → leads node ≡ Some arrival
      → transition sites present (site_in sites node) ≡ Some arrival
  goes_by node arrival here stays is = not_lost node stays ∙ sym (arrival_now parts kept node stand right now here) ∙ is

  -- who goes without asking claims nothing, and so loses nothing
  claims_nothing : (node : ℕ) (arrival : Arrival) → free_arrival parts kept node ≡ Some arrival → claims_now parts kept node ≡ false
  claims_nothing node arrival is = false_from_ne_true (claims_now parts kept node) (λ so.
      let none : free_arrival parts kept node ≡ None = ap (λ claims. if claims then None else leads node) so in
      absurd (cc (sym none ∙ is)))

  free_is : (node : ℕ) → claims_now parts kept node ≡ false → free_arrival parts kept node ≡ leads node
  free_is node so = ap (λ claims. if claims then None else leads node) so

  loses_nothing : (node : ℕ) → node < length sites → claims_now parts kept node ≡ false → is_loser_in sites present node ≡ false
  loses_nothing node here nothing = false_from_ne_true (is_loser_in sites present node) (λ loses.
      false≢true (sym nothing ∙ claims_are parts kept node stand right now here ∙ writer_loses sites present node loses))

  -- so it goes in the world
  pub free_goes : (node : ℕ) (arrival : Arrival) → node < length (plan_in parts) → free_arrival parts kept node ≡ Some arrival
      → transition (plan_in parts) (world_in parts) (site_in (plan_in parts) node) ≡ Some arrival
  free_goes node arrival here is =
      let nothing : claims_now parts kept node ≡ false = claims_nothing node arrival is in
      goes_by node arrival here (loses_nothing node here nothing) (sym (free_is node nothing) ∙ is)

-- ---- all that go

module _ (parts : Parts) (kept : Kept) (going : List Going) (winners : List ℕ) (stand : AreStanding parts)
    (right : IsRight parts kept) (now : IsNow parts kept) (looked : HasLooked parts kept going)
    (won : AreWinners (plan_in parts) kept.claims winners) (start : AreAllStarting (plan_in parts) kept.claims winners) where
  abbrev plan : List Site
  plan = plan_in parts

  abbrev world : World
  world = world_in parts

  abbrev to : ℕ → Option Arrival
  to node = arrival_of parts kept node

  starting : (node : ℕ) → node < length plan → list_any (nat_eq node) winners ≡ starts_in plan world node
  starting node here = start world (are_writers parts kept going stand right now looked) node here

  -- a winner would start, writes a variable and is no loser
  record Wins (node : ℕ) : Type 0 where
    within : node < length plan
    starts : would_start plan world (site_in plan node) ≡ true
    writes : is_writer plan node ≡ true
    stays : is_loser_in plan world node ≡ false

  wins : (k : ℕ) (d : ℕ) → k < length winners → Wins (get_or winners k d)
  wins k d inside =
      let node : ℕ = get_or winners k d in
      let here : node < length plan = won.within k d inside in
      let among : list_any (nat_eq node) winners ≡ true =
      list_any-from_Contains nat_eq_equiv node winners (All-contains_itself winners k d inside) in
      let both = and_parts (would_start plan world (site_in plan node)) (is_writer plan node && not (is_loser_in plan world node))
      (sym (starting node here) ∙ among) in
      let rest = and_parts (is_writer plan node) (not (is_loser_in plan world node)) both.1 in
      record { within = here; starts = both.0; writes = rest.0; stays = not-true (is_loser_in plan world node) rest.1 }

  -- its claim stands
  claims : (node : ℕ) → Wins node → claims_now parts kept node ≡ true
  claims node one =
      claims_are parts kept node stand right now one.within
      ∙ and_from (is_writer plan node) (would_start plan world (site_in plan node)) one.writes one.starts

  goes_somewhere : (node : ℕ) → Wins node → IsSome (to node)
  goes_somewhere node one =
      subst IsSome (sym (arrival_now parts kept node stand right now one.within)) (start_goes plan world (site_in plan node) one.starts)

  abbrev chosen : List Going
  chosen = map (with_there to) winners

  chosen_are : filter_map (λ node. with_node node (to node)) winners ≡ chosen
  chosen_are = each_there to winners (λ k d inside. goes_somewhere (get_or winners k d) (wins k d inside))

  chosen_at : (k : ℕ) (d : Going) → k < length winners → get_or chosen k d ≡ with_there to (get_or winners k d.node)
  chosen_at k d inside = get_or-map (with_there to) winners k d.node d inside

  within : All (λ (one : Going). one.node < length plan) chosen
  within = All-map (λ (one : Going). one.node < length plan) (with_there to) winners won.within

  once : AllPairs (λ (a b : Going). a.node ≢ b.node) chosen
  once = pairs_map (λ (a b : Going). a.node ≢ b.node) (with_there to) winners won.once

  each : All (λ (one : Going). transition plan world (site_in plan one.node) ≡ Some one.arrival) chosen
  each = All-map (λ (one : Going). transition plan world (site_in plan one.node) ≡ Some one.arrival) (with_there to) winners
      (λ k d inside.
      let node : ℕ = get_or winners k d in
      let one = wins k d inside in
      goes_by parts kept stand right now node (there (to node)) one.within one.stays (there_is (to node) (goes_somewhere node one)))

  each_free : All (λ (one : Going). transition plan world (site_in plan one.node) ≡ Some one.arrival) going
  each_free k d inside =
      let one : Going = get_or going k d in
      let here : one.node < length plan = looked.within k d inside in
      free_goes parts kept stand right now one.node one.arrival here (looked.each k d inside)

  -- one that goes without asking is no winner
  apart : (i j : ℕ) (d : Going) → i < length going → j < length chosen → (get_or going i d).node ≢ (get_or chosen j d).node
  apart i j d here there same =
      let few : j < length winners = omega (arith, there, length-map winners (with_there to)) in
      let one : Going = get_or going i d in
      let node : one.node ≡ get_or winners j d.node = same ∙ ap (λ (one : Going). one.node) (chosen_at j d few) in
      false≢true (sym (claims_nothing parts kept stand right now one.node one.arrival (looked.each i d here))
      ∙ ap (claims_now parts kept) node ∙ claims (get_or winners j d.node) (wins j d.node few))

  -- who goes goes without asking, or wins
  found : (node : ℕ) → node < length plan → IsSome (transition plan world (site_in plan node)) → IsGoer (going ++ chosen) node
  found node here goes =
      subst (λ nodes. Contains nodes node) (sym (map-append (λ (one : Going). one.node) going chosen))
      (by (is_loser_in plan world node) refl (claims_now parts kept node) refl)
    where
      front : List ℕ
      front = map (λ (one : Going). one.node) going

      back : List ℕ
      back = map (λ (one : Going). one.node) chosen

      by : (loses : Bool) → is_loser_in plan world node ≡ loses → (claims : Bool) → claims_now parts kept node ≡ claims
          → Contains (front ++ back) node
      by true is claims so =
          let none : transition plan world (site_in plan node) ≡ None =
          ap (λ loses. if loses then None else destination plan world (site_in plan node)) is in
          absurd (false≢true (subst IsSome none goes))
      by false is false so =
          Contains-append_left front back node
          (looked.all node here (subst IsSome (not_lost parts kept stand right now node is ∙ sym (arrival_now parts kept node stand right now here) ∙ sym (free_is parts kept stand right now node so)) goes))
      by false is true so =
          let both = and_parts (is_writer plan node) (would_start plan world (site_in plan node))
          (sym (claims_are parts kept node stand right now here) ∙ so) in
          let among : list_any (nat_eq node) winners ≡ true =
          starting node here
          ∙ and_from (would_start plan world (site_in plan node)) (is_writer plan node && not (is_loser_in plan world node)) both.1
          (and_from (is_writer plan node) (not (is_loser_in plan world node)) both.0 (ap not is)) in
          Contains-append_right front back node (in_chosen (Contains-from_any eqb-true node winners among))
        where
          in_chosen : Contains winners node → Contains back node
          in_chosen (k, few, at) =
              let d : Going = with_there to node in (
                k,
                omega (arith, few, length-map winners (with_there to), length-map chosen (λ (one : Going). one.node)),
                get_or-map (λ (one : Going). one.node) chosen k d node (omega (arith, few, length-map winners (with_there to)))
                    ∙ ap (λ (one : Going). one.node) (chosen_at k d few) ∙ at,
              )

  pub each_goes : IsEachGoing plan world (going ++ filter_map (λ node. with_node node (to node)) winners)
  each_goes = subst (λ more. IsEachGoing plan world (going ++ more)) (sym chosen_are) (record {
    within = All-append (λ (one : Going). one.node < length plan) going chosen looked.within within;
    once = pairs_append (λ (a b : Going). a.node ≢ b.node) going chosen looked.once once apart;
    each = All-append (λ (one : Going). transition plan world (site_in plan one.node) ≡ Some one.arrival) going chosen each_free each;
    all = found;
  })

-- with where one more goes
pub winners_more : (to : ℕ → Option Arrival) (front : List Going) (nodes : List ℕ) (node : ℕ)
    → (front ++ filter_map (λ node. with_node node (to node)) nodes) ++ cons_option (with_node node (to node)) []
    ≡ front ++ filter_map (λ node. with_node node (to node)) (nodes ++ node ∷ [])
winners_more to front nodes node =
    append_assoc front (filter_map (λ node. with_node node (to node)) nodes) (cons_option (with_node node (to node)) [])
    ∙ ap (λ back. front ++ back) (sym (filter_map-append (λ node. with_node node (to node)) nodes (node ∷ [])))

-- ---- sorted, they rise

pub in_order : (plan : List Site) (world : World) (before after : List Going) → IsEachGoing plan world before
    → IsPermutation before after → IsNonDecreasingBy (λ (one : Going). one.node) after → AreAllGoing plan world after
in_order plan world before after each moved sorted = record {
  rise = λ i j d less inside. rises i j d less inside;
  within = All-permutation (λ (one : Going). one.node < length plan) before after moved each.within;
  each = All-permutation (λ (one : Going). transition plan world (site_in plan one.node) ≡ Some one.arrival) before after moved each.each;
  all = λ node here goes. Contains-permutation (nodes_of before) (nodes_of after) node moves (each.all node here goes);
}
  where
    moves : IsPermutation (nodes_of before) (nodes_of after)
    moves = IsPermutation-map (λ (one : Going). one.node) before after moved

    apart_before : AllPairs (λ a b. a ≢ b) (nodes_of before)
    apart_before = pairs_map (λ (a b : ℕ). a ≢ b) (λ (one : Going). one.node) before each.once

    apart_after : AllPairs (λ a b. a ≢ b) (nodes_of after)
    apart_after = AllPairs-from_IsDistinct Decides-eqb (nodes_of after)
        (IsDistinct-IsPermutation nat_eq nat_eq_equiv.symm (nodes_of before) (nodes_of after) moves
        (IsDistinct-from_AllPairs Decides-eqb (nodes_of before) apart_before))

    rises : (i j : ℕ) (d : Going) → i < j → j < length after → (get_or after i d).node < (get_or after j d).node
    rises i j d less inside =
        let differ : (get_or after i d).node ≢ (get_or after j d).node =
        pairs_unmap (λ (a b : ℕ). a ≢ b) (λ (one : Going). one.node) after apart_after i j d less inside in
        let no_more : (get_or after i d).node ≤ (get_or after j d).node = sorted i j d (omega (arith, less)) inside in
        omega (arith, differ, no_more)
