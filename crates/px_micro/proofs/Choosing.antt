-- Which candidates go.
use Rattle.std.proofs.Common.{◌≡◌, ℕ, ◌<◌, Bool, true, false, not, ◌&&◌, cond, List, [], ◌∷◌, ◌++◌, ◌+◌, length, map, filter, get_or, take, refl, ap, sym, ◌∙◌, subst, arith, Option, Some, None, is_some, IsSome, Contains, All, AllPairs, nat_eq}
use Rattle.std.specs.Cmp.{nat_eq_equiv}
use Rattle.std.specs.List.{list_any, cons_option, range_with_len}
use Rattle.std.proofs.lemmas.Bool.{and_from, and_parts, eqb-true}
use Rattle.std.proofs.lemmas.List.{take_more}
use Rattle.std.proofs.lemmas.List.Elements.{All-head, All-tail, All-filter, filter_map-append}
use Rattle.std.proofs.lemmas.List.Kept.{AllPairs-filter}
use Rattle.std.proofs.lemmas.Map.Views.{any-filter_same, list_any-from_Contains, Contains-from_any}
use Rattle.std.proofs.Math.Bool.{and-false, and-true}
use Rattle.std.proofs.lemmas.Grind.{common_steps}
use Rattle.px_value.proofs.General.{All-unmap, IfSome-map, all_given}
use Rattle.px_core.specs.Plan.{Site}
use Rattle.px_sem.specs.declared.guards.Arrival.{Arrival}
use Rattle.px_sem.specs.Conflicts.{destination, transition, would_start, holds_variable, is_loser}
use Rattle.px_sem.specs.Guards.{is_waiting, is_active}
use Rattle.px_sem.specs.World.{World, state_at}
use Rattle.px_flat.specs.Row.{site_in}
use Rattle.px_assign.specs.Conflicts.{AreWriters, is_loser_in}
use Rattle.px_micro.specs.declared.sight.Going.{Going}
use Rattle.px_micro.specs.Candidates.{AreCandidates}
use Rattle.px_micro.specs.Going.{with_node, is_start, wanted, wanting, holding, going, AreAllGoing}
use Rattle.px_micro.proofs.Lists.{in_range, pairs_unmap, range_below}

-- ---- those that would start

-- whether a node would start, by where it goes
pub would_start_is : (plan : List Site) (now : World) (site : Site)
    → would_start plan now site ≡ is_start (state_at now site.path) (destination plan now site)
would_start_is plan now site = by (destination plan now site) refl
  where
    by : (to : Option Arrival) → destination plan now site ≡ to → would_start plan now site ≡ is_start (state_at now site.path) to
    by None is = rw is (and-false (is_waiting (state_at now site.path)))
    by (Some to) is = rw is refl

abbrev starting : List Site → World → ℕ → Bool
starting plan now node = would_start plan now (site_in plan node)

pub wanting_are : (plan : List Site) (now : World) (nodes : List ℕ)
    → wanting plan now (wanted plan now nodes) ≡ filter (starting plan now) nodes
wanting_are plan now [] = refl
wanting_are plan now (node ∷ nodes) =
    step (destination plan now site) (wanting_are plan now nodes)
    ∙ ap (λ b. cond b (node ∷ filter (starting plan now) nodes) (filter (starting plan now) nodes))
    (sym (would_start_is plan now site))
  where
    site : Site
    site = site_in plan node

    step : (to : Option Arrival) → wanting plan now (wanted plan now nodes) ≡ filter (starting plan now) nodes
        → wanting plan now (cons_option (with_node node to) (wanted plan now nodes))
        ≡ cond (is_start (state_at now site.path) to) (node ∷ filter (starting plan now) nodes) (filter (starting plan now) nodes)
    step None rest = rest
    step (Some to) rest = test (is_start (state_at now site.path) (Some to))
      where
        one : Going
        one = record { node = node; arrival = to }

        test : (b : Bool)
            → map (λ (one : Going). one.node)
            (cond b (one ∷ filter (λ one. is_start (state_at now (site_in plan one.node).path) (Some one.arrival)) (wanted plan now nodes))
            (filter (λ one. is_start (state_at now (site_in plan one.node).path) (Some one.arrival)) (wanted plan now nodes)))
            ≡ cond b (node ∷ filter (starting plan now) nodes) (filter (starting plan now) nodes)
        test true = ap (λ rest. node ∷ rest) rest
        test false = rest

-- ---- who writes

-- a node is among those that pass where it passes and is among all
among_passing : (p : ℕ → Bool) (nodes : List ℕ) (node : ℕ)
    → list_any (nat_eq node) (filter p nodes) ≡ (p node && list_any (nat_eq node) nodes)
among_passing p nodes node =
    any-filter_same (nat_eq node) p (p node) (λ other same. ap p (sym (eqb-true node other same))) nodes

-- a node that has a destination is among the candidates that pass where it passes
passes_among : (plan : List Site) (now : World) (nodes : List ℕ) (node : ℕ) (p : ℕ → Bool) → AreCandidates plan now nodes
    → node < length plan → IsSome (destination plan now (site_in plan node)) → p node ≡ true
    → list_any (nat_eq node) (filter p nodes) ≡ true
passes_among plan now nodes node p are here goes passes =
    among_passing p nodes node
    ∙ and_from (p node) (list_any (nat_eq node) nodes) passes
    (list_any-from_Contains nat_eq_equiv node nodes (are.all node here goes))

pub start_goes : (plan : List Site) (now : World) (site : Site) → would_start plan now site ≡ true
    → IsSome (destination plan now site)
start_goes plan now site starts = by (destination plan now site) (sym (would_start_is plan now site) ∙ starts)
  where
    by : (to : Option Arrival) → is_start (state_at now site.path) to ≡ true → IsSome to
    by None never = absurd (cc never)
    by (Some to) starts = refl

-- the candidates that would start are all nodes that would
starts_among : (plan : List Site) (now : World) (nodes : List ℕ) (node : ℕ) → AreCandidates plan now nodes
    → node < length plan → starting plan now node ≡ true
    → list_any (nat_eq node) (filter (starting plan now) nodes) ≡ true
starts_among plan now nodes node are here starts =
    passes_among plan now nodes node (starting plan now) are here (start_goes plan now (site_in plan node) starts) starts

holds_among : (plan : List Site) (now : World) (node : ℕ) → node < length plan
    → list_any (nat_eq node) (holding plan now) ≡ holds_variable now (site_in plan node)
holds_among plan now node here =
    among_passing held (range_with_len 0 (length plan)) node
    ∙ ap (λ b. held node && b) (in_range (length plan) node here) ∙ and-true (held node)
  where
    held : ℕ → Bool
    held node = is_active (state_at now (site_in plan node).path)

pub writers_are : (plan : List Site) (now : World) (nodes : List ℕ) → AreCandidates plan now nodes
    → AreWriters plan now (wanting plan now (wanted plan now nodes)) (holding plan now)
writers_are plan now nodes are =
    subst (λ wanting. AreWriters plan now wanting (holding plan now)) (sym (wanting_are plan now nodes)) (record {
      starts = λ node here found.
          (and_parts (starting plan now node) (list_any (nat_eq node) nodes) (sym (among_passing (starting plan now) nodes node) ∙ found)).0;
      wants = λ node here writer starts. starts_among plan now nodes node are here starts;
      holds = λ node here writer. holds_among plan now node here;
    })

pub wanting_within : (plan : List Site) (now : World) (nodes : List ℕ) → AreCandidates plan now nodes
    → All (λ node. node < length plan) (wanting plan now (wanted plan now nodes))
wanting_within plan now nodes are =
    subst (All (λ node. node < length plan)) (sym (wanting_are plan now nodes))
    (All-filter (starting plan now) (λ node. node < length plan) nodes are.within)

pub holding_within : (plan : List Site) (now : World) → All (λ node. node < length plan) (holding plan now)
holding_within plan now =
    All-filter (λ node. is_active (state_at now (site_in plan node).path)) (λ node. node < length plan)
    (range_with_len 0 (length plan)) (range_below (length plan))

-- ---- the losers

-- those that lose, of the candidates
abbrev pub losing : List Site → World → List ℕ → List ℕ
losing plan now nodes = filter (is_loser_in plan now) (filter (starting plan now) nodes)

pub losers_are : (plan : List Site) (now : World) (nodes wants losers : List ℕ)
    → wants ≡ wanting plan now (wanted plan now nodes) → losers ≡ filter (is_loser_in plan now) wants
    → losers ≡ losing plan now nodes
losers_are plan now nodes wants losers from are =
    are ∙ ap (filter (is_loser_in plan now)) (from ∙ wanting_are plan now nodes)

pub losers_rise : (plan : List Site) (now : World) (nodes : List ℕ) → AreCandidates plan now nodes
    → AllPairs (λ a b. a < b) (losing plan now nodes)
losers_rise plan now nodes are =
    AllPairs-filter (λ a b. a < b) (is_loser_in plan now) (filter (starting plan now) nodes)
    (AllPairs-filter (λ a b. a < b) (starting plan now) nodes are.rise)

-- a loser would start
pub loser_starts : (plan : List Site) (now : World) (site : Site) → is_loser plan now site ≡ true
    → would_start plan now site ≡ true
loser_starts plan now site = grind (arith, common_steps, and_parts)

lost : (plan : List Site) (now : World) (nodes : List ℕ) (node : ℕ) → AreCandidates plan now nodes → node < length plan
    → list_any (nat_eq node) (losing plan now nodes) ≡ is_loser_in plan now node
lost plan now nodes node are here =
    among_passing (is_loser_in plan now) (filter (starting plan now) nodes) node
    ∙ by (is_loser_in plan now node) refl
  where
    by : (loses : Bool) → is_loser_in plan now node ≡ loses
        → (loses && list_any (nat_eq node) (filter (starting plan now) nodes)) ≡ loses
    by true is = starts_among plan now nodes node are here (loser_starts plan now (site_in plan node) is)
    by false is = refl

-- ---- those that go

going_are : (plan : List Site) (now : World) (losers nodes : List ℕ)
    → All (λ node. list_any (nat_eq node) losers ≡ is_loser_in plan now node) nodes
    → filter (λ (one : Going). not (list_any (nat_eq one.node) losers)) (wanted plan now nodes) ≡ going plan now nodes
going_are plan now losers [] each = refl
going_are plan now losers (node ∷ nodes) each =
    step (destination plan now (site_in plan node)) (is_loser_in plan now node)
    (All-head (λ node. list_any (nat_eq node) losers ≡ is_loser_in plan now node) node nodes each)
    (going_are plan now losers nodes
    (All-tail (λ node. list_any (nat_eq node) losers ≡ is_loser_in plan now node) node nodes each))
  where
    kept : List Going → List Going
    kept some = filter (λ (one : Going). not (list_any (nat_eq one.node) losers)) some

    step : (to : Option Arrival) (loses : Bool) → list_any (nat_eq node) losers ≡ loses
        → kept (wanted plan now nodes) ≡ going plan now nodes
        → kept (cons_option (with_node node to) (wanted plan now nodes))
        ≡ cons_option (with_node node (cond loses None to)) (going plan now nodes)
    step None true is rest = rest
    step None false is rest = rest
    step (Some to) true is rest = rw is rest
    step (Some to) false is rest =
        let one : Going = record { node = node; arrival = to } in
        rw is (ap (λ rest. one ∷ rest) rest)

numbers_are : (plan : List Site) (now : World) (nodes : List ℕ)
    → map (λ (one : Going). one.node) (going plan now nodes)
    ≡ filter (λ node. is_some (transition plan now (site_in plan node))) nodes
numbers_are plan now [] = refl
numbers_are plan now (node ∷ nodes) = step (transition plan now (site_in plan node)) (numbers_are plan now nodes)
  where
    goes : ℕ → Bool
    goes node = is_some (transition plan now (site_in plan node))

    step : (to : Option Arrival) → map (λ (one : Going). one.node) (going plan now nodes) ≡ filter goes nodes
        → map (λ (one : Going). one.node) (cons_option (with_node node to) (going plan now nodes))
        ≡ cond (is_some to) (node ∷ filter goes nodes) (filter goes nodes)
    step None rest = rest
    step (Some to) rest = ap (λ rest. node ∷ rest) rest

each_goes : (plan : List Site) (now : World) (nodes : List ℕ)
    → All (λ (one : Going). transition plan now (site_in plan one.node) ≡ Some one.arrival) (going plan now nodes)
each_goes plan now nodes =
    all_given Goes (λ node. with_node node (transition plan now (site_in plan node))) nodes
    (λ k d within.
    let node : ℕ = get_or nodes k d in
    IfSome-map Goes (λ (to : Arrival). record { node = node; arrival = to }) (transition plan now (site_in plan node)) (λ to is. is))
  where
    Goes : Going → Type 0
    Goes one = transition plan now (site_in plan one.node) ≡ Some one.arrival

-- where a node goes it has a destination
goes_somewhere : (loses : Bool) (to : Option Arrival) → IsSome (cond loses None to) → IsSome to
goes_somewhere true to some = absurd (cc some)
goes_somewhere false to some = some

all_going : (plan : List Site) (now : World) (nodes : List ℕ) → AreCandidates plan now nodes
    → AreAllGoing plan now (going plan now nodes)
all_going plan now nodes are = record {
  rise = pairs_unmap (λ (a b : ℕ). a < b) (λ (one : Going). one.node) (going plan now nodes)
      (subst (AllPairs (λ a b. a < b)) (sym (numbers_are plan now nodes)) (AllPairs-filter (λ a b. a < b) goes nodes are.rise));
  within = All-unmap (λ (node : ℕ). node < length plan) (λ (one : Going). one.node) (going plan now nodes)
      (subst (All (λ node. node < length plan)) (sym (numbers_are plan now nodes))
      (All-filter goes (λ node. node < length plan) nodes are.within));
  each = each_goes plan now nodes;
  all = λ node here some.
      subst (λ numbers. Contains numbers node) (sym (numbers_are plan now nodes))
      (Contains-from_any (λ x y same. eqb-true x y same) node (filter goes nodes)
      (passes_among plan now nodes node goes are here
      (goes_somewhere (is_loser_in plan now node) (destination plan now (site_in plan node)) some) some));
}
  where
    goes : ℕ → Bool
    goes node = is_some (transition plan now (site_in plan node))

-- the candidates that have a destination and are no losers are all that go
pub staying_go : (plan : List Site) (now : World) (nodes losers : List ℕ) → AreCandidates plan now nodes
    → losers ≡ losing plan now nodes
    → AreAllGoing plan now (filter (λ (one : Going). not (list_any (nat_eq one.node) losers)) (wanted plan now nodes))
staying_go plan now nodes losers are is =
    subst (AreAllGoing plan now) (sym (going_are plan now losers nodes (λ k d within.
    ap (list_any (nat_eq (get_or nodes k d))) is
    ∙ lost plan now nodes (get_or nodes k d) are (are.within k d within))))
    (all_going plan now nodes are)

-- one more candidate
pub wanted_more : (plan : List Site) (now : World) (nodes : List ℕ) (i : ℕ) (to : Option Arrival) → i < length nodes
    → to ≡ destination plan now (site_in plan (get_or nodes i 0))
    → wanted plan now (take i nodes) ++ cons_option (with_node (get_or nodes i 0) to) []
    ≡ wanted plan now (take (i + 1) nodes)
wanted_more plan now nodes i to within is = grind (arith, common_steps, filter_map-append, take_more)

pub wanted_within : (plan : List Site) (now : World) (nodes : List ℕ) → All (λ node. node < length plan) nodes
    → All (λ (one : Going). one.node < length plan) (wanted plan now nodes)
wanted_within plan now nodes all =
    all_given (λ (one : Going). one.node < length plan) (λ node. with_node node (destination plan now (site_in plan node))) nodes
    (λ k d within.
    let node : ℕ = get_or nodes k d in
    IfSome-map (λ (one : Going). one.node < length plan) (λ (to : Arrival). record { node = node; arrival = to })
    (destination plan now (site_in plan node)) (λ to is. all k d within))
