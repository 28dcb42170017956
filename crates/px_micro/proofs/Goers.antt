-- The nodes that go, against the nodes of the plan in order.
use Rattle.std.proofs.Common.{◌≡◌, ◌≢◌, ℕ, suc, zero, ◌+◌, ◌<◌, ◌≤◌, false, List, [], ◌∷◌, length, get_or, map, refl, ap, sym, ◌∙◌, subst, arith, Option, Some, None, IsSome, nat_eq, All, AllPairs, Contains}
use Rattle.std.specs.List.{filter_map, cons_option, find}
use Rattle.std.specs.Option.{option_map}
use Rattle.std.specs.Cmp.{nat_eq_equiv}
use Rattle.std.proofs.lemmas.List.{get_or-map, length-map}
use Rattle.px_value.proofs.General.{none_found, none_from}
use Rattle.px_core.specs.Plan.{Site, no_site}
use Rattle.px_sem.specs.declared.guards.Arrival.{Arrival}
use Rattle.px_sem.specs.Conflicts.{transition}
use Rattle.px_sem.specs.World.{World}
use Rattle.px_flat.specs.Row.{site_in}
use Rattle.px_micro.specs.declared.sight.Going.{Going}
use Rattle.px_micro.specs.Going.{AreAllGoing}

-- These are all that go of the nodes from a number on.
record AreAllFrom (goes : ℕ → Option Arrival) (first count : ℕ) (going : List Going) : Type 0 where
  rise : AllPairs (λ a b. a.node < b.node) going
  from : All (λ one. first ≤ one.node) going
  to : All (λ one. one.node < first + count) going
  each : All (λ one. goes one.node ≡ Some one.arrival) going
  all : (node : ℕ) → first ≤ node → node < first + count → IsSome (goes node) → Contains (map (λ one. one.node) going) node

-- the first does not go
without_first : (goes : ℕ → Option Arrival) (first count : ℕ) (going : List Going) → goes first ≡ None
    → AreAllFrom goes first (suc count) going → AreAllFrom goes (first + 1) count going
without_first goes first count going stays are = record {
  rise = are.rise;
  from = λ k d within. by (get_or going k d) (are.from k d within) (are.each k d within);
  to = λ k d within. omega (arith, are.to k d within);
  each = are.each;
  all = λ node behind inside goes. are.all node (omega (arith, behind)) (omega (arith, inside)) goes;
}
  where
    by : (one : Going) → first ≤ one.node → goes one.node ≡ Some one.arrival → first + 1 ≤ one.node
    by one from each =
        let apart : first ≢ one.node = λ same. absurd (cc (sym stays ∙ ap goes same ∙ each)) in
        omega (arith, from, apart)

-- it is the first of those that go
head_goes : (goes : ℕ → Option Arrival) (first count : ℕ) (one : Going) (going : List Going) → IsSome (goes first)
    → AreAllFrom goes first (suc count) (one ∷ going) → one.node ≡ first
head_goes goes first count one going is are = by (are.all first (omega arith) (omega arith) is)
  where
    by : Contains (map (λ (one : Going). one.node) (one ∷ going)) first → one.node ≡ first
    by (zero, within, at) = at
    by (suc i, within, at) =
        let inside : i < length going = omega (arith, within, length-map going (λ (one : Going). one.node)) in
        let there : (get_or going i one).node ≡ first =
        sym (get_or-map (λ (one : Going). one.node) going i one first inside) ∙ at in
        absurd (omega (arith, are.from 0 one (omega arith), there, are.rise 0 (suc i) one (omega arith) (omega (arith, inside))))

-- without it
rest_goes : (goes : ℕ → Option Arrival) (first count : ℕ) (one : Going) (going : List Going) → one.node ≡ first
    → AreAllFrom goes first (suc count) (one ∷ going) → AreAllFrom goes (first + 1) count going
rest_goes goes first count one going is are = record {
  rise = λ i j d before within. are.rise (suc i) (suc j) d (omega (arith, before)) (omega (arith, within));
  from = λ k d within. omega (arith, is, are.rise 0 (suc k) d (omega arith) (omega (arith, within)));
  to = λ k d within. omega (arith, are.to (suc k) d (omega (arith, within)));
  each = λ k d within. are.each (suc k) d (omega (arith, within));
  all = λ node behind inside goes. by node behind (are.all node (omega (arith, behind)) (omega (arith, inside)) goes);
}
  where
    by : (node : ℕ) → first + 1 ≤ node → Contains (map (λ (one : Going). one.node) (one ∷ going)) node
        → Contains (map (λ (one : Going). one.node) going) node
    by node behind (zero, within, at) =
        let here : one.node ≡ node = at in
        absurd (omega (arith, here, is, behind))
    by node behind (suc i, within, at) = (i, omega (arith, within), at)

-- what is gathered of all nodes that go, from a number on
gathered : {B : Type 0} (plan : List Site) (now : World) (f : Site → Arrival → B) (rest : List Site) (first : ℕ) (going : List Going)
    → ((i : ℕ) → i < length rest → get_or rest i no_site ≡ site_in plan (first + i))
    → AreAllFrom (λ node. transition plan now (site_in plan node)) first (length rest) going
    → filter_map (λ site. option_map (f site) (transition plan now site)) rest
    ≡ map (λ one. f (site_in plan one.node) one.arrival) going
gathered plan now f [] first [] at are = refl
gathered plan now f [] first (one ∷ going) at are =
    absurd (omega (arith, are.from 0 one (omega arith), are.to 0 one (omega arith)))
gathered plan now f (site ∷ rest) first going at are =
    by (transition plan now site) refl going are (λ going are. gathered plan now f rest (first + 1) going next are)
  where
    zero_more : first + 0 ≡ first
    zero_more = omega arith

    here : site ≡ site_in plan first
    here = at 0 (omega arith) ∙ ap (site_in plan) zero_more

    next : (i : ℕ) → i < length rest → get_or rest i no_site ≡ site_in plan (first + 1 + i)
    next i within =
        let there : first + suc i ≡ first + 1 + i = omega arith in
        at (suc i) (omega (arith, within)) ∙ ap (site_in plan) there

    goes : ℕ → Option Arrival
    goes node = transition plan now (site_in plan node)

    by : (arrival : Option Arrival) → transition plan now site ≡ arrival → (going : List Going)
        → AreAllFrom goes first (suc (length rest)) going
        → ((going : List Going) → AreAllFrom goes (first + 1) (length rest) going
        → filter_map (λ site. option_map (f site) (transition plan now site)) rest
        ≡ map (λ one. f (site_in plan one.node) one.arrival) going)
        → cons_option (option_map (f site) arrival)
        (filter_map (λ site. option_map (f site) (transition plan now site)) rest)
        ≡ map (λ one. f (site_in plan one.node) one.arrival) going
    by None stays going are behind =
        behind going (without_first goes first (length rest) going (ap (transition plan now) (sym here) ∙ stays) are)
    by (Some arrival) is [] are behind =
        let (i, within, at) = are.all first (omega arith) (omega arith) (subst IsSome (sym is ∙ ap (transition plan now) here) refl) in
        absurd (omega (arith, within))
    by (Some arrival) is (one ∷ going) are behind =
        let node_is : one.node ≡ first =
        head_goes goes first (length rest) one going (subst IsSome (sym is ∙ ap (transition plan now) here) refl) are in
        let site_is : site ≡ site_in plan one.node = here ∙ ap (site_in plan) (sym node_is) in
        let to : Some arrival ≡ Some one.arrival =
        sym is ∙ ap (transition plan now) site_is ∙ are.each 0 one (omega arith) in
        let arrival_is : arrival ≡ one.arrival = cc to in
        λ i. f (site_is i) (arrival_is i) ∷ behind going (rest_goes goes first (length rest) one going node_is are) i

pub gone : {B : Type 0} (plan : List Site) (now : World) (f : Site → Arrival → B) (going : List Going)
    → AreAllGoing plan now going
    → filter_map (λ site. option_map (f site) (transition plan now site)) plan
    ≡ map (λ one. f (site_in plan one.node) one.arrival) going
gone plan now f going are =
    gathered plan now f plan 0 going
    (λ i within. let same : i ≡ 0 + i = omega arith in ap (site_in plan) same)
    (record {
      rise = are.rise;
      from = λ k d within. omega arith;
      to = λ k d within. omega (arith, are.within k d within);
      each = are.each;
      all = λ node behind inside goes. are.all node (omega (arith, inside)) goes;
    })

-- a node that is not among those that go stays
pub stays : (plan : List Site) (now : World) (going : List Going) (node : ℕ) → AreAllGoing plan now going → node < length plan
    → find (λ one. nat_eq one.node node) going ≡ None → transition plan now (site_in plan node) ≡ None
stays plan now going node are within none = none_from (transition plan now (site_in plan node)) (λ arrival is.
    found arrival (are.all node within (subst IsSome (sym is) refl)))
  where
    found : Arrival → Contains (map (λ (one : Going). one.node) going) node → ⊥
    found arrival (i, inside, at) =
        let one : Going = record { node = node; arrival = arrival } in
        let few : i < length going = omega (arith, inside, length-map going (λ (one : Going). one.node)) in
        let there : (get_or going i one).node ≡ node =
        sym (get_or-map (λ (one : Going). one.node) going i one node few) ∙ at in
        let missed : nat_eq (get_or going i one).node node ≡ false =
        none_found (λ (one : Going). nat_eq one.node node) going none i one few in
        absurd (cc (sym missed ∙ ap (λ n. nat_eq n node) there ∙ nat_eq_equiv.refl node))
