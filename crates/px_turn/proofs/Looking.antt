-- A seat looks whether its ticket is served.
use Rattle.std.proofs.Common.{rules, ◌≡◌, ◌≢◌, ℕ, ◌+◌, ◌%◌, ◌^◌, ◌<◌, ◌≤◌, true, false, is_some, List, length, set, get_or, Option, Some, refl, sym, ap, ◌∙◌, subst, ⊎_elim, arith, length-set}
use mathlib.Core.Logic.{dite}
use mathlib.Core.Option.{some, none}
use native.Mathlib.Decide.{ℕ_discrete}
use lib.ListN.{get_elem?}
use Rattle.std.proofs.lemmas.Bool.{cases_lt, false_from_ne_true}
use Rattle.atomic_table.specs.Table.{State, step, stepped, keeps, takes, Allows}
use Rattle.px_value.specs.General.{is_number}
use Rattle.px_turn.specs.declared.view.View.{View}
use Rattle.px_turn.specs.Histories.{AreMade, HasPositions}
use Rattle.px_turn.specs.Views.{with_turn}
use Rattle.px_turn.specs.Rule.{one_if, waiting, holders, Fits, HaveNoTurn, IsHome, IsRuled, words_of}
use Rattle.px_turn.specs.Steps.{Sat, looked, compared}
use Rattle.px_turn.proofs.Totals.{one_if-le, one_of, two_of, total-le-length}
use Rattle.px_turn.proofs.Fronts.{front_self, front_of_front}
use Rattle.px_turn.proofs.Seating.{one_if_same, one_only, each_set, own_first, waiting_same, tickets_same, numbered_same, longest_set, one_has_turn, unmoved, same_opening, holds_own}

-- where a ticket is that somebody holds
pub high_bound : (ticket next held : ℕ) → 1 ≤ held → (next ≤ ticket → held ≡ 0) → ticket < next
high_bound ticket next held some_held above =
    ⊎_elim (λ high. high) (λ is_above. let none_held = above is_above in absurd (omega arith)) (cases_lt ticket next)

-- no two seats hold one ticket
pub at_most_one : (ticket served next held : ℕ) → (ticket < served → held ≡ 0)
    → (served ≤ ticket → ticket < next → held ≡ 1)
    → (next ≤ ticket → held ≡ 0) → held ≤ 1
at_most_one ticket served next held below between above = search (rules, cases_lt)

module _ {T I : Type 0} (list : T → List I) (goes_on : T → T → Type 0) (key : T) where
  -- a ticket that is held is not far ahead, so its last 64 bits tell whether it is served
  is_served : (s : State (Option T) (View T I)) (ruled : IsRuled list goes_on key s) (id : ℕ) (v : View T I)
      (ticket : ℕ)
      → get_elem? s.views id ≡ some v → v.ticket ≡ Some ticket → ticket % 2 ^ 64 ≡ get_or s.words 1 0
      → ticket ≡ ruled.served
  is_served s ruled id v ticket at holds same =
      let found : get_or s.words 1 0 ≡ ruled.served % 2 ^ 64 = ap (λ ws. get_or ws 1 0) ruled.words in
      let own = holds_own v ticket holds in
      let held = one_of (λ (u : View T I). one_if (is_number u.ticket ticket)) s.views id v at in
      let few = ruled.numbered.few in
      let wait : waiting s.views ≤ length s.views =
      total-le-length (λ (u : View T I). one_if (is_some u.ticket)) (λ u. one_if-le (is_some u.ticket)) s.views in
      let low : ruled.served < ticket + 1 =
      high_bound ruled.served (ticket + 1) (holders ticket s.views) (omega arith)
      (λ above. ruled.tickets.below ticket (omega (arith, above))) in
      let high : ticket < ruled.served + waiting s.views =
      high_bound ticket (ruled.served + waiting s.views) (holders ticket s.views) (omega arith)
      (ruled.tickets.above ticket) in
      omega arith

  -- no other seat has the turn
  nobody_has : (s : State (Option T) (View T I)) (ruled : IsRuled list goes_on key s) (id : ℕ) (v : View T I)
      (ticket : ℕ)
      → get_elem? s.views id ≡ some v → v.ticket ≡ Some ticket → v.turn ≡ false → ticket ≡ ruled.served
      → HaveNoTurn s.views
  nobody_has s ruled id v ticket at holds off is j u there = search (rules, false_from_ne_true, one_only, holds_own, one_if_same, two_of, at_most_one)

  -- the turn is had
  turn_ruled : (s : State (Option T) (View T I)) (ruled : IsRuled list goes_on key s) (id : ℕ) (me : Sat T I)
      (ticket : ℕ)
      → get_elem? s.views id ≡ some me.0 → me.0.live ≡ true → me.0.ticket ≡ Some ticket → ticket ≡ ruled.served
      → (home : IsHome list goes_on key ruled.history s)
      → IsRuled list goes_on key
      (stepped s 1 (get_or s.words 1 0) id me.1 (with_turn ruled.history me.0) (takes 0 (Some home.value)))
  turn_ruled s ruled id me ticket at live holds is home =
      let w : View T I = with_turn ruled.history me.0 in
      let fits = ruled.each id me.0 at in
      let wait : waiting (set s.views id w) ≡ waiting s.views = waiting_same s.views id me.0 w at refl in
      record {
        history = ruled.history;
        later = ruled.later;
        served = ruled.served;
        words = ap (λ ws. set ws 1 (get_or ws 1 0)) ruled.words
            ∙ ap (λ n. words_of ruled.served n (length ruled.history)) (sym wait);
        few = ruled.few;
        tickets = tickets_same ruled.served s.views id me.0 w at refl ruled.tickets;
        numbered = numbered_same s.views id me.0 w at refl refl refl refl ruled.numbered;
        each = each_set (Fits key ruled.history ruled.served) s.views id w
            (search (rules, front_self))
            (λ j u apart there. ruled.each j u there);
        longest = longest_set ruled.history s.views id me.0 w at (λ seen. refl) ruled.longest;
        at_home = λ none_has. absurd (one_has_turn s.views id me.0 w at refl none_has);
        begins = ruled.begins;
        makers = subst (λ n. AreMade n ruled.later) (sym (length-set s.views id w)) ruled.makers;
      }

  pub looks : (slots id : ℕ) (me : Sat T I) (ticket : ℕ) → me.0.live ≡ true → me.0.ticket ≡ Some ticket
      → me.0.turn ≡ false
      → Allows (IsRuled list goes_on key) slots id me 1 (λ n. n) (looked list goes_on (step slots 1 0 0 none) me)
  looks slots id me ticket live holds off s ruled long at small = dite
      (ℕ_discrete (ticket % 2 ^ 64) (get_or s.words 1 0))
      (λ same.
      let is = is_served s ruled id me.0 ticket at holds same in
      let home = ruled.at_home (nobody_has s ruled id me.0 ticket at holds off is) in
      let fits = ruled.each id me.0 at in (
        with_turn ruled.history me.0,
        takes 0 (Some home.value),
        home.home,
        turn_ruled s ruled id me ticket at live holds is home,
        λ other is_other. (
          λ found. (
            ruled.history,
            home.value,
            refl,
            record {
              stands = home.stands;
              goes_on_with = λ opening is. same_opening me.0 key opening (λ o. goes_on o home.value)
                  (fits.opening live) is home.goes_on_with;
              begins = fits.seen;
              known = fits.known;
              made = own_first (HasPositions ruled.history) me.0 live fits.made;
            },
          ),
          λ apart. let one : other ≡ ticket = cc in absurd (apart (ap (λ n. n % 2 ^ 64) one ∙ same)),
        ),
      ))
      (λ apart. (
        me.0,
        keeps,
        tt,
        unmoved list goes_on key s 1 id me.1 me.0 at ruled,
        λ other is_other. let one : other ≡ ticket = cc in
            (λ found. absurd (apart (ap (λ n. n % 2 ^ 64) (sym one) ∙ found)), λ other_found. refl),
      ))

  -- of two fronts of the history the shorter is one of the longer
  pub compares : (slots id : ℕ) (me : Sat T I)
      → Allows (IsRuled list goes_on key) slots id me 2 (λ n. n) (compared (step slots 2 0 0 none) me)
  compares slots id me s ruled long at small =
      let fits = ruled.each id me.0 at in (
        me.0,
        keeps,
        tt,
        unmoved list goes_on key s 2 id me.1 me.0 at ruled,
        (refl, λ short. front_of_front me.0.told me.0.seen ruled.history fits.told fits.seen short),
      )

  -- no two seats have the turn
  pub not_both : (s : State (Option T) (View T I)) (ruled : IsRuled list goes_on key s) (id : ℕ) (v : View T I) (j : ℕ)
      (u : View T I)
      → get_elem? s.views id ≡ some v → get_elem? s.views j ≡ some u → j ≢ id → v.turn ≡ true → u.turn ≡ true → ⊥
  not_both s ruled id v j u at there apart has other_has =
      let one_holds = (ruled.each id v at).turn has in
      let other_holds = (ruled.each j u there).turn other_has in
      let t : ℕ = ruled.served in
      let one = holds_own v t one_holds.0 in
      let other = holds_own u t other_holds.0 in
      let both = two_of (λ (x : View T I). one_if (is_number x.ticket t)) s.views j id u v there at apart in
      let most = at_most_one t ruled.served (ruled.served + waiting s.views) (holders t s.views)
      (ruled.tickets.below t) (ruled.tickets.between t) (ruled.tickets.above t) in
      omega arith

  -- as long as the seat waits
  pub looks_from : (slots id : ℕ) (me was : Sat T I) (ticket : ℕ) → me ≡ was → was.0.live ≡ true
      → was.0.ticket ≡ Some ticket
      → was.0.turn ≡ false
      → Allows (IsRuled list goes_on key) slots id me 1 (λ n. n) (looked list goes_on (step slots 1 0 0 none) me)
  looks_from slots id me was ticket is live holds off = rw is (looks slots id was ticket live holds off)
