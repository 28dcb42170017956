-- A seat takes a ticket.
use Rattle.std.proofs.Common.{rules, ◌≡◌, ℕ, ◌+◌, ◌%◌, ◌^◌, false, nat_eq, List, [], ◌∷◌, length, set, get_or, None, refl, sym, ap, ◌∙◌, subst, arith, length-set}
use mathlib.Core.Logic.{dite}
use mathlib.Core.Option.{some, none}
use native.Mathlib.Decide.{ℕ_discrete}
use lib.ListN.{get_elem?}
use Rattle.atomic_table.specs.Table.{step, keeps, Allows}
use Rattle.px_turn.specs.declared.view.View.{View}
use Rattle.px_turn.specs.Histories.{AreMade}
use Rattle.px_turn.specs.Views.{with_ticket}
use Rattle.px_turn.specs.Rule.{one_if, waiting, holders, AreTickets, Fits, IsRuled}
use Rattle.px_turn.specs.Steps.{Sat, queued}
use Rattle.px_turn.proofs.Totals.{total_set}
use Rattle.px_turn.proofs.Seating.{one_if_same, one_if_other, each_set, numbered_same, longest_set, no_turn_before}

-- the next ticket is held by whoever takes it, and by nobody else
module _ {T I : Type 0} (served : ℕ) (views : List (View T I)) (id : ℕ) (v : View T I)
    (at : get_elem? views id ≡ some v) (no_ticket : v.ticket ≡ None) (are : AreTickets served views) where
  next : ℕ
  next = served + waiting views

  pub waiting_more : (ticket : ℕ) → waiting (set views id (with_ticket ticket v)) ≡ waiting views + 1
  waiting_more ticket =
      search (rules, total_set)

  holders_more : (ticket other : ℕ)
      → holders other (set views id (with_ticket ticket v)) ≡ holders other views + one_if (nat_eq ticket other)
  holders_more ticket other =
      search (rules, total_set)

  pub tickets_more : (ticket : ℕ) → ticket ≡ served + waiting views
      → AreTickets served (set views id (with_ticket ticket v))
  tickets_more ticket is = let more = waiting_more ticket in record {
    below = λ other low. let held = holders_more ticket other in
        let here = one_if_other ticket other (λ same. absurd (omega arith)) in
        let before = are.below other low in
        omega arith;
    between = λ other low high. let held = holders_more ticket other in
        dite (ℕ_discrete ticket other)
        (λ same. let here = one_if_same ticket other same in let before = are.above other (omega arith) in omega arith)
        (λ apart.
        let here = one_if_other ticket other apart in
        let before = are.between other low (omega arith) in
        omega arith);
    above = λ other high. let held = holders_more ticket other in
        let here = one_if_other ticket other (λ same. absurd (omega arith)) in
        let before = are.above other (omega arith) in
        omega arith;
  }

module _ {T I : Type 0} (list : T → List I) (goes_on : T → T → Type 0) (key : T) where
  pub takes_ticket : (slots id : ℕ) (me : Sat T I) → me.0.ticket ≡ None → me.0.turn ≡ false
      → Allows (IsRuled list goes_on key) slots id me 0 (λ n. (n + 1) % 2 ^ 64) (queued (step slots 0 1 0 none) me)
  takes_ticket slots id me no_ticket no_turn s ruled long at small =
      let ticket : ℕ = ruled.served + waiting s.views in
      let w : View T I = with_ticket ticket me.0 in
      let fits = ruled.each id me.0 at in
      let more : waiting (set s.views id w) ≡ waiting s.views + 1 =
      waiting_more ruled.served s.views id me.0 at no_ticket ruled.tickets ticket in
      let found : get_or s.words 0 0 ≡ ticket % 2 ^ 64 = ap (λ ws. get_or ws 0 0) ruled.words in
      let next : (get_or s.words 0 0 + 1) % 2 ^ 64 ≡ (ruled.served + waiting (set s.views id w)) % 2 ^ 64 =
      omega arith in (
        w,
        keeps,
        tt,
        record {
          history = ruled.history;
          later = ruled.later;
          served = ruled.served;
          words = ap (λ ws. set ws 0 ((get_or s.words 0 0 + 1) % 2 ^ 64)) ruled.words
              ∙ ap (λ n. n ∷ (ruled.served % 2 ^ 64) ∷ length ruled.history ∷ []) next;
          few = ruled.few;
          tickets = tickets_more ruled.served s.views id me.0 at no_ticket ruled.tickets ticket refl;
          numbered = numbered_same s.views id me.0 w at refl refl refl refl ruled.numbered;
          each = each_set (Fits key ruled.history ruled.served) s.views id w
              (search rules)
              (λ j u apart there. ruled.each j u there);
          longest = longest_set ruled.history s.views id me.0 w at (λ is. is) ruled.longest;
          at_home = λ none_has.
              let home = ruled.at_home (no_turn_before s.views id me.0 w at (λ is. is) none_has) in
              record { value = home.value; home = home.home; stands = home.stands; goes_on_with = home.goes_on_with };
          begins = ruled.begins;
          makers = subst (λ n. AreMade n ruled.later) (sym (length-set s.views id w)) ruled.makers;
        },
        (ticket, sym found, refl),
      )
