-- A seat that has the turn calls the next one.
use Rattle.std.proofs.Common.{rules, ◌≡◌, ℕ, ◌+◌, ◌%◌, ◌^◌, ◌<◌, true, nat_eq, List, [], ◌∷◌, length, set, get_or, Option, Some, refl, sym, ap, ◌∙◌, subst, arith, length-set}
use mathlib.Core.Logic.{dite}
use mathlib.Core.Option.{some, none}
use native.Mathlib.Decide.{ℕ_discrete}
use lib.ListN.{get_elem?}
use Rattle.atomic_table.specs.Table.{State, step, stepped, gives, put_back, Allows}
use Rattle.atomic_table.proofs.Lists.{set_here}
use Rattle.px_turn.specs.declared.view.View.{View}
use Rattle.px_turn.specs.Histories.{items, AreMade}
use Rattle.px_turn.specs.Views.{without_turn, GoesOn}
use Rattle.px_turn.specs.Rule.{one_if, waiting, holders, AreTickets, Fits, IsRuled}
use Rattle.px_turn.specs.Steps.{Sat, called}
use Rattle.px_turn.proofs.Totals.{total_set}
use Rattle.px_turn.proofs.Seating.{one_if_same, one_if_other, each_set, numbered_same, longest_set}
use Rattle.px_turn.proofs.Looking.{not_both}

-- the ticket that was served is held no more
module _ {T I : Type 0} (served : ℕ) (views : List (View T I)) (id : ℕ) (v : View T I)
    (at : get_elem? views id ≡ some v) (holds : v.ticket ≡ Some served) (are : AreTickets served views) where
  pub waiting_less : waiting (set views id (without_turn v)) + 1 ≡ waiting views
  waiting_less =
      search (rules, total_set)

  holders_less : (ticket : ℕ)
      → holders ticket (set views id (without_turn v)) + one_if (nat_eq served ticket) ≡ holders ticket views
  holders_less ticket =
      search (rules, total_set)

  pub tickets_less : AreTickets (served + 1) (set views id (without_turn v))
  tickets_less = let less = waiting_less in record {
    below = λ ticket low. let held = holders_less ticket in
        dite (ℕ_discrete served ticket)
        (λ same.
        let here = one_if_same served ticket same in
        let before = are.between ticket (omega arith) (omega arith) in
        omega arith)
        (λ apart.
        let here = one_if_other served ticket apart in
        let before = are.below ticket (omega arith) in
        omega arith);
    between = λ ticket low high. let held = holders_less ticket in
        let here = one_if_other served ticket (λ same. absurd (omega arith)) in
        let before = are.between ticket (omega arith) (omega arith) in
        omega arith;
    above = λ ticket high. let held = holders_less ticket in
        let here = one_if_other served ticket (λ same. absurd (omega arith)) in
        let before = are.above ticket (omega arith) in
        omega arith;
  }

module _ {T I : Type 0} (list : T → List I) (goes_on : T → T → Type 0) (key : T) where
  called_ruled : (s : State (Option T) (View T I)) (ruled : IsRuled list goes_on key s) (id : ℕ) (me : Sat T I)
      (value : T)
      → get_elem? s.views id ≡ some me.0 → me.0.live ≡ true → me.0.turn ≡ true → me.1 ≡ (0, Some value) ∷ []
      → 0 < length s.homes
      → list value ≡ items me.0.seen → GoesOn goes_on me.0 value
      → IsRuled list goes_on key (stepped s 1 ((get_or s.words 1 0 + 1) % 2 ^ 64) id me.1 (without_turn me.0) gives)
  called_ruled s ruled id me value at live has hand slot stands goes =
      let v : View T I = me.0 in
      let w : View T I = without_turn v in
      let fits = ruled.each id v at in
      let holds : v.ticket ≡ Some ruled.served = (fits.turn has).0 in
      let seen : v.seen ≡ ruled.history = (fits.turn has).1 in
      let less : waiting (set s.views id w) + 1 ≡ waiting s.views =
      waiting_less ruled.served s.views id v at holds ruled.tickets in
      let same_next : ruled.served + waiting s.views ≡ (ruled.served + 1) + waiting (set s.views id w) = omega arith in
      let found : get_or s.words 1 0 ≡ ruled.served % 2 ^ 64 = ap (λ ws. get_or ws 1 0) ruled.words in
      let next : (get_or s.words 1 0 + 1) % 2 ^ 64 ≡ (ruled.served + 1) % 2 ^ 64 = omega arith in
      record {
        history = ruled.history;
        later = ruled.later;
        served = ruled.served + 1;
        words = ap (λ ws. set ws 1 ((get_or s.words 1 0 + 1) % 2 ^ 64)) ruled.words
            ∙ ap (λ n. ((ruled.served + waiting s.views) % 2 ^ 64) ∷ n ∷ length ruled.history ∷ []) next
            ∙ ap (λ n. (n % 2 ^ 64) ∷ ((ruled.served + 1) % 2 ^ 64) ∷ length ruled.history ∷ []) same_next;
        few = ruled.few;
        tickets = tickets_less ruled.served s.views id v at holds ruled.tickets;
        numbered = numbered_same s.views id v w at refl refl refl refl ruled.numbered;
        each = each_set (Fits key ruled.history (ruled.served + 1)) s.views id w
            record {
              turn = λ is. absurd (cc);
              spent = λ not_live. (refl, (fits.spent not_live).1);
              seen = fits.seen;
              told = fits.told;
              known = fits.known;
              made = fits.made;
              opening = fits.opening;
            }
            (λ j u apart there.
            let other = ruled.each j u there in
            record {
              turn = λ is. absurd (not_both list goes_on key s ruled id v j u at there apart has is);
              spent = other.spent;
              seen = other.seen;
              told = other.told;
              known = other.known;
              made = other.made;
              opening = other.opening;
            });
        longest = longest_set ruled.history s.views id v w at (λ is. is) ruled.longest;
        at_home = λ none_has. record {
          value = value;
          home = ap (λ carried. get_elem? (put_back s.homes carried) 0) hand
              ∙ set_here s.homes 0 (some (Some value)) slot;
          stands = stands ∙ ap items seen;
          goes_on_with = goes key (fits.opening live);
        };
        begins = ruled.begins;
        makers = subst (λ n. AreMade n ruled.later) (sym (length-set s.views id w)) ruled.makers;
      }

  pub calls : (slots id : ℕ) (me : Sat T I) (value : T) → 0 < slots → me.0.live ≡ true → me.0.turn ≡ true
      → me.1 ≡ (0, Some value) ∷ []
      → list value ≡ items me.0.seen → GoesOn goes_on me.0 value
      → Allows (IsRuled list goes_on key) slots id me 1 (λ n. (n + 1) % 2 ^ 64) (called (step slots 1 1 0 none) me)
  calls slots id me value some_slot live has hand stands goes s ruled long at small = (
    without_turn me.0,
    gives,
    tt,
    called_ruled s ruled id me value at live has hand (omega arith) stands goes,
    refl,
  )
