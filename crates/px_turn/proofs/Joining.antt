-- A seat is joined into another.
use Rattle.std.proofs.lemmas.Grind.{common_steps}
use Rattle.std.proofs.Common.{rules, ◌≡◌, ◌≢◌, ◌⊎◌, ℕ, ◌+◌, true, false, ltb, lt-ltb, le-ltb, List, ◌∷◌, ◌++◌, length, set, None, refl, sym, ap, ◌∙◌, subst, inl, inr, arith, length-set, length-append, All}
use mathlib.Core.Logic.{dite}
use mathlib.Core.Option.{some}
use native.Mathlib.Decide.{ℕ_discrete}
use lib.ListN.{get_elem?}
use Rattle.atomic_table.specs.Table.{Joins}
use Rattle.atomic_table.proofs.Lists.{at_set, set_here, set_else}
use Rattle.px_turn.specs.declared.view.Record.{Record}
use Rattle.px_turn.specs.declared.view.Stamped.{Stamped}
use Rattle.px_turn.specs.declared.view.View.{View}
use Rattle.px_turn.specs.Histories.{IsFront, AreMade, longer, HasPositions}
use Rattle.px_turn.specs.Views.{records, numbers, record_of, spent, joined}
use Rattle.px_turn.specs.Rule.{total, waiting, AreTickets, AreNumbered, Fits, HaveNoTurn, IsRuled, words_of}
use Rattle.px_turn.proofs.Totals.{total_set, times-append}
use Rattle.px_turn.proofs.Fronts.{front_none, front_length, front_whole}
use Rattle.px_turn.proofs.Seating.{at_within, one_only, each_set, own_first, joined_rest, numbers_are, no_turn_before}
use mathlib.Core.List.{map-append}
use Rattle.std.proofs.lemmas.Bool.{cases_lt, cond_both}
use Rattle.std.proofs.lemmas.List.Elements.{All-nil, All-cons, All-append}

-- where one of two fronts is the whole, the longer is
longer_whole : {A : Type 0} (xs ys whole : List A) → IsFront xs whole → IsFront ys whole → (xs ≡ whole) ⊎ (ys ≡ whole)
    → longer xs ys ≡ whole
longer_whole {A = A} xs ys whole one other either =
    grind (arith, common_steps, front_length, lt-ltb, le-ltb, front_whole, cases_lt)

module _ {T I : Type 0} where
  numbers_joined : (v w : View T I) → v.live ≡ true → w.live ≡ true → numbers (joined v w) ≡ numbers v ++ numbers w
  numbers_joined v w live live_too =
      search (rules, numbers_are, map-append)

  records_joined : (P : Record → Type 0) (v w : View T I) → v.live ≡ true → w.live ≡ true → All P (records v)
      → All P (records w)
      → All P (records (joined v w))
  records_joined P v w live live_too all all_too = rw live
      (All-cons P (record_of v) (v.joined ++ record_of w ∷ w.joined)
      (own_first P v live all)
      (All-append P v.joined (record_of w ∷ w.joined) (joined_rest P v live all) (rw live_too at all_too)))

  spent_fits : (key : T) (history : List (Stamped I)) (served : ℕ) → Fits key history served (spent {T = T} {I = I})
  spent_fits key history served = record {
    turn = λ has. absurd (cc);
    spent = λ not_live. (refl, refl);
    seen = front_none history;
    told = front_none history;
    known = omega arith;
    made = All-nil (HasPositions history);
    opening = λ live. absurd (cc);
  }

  joined_fits : (key : T) (history : List (Stamped I)) (served : ℕ) (v w : View T I) → v.live ≡ true → w.live ≡ true
      → v.turn ≡ false
      → Fits key history served v → Fits key history served w → Fits key history served (joined v w)
  joined_fits key history served v w live live_too off fits other = record {
    turn = λ has. absurd (cc);
    spent = λ not_live. absurd (cc);
    seen = cond_both (ltb (length v.seen) (length w.seen)) w.seen v.seen (λ l. IsFront l history) (λ _. other.seen) (λ _. fits.seen);
    told = cond_both (ltb (length v.seen) (length w.seen)) v.seen w.seen (λ l. IsFront l history) (λ _. fits.seen) (λ _. other.seen);
    known = let known = fits.known in let known_too = other.known in omega arith;
    made = records_joined (HasPositions history) v w live live_too fits.made other.made;
    opening = fits.opening;
  }

-- the seats after one took in another, of which nothing is left
abbrev with_joined : {T I : Type 0} → List (View T I) → ℕ → ℕ → View T I → View T I → List (View T I)
with_joined views id other v w = set (set views id (joined v w)) other spent

module _ {T I : Type 0} (views : List (View T I)) (id other : ℕ) (v w : View T I) (at : get_elem? views id ≡ some v)
    (there : get_elem? (set views id (joined v w)) other ≡ some w) (apart : other ≢ id) where
  total_joined : (f : View T I → ℕ) → f (joined v w) ≡ f v + f w → f spent ≡ 0
      → total f (with_joined views id other v w) ≡ total f views
  total_joined f sum none_left =
      search (rules, total_set)

  pub long_joined : length (with_joined views id other v w) ≡ length views
  long_joined = length-set (set views id (joined v w)) other spent ∙ length-set views id (joined v w)

  pub other_at : get_elem? views other ≡ some w
  other_at = sym (set_else views id other (joined v w) apart) ∙ there

  pub waiting_joined : w.ticket ≡ None → waiting (with_joined views id other v w) ≡ waiting views
  waiting_joined no_ticket =
      search (rules, total_joined)

  pub tickets_joined : (served : ℕ) → w.ticket ≡ None → AreTickets served views
      → AreTickets served (with_joined views id other v w)
  tickets_joined served no_ticket are =
      search (rules, waiting_joined, total_joined)

  pub numbered_joined : v.live ≡ true → w.live ≡ true → w.number ≢ 0 → AreNumbered views
      → AreNumbered (with_joined views id other v w)
  numbered_joined live live_too later are =
      search (rules, long_joined, numbers_joined, total_joined, times-append, length-append, other_at, at_set)

  pub longest_joined : (history : List (Stamped I)) → IsFront v.seen history → IsFront w.seen history
      → (j : ℕ) × ((u : View T I) × (get_elem? views j ≡ some u) × (u.seen ≡ history))
      → (j : ℕ) × ((u : View T I) × (get_elem? (with_joined views id other v w) j ≡ some u) × (u.seen ≡ history))
  longest_joined history one two (j, seen) =
      let here : get_elem? (with_joined views id other v w) id ≡ some (joined v w) =
      set_else (set views id (joined v w)) other id spent (λ same. apart (sym same))
      ∙ set_here views id (joined v w) (at_within views id v at) in
      dite (ℕ_discrete j id)
      (λ same. (
        id,
        (
          joined v w,
          here,
          longer_whole v.seen w.seen history one two
              (inl (ap (λ (x : View T I). x.seen) (one_only views id j v seen.0 at seen.1 (sym same)) ∙ seen.2)),
        ),
      ))
      (λ not_here. dite (ℕ_discrete j other)
      (λ same. (
        id,
        (
          joined v w,
          here,
          longer_whole v.seen w.seen history one two
              (inr (ap (λ (x : View T I). x.seen) (one_only views other j w seen.0 other_at seen.1 (sym same))
              ∙ seen.2)),
        ),
      ))
      (λ not_there. (
        j,
        (
          seen.0,
          set_else (set views id (joined v w)) other j spent not_there
              ∙ (set_else views id j (joined v w) not_here ∙ seen.1),
          seen.2,
        ),
      )))

  pub no_turn_joined : v.turn ≡ false → w.turn ≡ false → HaveNoTurn (with_joined views id other v w)
      → HaveNoTurn views
  no_turn_joined off off_too none_has =
      no_turn_before views id v (joined v w) at (λ _. off)
      (no_turn_before (set views id (joined v w)) other w spent there (λ _. off_too) none_has)

module _ {T I : Type 0} (list : T → List I) (goes_on : T → T → Type 0) (key : T) where
  pub joins : (id : ℕ) (v : View T I) (other : ℕ) (w : View T I) → v.live ≡ true → w.live ≡ true → w.ticket ≡ None
      → v.turn ≡ false → w.turn ≡ false → w.number ≢ 0
      → Joins (IsRuled list goes_on key) id v other w (joined v w) spent
  joins id v other w live live_too no_ticket off off_too later s ruled at apart there =
      let at_other : get_elem? s.views other ≡ some w = other_at s.views id other v w at there apart in
      let fits = ruled.each id v at in
      let fits_too = ruled.each other w at_other in
      record {
        history = ruled.history;
        later = ruled.later;
        served = ruled.served;
        words = ruled.words
            ∙ ap (λ n. words_of ruled.served n (length ruled.history))
            (sym (waiting_joined s.views id other v w at there apart no_ticket));
        few = ruled.few;
        tickets = tickets_joined s.views id other v w at there apart ruled.served no_ticket ruled.tickets;
        numbered = numbered_joined s.views id other v w at there apart live live_too later ruled.numbered;
        each = each_set (Fits key ruled.history ruled.served) (set s.views id (joined v w)) other spent
            (spent_fits key ruled.history ruled.served)
            (λ j u not_there seen. each_set (Fits key ruled.history ruled.served) s.views id (joined v w)
            (joined_fits key ruled.history ruled.served v w live live_too off fits fits_too)
            (λ i x not_here at_i. ruled.each i x at_i) j u seen);
        longest = longest_joined s.views id other v w at there apart ruled.history fits.seen fits_too.seen
            ruled.longest;
        at_home = λ none_has.
            let home = ruled.at_home (no_turn_joined s.views id other v w at there apart off off_too none_has) in
            record { value = home.value; home = home.home; stands = home.stands; goes_on_with = home.goes_on_with };
        begins = ruled.begins;
        makers = subst (λ n. AreMade n ruled.later) (sym (long_joined s.views id other v w at there apart))
            ruled.makers;
      }
