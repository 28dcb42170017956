-- A seat is split from the first one.
use Rattle.std.proofs.Common.{rules, ◌≡◌, ℕ, ◌+◌, ◌<◌, true, nat_eq, List, [], ◌∷◌, ◌++◌, length, set, refl, sym, ap, ◌∙◌, subst, ⊎_elim, arith, length-set, length-append}
use mathlib.Core.Logic.{dite}
use mathlib.Core.Option.{some}
use native.Mathlib.Decide.{ℕ_discrete}
use lib.ListN.{get_elem?}
use Rattle.atomic_table.specs.Table.{Splits}
use Rattle.atomic_table.proofs.Lists.{set_here, at_snoc, at_longer}
use Rattle.px_turn.specs.declared.view.View.{View}
use Rattle.px_turn.specs.Histories.{positions, AreMade, HasPositions, IsMade}
use Rattle.px_turn.specs.Views.{numbers, split_once_more, split_off}
use Rattle.px_turn.specs.Rule.{one_if, times, waiting, holders, bearers, AreTickets, AreNumbered, Fits, IsRuled, words_of}
use Rattle.px_turn.proofs.Totals.{total_same, total_more, two_of}
use Rattle.px_turn.proofs.Fronts.{front_none}
use Rattle.px_turn.proofs.Positions.{positions_none}
use Rattle.px_turn.proofs.Seating.{one_if_same, one_if_other, at_within, one_there, one_only, each_set, waiting_same, longest_set, no_turn_before, bears_own}
use Rattle.std.proofs.lemmas.List.Elements.{All-nil, All-cons, All-weaker}

module _ {T I : Type 0} where
  -- a live seat with number 0 is the first one
  pub is_first : (views : List (View T I)) (id : ℕ) (v : View T I) → AreNumbered views → get_elem? views id ≡ some v
      → v.live ≡ true
      → v.number ≡ 0 → 0 ≡ id
  is_first views id v are at live zero_is = dite (ℕ_discrete 0 id) (λ same. same) (λ apart.
      let inside = at_within views id v at in
      let head = one_there views 0 (omega arith) in
      let first = are.first head.0 head.1 in
      let own = bears_own v 0 live zero_is in
      let other = bears_own head.0 0 first.0 first.1 in
      let both = two_of (λ (x : View T I). times 0 (numbers x)) views 0 id head.0 v head.1 at apart in
      let one = are.once 0 (omega arith) in
      absurd (omega arith))

-- the seats after a split
abbrev with_split : {T I : Type 0} → List (View T I) → ℕ → View T I → List (View T I)
with_split views id v = set views id (split_once_more v) ++ split_off v ∷ []

module _ {T I : Type 0} (views : List (View T I)) (id : ℕ) (v : View T I) (at : get_elem? views id ≡ some v) where
  pub long_after : length (with_split views id v) ≡ length views + 1
  long_after = omega (
    arith,
    length-append (set views id (split_once_more v)) (split_off v ∷ []),
    length-set views id (split_once_more v),
  )

  pub waiting_after : waiting (with_split views id v) ≡ waiting views
  waiting_after =
      search (rules, total_more, waiting_same)

  holders_after : (ticket : ℕ)
      → holders ticket (with_split views id v) ≡ holders ticket views
  holders_after ticket =
      search (rules, total_more, total_same)

  pub tickets_after : (served : ℕ) → AreTickets served views
      → AreTickets served (with_split views id v)
  tickets_after served are = let wait = waiting_after in record {
    below = λ ticket low. holders_after ticket ∙ are.below ticket low;
    between = λ ticket low high. holders_after ticket ∙ are.between ticket low (omega arith);
    above = λ ticket high. holders_after ticket ∙ are.above ticket (omega arith);
  }

  bearers_after : (number : ℕ)
      → bearers number (with_split views id v) ≡ bearers number views + one_if (nat_eq (v.splits + 1) number)
  bearers_after number =
      search (rules, total_more, total_same)

  pub numbered_after : AreNumbered views → 0 ≡ id → v.splits < 7
      → AreNumbered (with_split views id v)
  numbered_after are first_is room =
      let was = are.first v (ap (λ k. get_elem? views k) first_is ∙ at) in
      let splits = was.2 in
      let long = long_after in
      record {
        few = omega arith;
        once = λ number low. let borne = bearers_after number in
            dite (ℕ_discrete (v.splits + 1) number)
            (λ same.
            let here = one_if_same (v.splits + 1) number same in
            let before = are.no_other number (omega arith) in
            omega arith)
            (λ apart.
            let here = one_if_other (v.splits + 1) number apart in
            let before = are.once number (omega arith) in
            omega arith);
        no_other = λ number high. let borne = bearers_after number in
            let here = one_if_other (v.splits + 1) number (λ same. absurd (omega arith)) in
            let before = are.no_other number (omega arith) in
            omega arith;
        recorded =
            let more = total_more (λ (u : View T I). length (numbers u)) (set views id (split_once_more v))
            (split_off v) in
            let same = total_same (λ (u : View T I). length (numbers u)) views id v (split_once_more v) at refl in
            let before = are.recorded in
            omega arith;
        first = λ u there.
            let here : get_elem? (set views id (split_once_more v)) 0 ≡ some (split_once_more v) =
            ap (λ k. get_elem? (set views id (split_once_more v)) k) first_is
            ∙ set_here views id (split_once_more v) (at_within views id v at) in
            let is : split_once_more v ≡ u =
            one_only (with_split views id v) 0 0 (split_once_more v) u
            (at_longer (set views id (split_once_more v)) (split_off v ∷ []) 0 (split_once_more v) here) there refl in (
              ap (λ (x : View T I). x.live) (sym is) ∙ was.0,
              ap (λ (x : View T I). x.number) (sym is) ∙ was.1,
              let grown = ap (λ (x : View T I). x.splits) (sym is) in omega arith,
            );
      }

module _ {T I : Type 0} (list : T → List I) (goes_on : T → T → Type 0) (key : T) where
  pub splits : (id : ℕ) (v : View T I) → v.live ≡ true → v.number ≡ 0 → v.splits < 7
      → Splits (IsRuled list goes_on key) id v (split_once_more v) (split_off v)
  splits id v live zero_is room s ruled at =
      let fits = ruled.each id v at in
      let w : View T I = split_once_more v in
      let u : View T I = split_off v in
      let changed : List (View T I) = set s.views id w in
      let first_is = is_first s.views id v ruled.numbered at live zero_is in
      let was = ruled.numbered.first v (ap (λ k. get_elem? s.views k) first_is ∙ at) in
      let longest = longest_set ruled.history s.views id v w at (λ is. is) ruled.longest in
      let long : length (changed ++ u ∷ []) ≡ length s.views + 1 = long_after s.views id v at in
      let none_made : positions (v.splits + 1) ruled.history ≡ [] =
      ap (positions (v.splits + 1)) ruled.begins
      ∙ positions_none (v.splits + 1) (length s.views) (list key) 0 ruled.later (omega arith) ruled.makers in
      record {
        history = ruled.history;
        later = ruled.later;
        served = ruled.served;
        words = ruled.words
            ∙ ap (λ n. words_of ruled.served n (length ruled.history)) (sym (waiting_after s.views id v at));
        few = ruled.few;
        tickets = tickets_after s.views id v at ruled.served ruled.tickets;
        numbered = numbered_after s.views id v at ruled.numbered first_is room;
        each = λ j x there. ⊎_elim
            (each_set (Fits key ruled.history ruled.served) s.views id w
            (assumption fits)
            (λ i y apart at_i. ruled.each i y at_i) j x)
            (λ is. subst (Fits key ruled.history ruled.served) is record {
              turn = λ has. absurd (cc);
              spent = λ not_live. absurd (cc);
              seen = fits.seen;
              told = front_none ruled.history;
              known = fits.known;
              made = All-cons (HasPositions ruled.history) (record { number = v.splits + 1; made = [] }) []
                  (sym none_made) (All-nil (HasPositions ruled.history));
              opening = λ _. fits.opening live;
            })
            (at_snoc changed u x j there);
        longest = (longest.0, (longest.1.0, at_longer changed (u ∷ []) longest.0 longest.1.0 longest.1.1, longest.1.2));
        at_home = λ none_has.
            let home = ruled.at_home (no_turn_before s.views id v w at (λ is. is)
            (λ j x there. none_has j x (at_longer changed (u ∷ []) j x there))) in
            record { value = home.value; home = home.home; stands = home.stands; goes_on_with = home.goes_on_with };
        begins = ruled.begins;
        makers = subst (λ n. AreMade n ruled.later) (sym long)
            (All-weaker (IsMade (length s.views))
            (IsMade (length s.views + 1))
            (λ e made. let low = made.2 in (made.0, made.1, omega arith)) ruled.later ruled.makers);
      }
