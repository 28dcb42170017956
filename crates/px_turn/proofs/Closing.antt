-- The end.
use Rattle.std.proofs.lemmas.Grind.{common_steps}
use Rattle.std.proofs.Common.{rules, ◌≡◌, ◌≢◌, ℕ, ◌+◌, ◌<◌, true, false, List, ◌++◌, length, Option, Some, IsSome, unwrap_or, refl, sym, ap, ◌∙◌, subst, arith, All, ◌≤◌}
use Rattle.std.proofs.lemmas.Bool.{false_from_ne_true}
use mathlib.Core.Option.{some, some-injective}
use lib.ListN.{get_elem?}
use Rattle.atomic_table.specs.Table.{State, Final, Seen}
use Rattle.px_turn.specs.declared.view.Stamped.{Stamped}
use Rattle.px_turn.specs.declared.view.View.{View}
use Rattle.px_turn.specs.Histories.{items, opened, AreMade, HasPositions}
use Rattle.px_turn.specs.Views.{records, numbers}
use Rattle.px_turn.specs.Rule.{times, AreNumbered, HaveNoTurn, IsRuled}
use Rattle.px_turn.proofs.Totals.{one_of, two_of, others_le, times-le-length}
use Rattle.px_turn.proofs.Fronts.{front_whole}
use Rattle.px_turn.proofs.Seating.{one_only, numbers_are, same_opening}
use Rattle.px_turn.specs.Seats.{IsWhole}
use Rattle.px_turn.proofs.Splitting.{is_first}

module _ {T I : Type 0} where
  long_numbers : (v : View T I) → v.live ≡ true → length (numbers v) ≡ length v.joined + 1
  long_numbers v live = grind (arith, common_steps, numbers_are)

  -- who has no record is live no more
  not_live : (v : View T I) → length (numbers v) ≡ 0 → v.live ≡ false
  not_live v none_left = false_from_ne_true v.live (λ live. let long = long_numbers v live in omega arith)

  -- where a seat has as many records as there are seats, no other is live
  others_spent : (views : List (View T I)) (id : ℕ) (v : View T I) → AreNumbered views → get_elem? views id ≡ some v
      → length (numbers v) ≡ length views → (j : ℕ) (u : View T I) → j ≢ id → get_elem? views j ≡ some u
      → u.live ≡ false
  others_spent views id v are at all j u apart there =
      search (rules, two_of, not_live)

  -- and it has each number
  each_once : (views : List (View T I)) (id : ℕ) (v : View T I) → AreNumbered views → get_elem? views id ≡ some v
      → length (numbers v) ≡ length views → (number : ℕ) → number < length views → times number (numbers v) ≡ 1
  each_once views id v are at all number low =
      let less = others_le (λ (x : View T I). times number (numbers x)) (λ x. length (numbers x))
      (λ x. times-le-length number (numbers x)) views id v at in
      let own = one_of (λ (x : View T I). times number (numbers x)) views id v at in
      let recorded = are.recorded in
      let once = are.once number low in
      omega arith

module _ {T I : Type 0} (list : T → List I) (goes_on : T → T → Type 0) (key : T) where
  nobody_has : (s : State (Option T) (View T I)) (ruled : IsRuled list goes_on key s) (id : ℕ) (v : View T I)
      → get_elem? s.views id ≡ some v → v.turn ≡ false → length (numbers v) ≡ length s.views → HaveNoTurn s.views
  nobody_has s ruled id v at off all j u there = search (rules, one_only, others_spent)

  seen_all : (s : State (Option T) (View T I)) (ruled : IsRuled list goes_on key s) (id : ℕ) (v : View T I)
      → get_elem? s.views id ≡ some v → length (numbers v) ≡ length s.views → v.seen ≡ ruled.history
  seen_all s ruled id v at all =
      grind (arith, common_steps, one_only, others_spent, front_whole)

  pub closes : (id : ℕ) (v : View T I) (words : List ℕ) (slots : List (Option T)) → v.live ≡ true → v.number ≡ 0
      → v.turn ≡ false
      → length v.joined ≡ v.splits → Final (Seen (IsRuled list goes_on key) id v) words slots
      → (value : T) × (get_elem? slots 0 ≡ some (Some value)) × IsWhole list goes_on v value
  closes id v words slots live zero_is off all final =
      let s = final.0 in
      let ruled = final.1.0 in
      let at = final.1.1 in
      let first_is = is_first s.views id v ruled.numbered at live zero_is in
      let was = ruled.numbered.first v (ap (λ k. get_elem? s.views k) first_is ∙ at) in
      let splits = was.2 in
      let own = long_numbers v live in
      let whole : length (numbers v) ≡ length s.views = omega arith in
      let home = ruled.at_home (nobody_has s ruled id v at off whole) in
      let seen = seen_all s ruled id v at whole in
      let fits = ruled.each id v at in (
        home.value,
        final.4 0 (Some home.value) home.home,
        record {
          later = ruled.later;
          stands = home.stands ∙ ap items (sym seen);
          goes_on_with = λ opening is. same_opening v key opening (λ o. goes_on o home.value) (fits.opening live) is
              home.goes_on_with;
          begins = λ opening is. same_opening v key opening (λ o. v.seen ≡ opened (list o) ++ ruled.later)
              (fits.opening live) is (seen ∙ ruled.begins);
          known = subst (λ (h : List (Stamped I)). v.known ≤ length h) (sym seen) fits.known;
          makers = subst (λ n. AreMade n ruled.later) (sym splits) ruled.makers;
          made = subst (λ h. All (HasPositions h) (records v)) (sym seen) fits.made;
          once = λ number low. each_once s.views id v ruled.numbered at whole number (omega arith);
        },
      )

  -- what is then found in the slot
  pub finds : (id : ℕ) (v : View T I) (words : List ℕ) (slots : List (Option T)) (found : Option T) → v.live ≡ true
      → v.number ≡ 0
      → v.turn ≡ false → length v.joined ≡ v.splits → Final (Seen (IsRuled list goes_on key) id v) words slots
      → get_elem? slots 0 ≡ some found → IsSome found
  finds id v words slots found live zero_is off all final at =
      let end = closes id v words slots live zero_is off all final in
      subst IsSome (some-injective (Some end.0) found (sym end.1 ∙ at)) refl

  pub finds_whole : (id : ℕ) (v : View T I) (words : List ℕ) (slots : List (Option T)) (found : Option T) (value : T)
      → v.live ≡ true
      → v.number ≡ 0 → v.turn ≡ false → length v.joined ≡ v.splits
      → Final (Seen (IsRuled list goes_on key) id v) words slots
      → get_elem? slots 0 ≡ some found → found ≡ Some value → IsWhole list goes_on v value
  finds_whole id v words slots found value live zero_is off all final at is =
      let end = closes id v words slots live zero_is off all final in
      let same : Some end.0 ≡ Some value = some-injective (Some end.0) found (sym end.1 ∙ at) ∙ is in
      subst (IsWhole list goes_on v) (ap (λ o. unwrap_or o end.0) same) end.2
