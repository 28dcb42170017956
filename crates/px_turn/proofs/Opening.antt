-- The opening.
use Rattle.std.proofs.Common.{◌≡◌, ℕ, zero, suc, ◌+◌, ◌^◌, ◌<◌, true, List, [], ◌∷◌, map, length, Option, Some, None, append-nil, refl, sym, ap, ◌∙◌, subst, arith}
use mathlib.Core.Option.{some, some-injective, some-ne-none}
use lib.ListN.{get_elem?}
use Rattle.std.proofs.lemmas.List.{length-map}
use Rattle.atomic_table.specs.Table.{opening}
use Rattle.px_turn.specs.declared.view.View.{View}
use Rattle.px_turn.specs.Histories.{stamped, opened, HasPositions, IsMade}
use Rattle.px_turn.specs.Views.{newcomer}
use Rattle.px_turn.specs.Rule.{AreNumbered, Fits, IsRuled}
use Rattle.px_turn.proofs.Fronts.{front_self, front_none}
use Rattle.px_turn.proofs.Positions.{positions_opened, items_opened}
use Rattle.px_turn.proofs.Seating.{one_if_same, one_if_other}
use Rattle.std.proofs.lemmas.List.Elements.{All-nil, All-cons}

module _ {T I : Type 0} (list : T → List I) (goes_on : T → T → Type 0) where
  first_fits : (key : T) → Fits key (opened (list key)) 0 (newcomer list key)
  first_fits key = record {
    turn = λ has. absurd (cc);
    spent = λ not_live. absurd (cc);
    seen = front_self (opened (list key));
    told = front_none (opened (list key));
    known = omega arith;
    made = All-cons (HasPositions (opened (list key))) (record { number = 0; made = [] }) []
        (sym (positions_opened 0 0 (list key))) (All-nil (HasPositions (opened (list key))));
    opening = λ live. refl;
  }

  one_seat : (key : T) → (j : ℕ) (v : View T I) → get_elem? (newcomer list key ∷ []) j ≡ some v → newcomer list key ≡ v
  one_seat key zero v at = some-injective (newcomer list key) v at
  one_seat key (suc j) v at = absurd (some-ne-none v (sym at))

  numbered_first : (key : T) → AreNumbered (newcomer list key ∷ [])
  numbered_first key = record {
    few = omega arith;
    once = λ number low. let here = one_if_same 0 number (omega arith) in omega arith;
    no_other = λ number high. let here = one_if_other 0 number (λ same. absurd (omega arith)) in omega arith;
    recorded = refl;
    first = λ v at. subst (λ (x : View T I). (x.live ≡ true) × (x.number ≡ 0) × (x.splits + 1 ≡ 1))
        (one_seat key 0 v at) (refl, refl, refl);
  }

  pub opens : (key value : T) (count : ℕ) (slots : List (Option T)) → key ≡ value → slots ≡ Some value ∷ []
      → goes_on value value
      → count ≡ length (list value) → count < 2 ^ 63
      → IsRuled list goes_on key (opening (0 ∷ 0 ∷ count ∷ []) slots (newcomer list key))
  opens key value count slots is slots_are stays count_is few =
      let long = length-map (list key) (λ (item : I). stamped None item) in
      let same_count : count ≡ length (opened (list key)) = omega (arith, ap (λ (x : T). length (list x)) is) in
      record {
        history = opened (list key);
        later = [];
        served = 0;
        words = ap (λ n. 0 ∷ 0 ∷ n ∷ []) same_count;
        few = omega arith;
        tickets = record {
          below = λ ticket low. refl;
          between = λ ticket low high. absurd (omega arith);
          above = λ ticket high. refl;
        };
        numbered = numbered_first key;
        each = λ j v at. subst (λ (x : View T I). Fits key (opened (list key)) 0 x) (one_seat key j v at)
            (first_fits key);
        longest = (0, (newcomer list key, refl, refl));
        at_home = λ none_has. record {
          value = value;
          home = ap (λ l. get_elem? (map some l) 0) slots_are;
          stands = ap list (sym is) ∙ sym (items_opened (list key));
          goes_on_with = subst (λ x. goes_on x value) (sym is) stays;
        };
        begins = sym (append-nil (opened (list key)));
        makers = All-nil (IsMade 1);
      }
