-- A seat that has the turn counts one entry more.
use Rattle.std.proofs.Common.{◌≡◌, ◌≢◌, ℕ, ◌+◌, ◌%◌, ◌^◌, ◌<◌, ◌≤◌, true, nat_eq, List, [], ◌∷◌, ◌++◌, map, length, set, get_or, Option, Some, refl, sym, ap, ◌∙◌, subst, append_assoc, arith, length-set, length-append, All}
use mathlib.Core.Option.{some, none}
use lib.ListN.{get_elem?}
use Rattle.std.proofs.lemmas.List.{length-map}
use Rattle.px_turn.proofs.Looking.{high_bound, at_most_one, not_both}
use Rattle.atomic_table.specs.Table.{State, step, stepped, keeps, Allows}
use Rattle.atomic_table.proofs.Lists.{set_here}
use Rattle.px_turn.specs.declared.view.Record.{Record}
use Rattle.px_turn.specs.declared.view.Stamped.{Stamped}
use Rattle.px_turn.specs.declared.view.View.{View}
use Rattle.px_turn.specs.Histories.{IsFront, stamped, items, opened, AreMade, HasPositions, IsMade}
use Rattle.px_turn.specs.Views.{records, numbers, with_entry}
use Rattle.px_turn.specs.Rule.{one_if, times, waiting, bearers, AreNumbered, Fits, IsRuled, words_of}
use Rattle.px_turn.specs.Steps.{Sat, marked}
use Rattle.px_turn.proofs.Totals.{one_of, two_of}
use Rattle.px_turn.proofs.Fronts.{front_self, front_more}
use Rattle.px_turn.proofs.Positions.{positions_own, positions_other}
use Rattle.px_turn.proofs.Seating.{one_if_same, at_within, each_set, own_first, joined_rest, waiting_same, in_hand, tickets_same, numbered_same, one_has_turn, bears_own}
use Rattle.std.proofs.lemmas.List.Elements.{All-cons, All-nil, All-head, All-tail, All-push}

-- the records that don't have a number keep their positions as an entry with it is added
records_kept : {I : Type 0} (number : ℕ) (history : List (Stamped I)) (item : I) (list : List Record)
    → times number (map (λ (r : Record). r.number) list) ≡ 0
    → All (HasPositions history) list
    → All (HasPositions (history ++ stamped (Some number) item ∷ [])) list
records_kept number history item [] none_has all = All-nil _
records_kept number history item (r ∷ list) none_has all =
    let apart : one_if (nat_eq r.number number) ≡ 0 = omega arith in
    let rest : times number (map (λ (r : Record). r.number) list) ≡ 0 = omega arith in
    All-cons (HasPositions (history ++ stamped (Some number) item ∷ [])) r list
    (All-head (HasPositions history) r list all
    ∙ sym (positions_other r.number number history item
    (λ same. let one = one_if_same r.number number (sym same) in absurd (omega arith))))
    (records_kept number history item list rest (All-tail (HasPositions history) r list all))

at_most_once : (number below borne : ℕ) → (number < below → borne ≡ 1) → (below ≤ number → borne ≡ 0) → borne ≤ 1
at_most_once number below borne once no_other =
    at_most_one number 0 below borne (λ low. absurd (omega arith)) (λ _. once) no_other

module _ {T I : Type 0} where
  -- a seat's number is one of those that the seats have, and no other record has it
  number_below : (views : List (View T I)) (id : ℕ) (v : View T I) → AreNumbered views → get_elem? views id ≡ some v
      → v.live ≡ true
      → v.number < length views
  number_below views id v are at live =
      let own = bears_own v v.number live refl in
      let borne = one_of (λ (u : View T I). times v.number (numbers u)) views id v at in
      high_bound v.number (length views) (bearers v.number views) (omega arith) (are.no_other v.number)

  none_joined : (views : List (View T I)) (id : ℕ) (v : View T I) → AreNumbered views → get_elem? views id ≡ some v
      → v.live ≡ true
      → times v.number (map (λ r. r.number) v.joined) ≡ 0
  none_joined views id v are at live =
      let own = bears_own v v.number live refl in
      let borne = one_of (λ (u : View T I). times v.number (numbers u)) views id v at in
      let one = at_most_once v.number (length views) (bearers v.number views) (are.once v.number)
      (are.no_other v.number) in
      omega arith

  none_elsewhere : (views : List (View T I)) (id : ℕ) (v : View T I) → AreNumbered views → get_elem? views id ≡ some v
      → v.live ≡ true
      → (j : ℕ) (u : View T I) → j ≢ id → get_elem? views j ≡ some u → times v.number (numbers u) ≡ 0
  none_elsewhere views id v are at live j u apart there =
      let own = bears_own v v.number live refl in
      let both = two_of (λ (x : View T I). times v.number (numbers x)) views j id u v there at apart in
      let one = at_most_once v.number (length views) (bearers v.number views) (are.once v.number)
      (are.no_other v.number) in
      omega arith

  -- the own records after the entry
  own_records : (history : List (Stamped I)) (item : I) (v : View T I) → v.live ≡ true → v.seen ≡ history
      → times v.number (map (λ r. r.number) v.joined) ≡ 0
      → All (HasPositions history) (records v)
      → All (HasPositions (history ++ stamped (Some v.number) item ∷ [])) (records (with_entry item v))
  own_records history item v live seen none_has all = rw live (All-cons
      (HasPositions (history ++ stamped (Some v.number) item ∷ []))
      (record { number = v.number; made = v.made ++ length v.seen ∷ [] }) v.joined
      (ap (λ (l : List (Stamped I)). v.made ++ length l ∷ []) seen
      ∙ ap (λ places. places ++ length history ∷ []) (own_first (HasPositions history) v live all)
      ∙ sym (positions_own v.number history item))
      (records_kept v.number history item v.joined none_has (joined_rest (HasPositions history) v live all)))

  same_numbers : (item : I) (v : View T I) → v.live ≡ true → numbers (with_entry item v) ≡ numbers v
  same_numbers item v live = rw live refl

module _ {T I : Type 0} (list : T → List I) (goes_on : T → T → Type 0) (key : T) where
  marked_ruled : (s : State (Option T) (View T I)) (ruled : IsRuled list goes_on key s) (id : ℕ) (me : Sat T I)
      (item : I)
      → get_elem? s.views id ≡ some me.0 → me.0.live ≡ true → me.0.turn ≡ true → length me.0.seen + 1 < 2 ^ 63
      → IsRuled list goes_on key (stepped s 2 ((get_or s.words 2 0 + 1) % 2 ^ 64) id me.1 (with_entry item me.0) keeps)
  marked_ruled s ruled id me item at live has few =
      let v : View T I = me.0 in
      let w : View T I = with_entry item v in
      let fits = ruled.each id v at in
      let seen : v.seen ≡ ruled.history = (fits.turn has).1 in
      let e : Stamped I = stamped (Some v.number) item in
      let history : List (Stamped I) = ruled.history ++ e ∷ [] in
      let long : length history ≡ length ruled.history + 1 = omega (arith, length-append ruled.history (e ∷ [])) in
      let room : length ruled.history + 1 < 2 ^ 63 = subst (λ (l : List (Stamped I)). length l + 1 < 2 ^ 63) seen few in
      let found : get_or s.words 2 0 ≡ length ruled.history = ap (λ ws. get_or ws 2 0) ruled.words in
      let next : (get_or s.words 2 0 + 1) % 2 ^ 64 ≡ length history = omega arith in
      let wait : waiting (set s.views id w) ≡ waiting s.views = waiting_same s.views id v w at refl in
      let joined_none = none_joined s.views id v ruled.numbered at live in
      record {
        history = history;
        later = ruled.later ++ e ∷ [];
        served = ruled.served;
        words = ap (λ ws. set ws 2 ((get_or s.words 2 0 + 1) % 2 ^ 64)) ruled.words
            ∙ ap (words_of ruled.served (waiting s.views)) next
            ∙ ap (λ n. words_of ruled.served n (length history)) (sym wait);
        few = omega arith;
        tickets = tickets_same ruled.served s.views id v w at refl ruled.tickets;
        numbered = numbered_same s.views id v w at (same_numbers item v live) refl refl refl ruled.numbered;
        each = each_set (Fits key history ruled.served) s.views id w
            record {
              turn = λ is. ((fits.turn is).0, ap (λ l. l ++ e ∷ []) seen);
              spent = λ not_live. absurd (cc);
              seen = subst (λ l. IsFront (l ++ e ∷ []) history) (sym seen) (front_self history);
              told = front_more v.told ruled.history (e ∷ []) fits.told;
              known = let known = fits.known in omega arith;
              made = own_records ruled.history item v live seen joined_none fits.made;
              opening = fits.opening;
            }
            (λ j u apart there.
            let other = ruled.each j u there in
            let none_has = none_elsewhere s.views id v ruled.numbered at live j u apart there in
            record {
              turn = λ is. absurd (not_both list goes_on key s ruled id v j u at there apart has is);
              spent = other.spent;
              seen = front_more u.seen ruled.history (e ∷ []) other.seen;
              told = front_more u.told ruled.history (e ∷ []) other.told;
              known = let known = other.known in omega arith;
              made = records_kept v.number ruled.history item (records u) none_has other.made;
              opening = other.opening;
            });
        longest = (id, (w, set_here s.views id w (at_within s.views id v at), ap (λ l. l ++ e ∷ []) seen));
        at_home = λ none_has. absurd (one_has_turn s.views id v w at has none_has);
        begins = ap (λ l. l ++ e ∷ []) ruled.begins ∙ append_assoc (opened (list key)) ruled.later (e ∷ []);
        makers = subst (λ n. AreMade n (ruled.later ++ e ∷ [])) (sym (length-set s.views id w))
            (All-push (IsMade (length s.views)) ruled.later e ruled.makers
            (v.number, refl, number_below s.views id v ruled.numbered at live));
      }

  pub marks : (slots id : ℕ) (me : Sat T I) (value : T) (item : I) → me.0.live ≡ true → me.0.turn ≡ true
      → me.1 ≡ (0, Some value) ∷ []
      → list value ≡ items me.0.seen ++ item ∷ [] → length me.0.seen + 1 < 2 ^ 63
      → Allows (IsRuled list goes_on key) slots id me 2 (λ n. (n + 1) % 2 ^ 64) (marked list (step slots 2 1 0 none) me)
  marks slots id me value item live has hand stands few s ruled long at small = (
    with_entry item me.0,
    keeps,
    tt,
    marked_ruled s ruled id me item at live has few,
    λ other is_other.
        let same : value ≡ other = in_hand value other me.1 hand is_other in
        (item, ap list (sym same) ∙ stands, refl),
  )

  -- with the value back in the seat's hand
  pub marks_from : (slots id : ℕ) (me : Sat T I) (v : View T I) (value : T) (item : I) → me ≡ (v, (0, Some value) ∷ [])
      → v.live ≡ true → v.turn ≡ true → list value ≡ items v.seen ++ item ∷ [] → length (list value) < 2 ^ 63
      → Allows (IsRuled list goes_on key) slots id me 2 (λ n. (n + 1) % 2 ^ 64) (marked list (step slots 2 1 0 none) me)
  marks_from slots id me v value item is live has stands few =
      let one_more : length (list value) ≡ length v.seen + 1 =
      omega (
        arith,
        ap (λ (l : List I). length l) stands,
        length-append (items v.seen) (item ∷ []),
        length-map v.seen (λ (e : Stamped I). e.item),
      ) in
      rw is (marks slots id (v, (0, Some value) ∷ []) value item live has refl stands (omega arith))
