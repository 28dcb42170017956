-- Seats that are dealt out, and gathered again.
use Rattle.std.proofs.Common.{◌≡◌, ℕ, ◌+◌, ◌≤◌, max, List, [], ◌∷◌, ◌++◌, map, length, sym, ap, ◌∙◌, arith}
use Rattle.std.specs.List.{range_with_len}
use Rattle.std.proofs.lemmas.List.{length-map, map-append}
use Rattle.std.proofs.lemmas.List.Elements.{All-push, All-weaker}
use Rattle.std.proofs.lemmas.List.FromFn.{length-map-range_with_len, map-range_with_len_more}
use Rattle.px_turn.specs.Histories.{IsFront}
use Rattle.px_turn.specs.Views.{record_of, split_once_more, split_off, joined}
use Rattle.px_turn.specs.declared.view.Record.{Record}
use Rattle.px_turn.specs.declared.view.View.{View}
use Rattle.px_turn.proofs.Fronts.{front_trans}
use Rattle.px_desk.specs.Seating.{Seating, newcomer}
use Rattle.px_desk.specs.Seats.{split_times, split_from, HasTaken}
use Rattle.px_desk.specs.declared.listing.Listing.{Listing}

pub seats_count : {S : Type 0} (seating : S → Seating) (first : List Listing) (seats : List S) (n : ℕ)
    → map seating seats ≡ map (newcomer first) (range_with_len 0 n) → length seats ≡ n
seats_count seating first seats n seated =
    sym (length-map seats seating) ∙ ap (λ (l : List Seating). length l) seated ∙ length-map-range_with_len (newcomer first) 0 n

module _ {T I : Type 0} where
  -- one seat more is split off
  pub split_more : (v front seat : View T I) (views : List (View T I)) (count : ℕ)
      → front ≡ split_times count v → views ≡ split_from v count → seat ≡ split_off front
      → views ++ seat ∷ [] ≡ split_from v (count + 1)
  split_more v front seat views count is before given =
      ap (λ (w : View T I). views ++ w ∷ []) (given ∙ ap split_off is)
      ∙ ap (λ (l : List (View T I)). l ++ split_off (split_times count v) ∷ []) before
      ∙ sym (map-range_with_len_more (λ k. split_off (split_times k v)) 0 count count (omega arith))

  pub split_again : (v front after : View T I) (count : ℕ) → front ≡ split_times count v → after ≡ split_once_more front
      → after ≡ split_times (count + 1) v
  split_again v front after count is kept = kept ∙ ap split_once_more is

  -- one more is taken in
  pub taken_more : (front : View T I) (others : List (View T I)) (v w after : View T I) → HasTaken front others v → w.joined ≡ []
      → after ≡ joined v w → IsFront v.seen after.seen → IsFront w.seen after.seen → HasTaken front (others ++ w ∷ []) after
  taken_more front others v w after taken alone is begins begins_too =
      let known : after.known ≡ max v.known w.known = ap (λ (u : View T I). u.known) is in
      let now : View T I → View T I
      = λ u. record u { seen = after.seen; told = after.told; known = after.known; joined = after.joined } in
      record {
        same = ap now is ∙ ap now taken.same;
        joined = ap (λ (u : View T I). u.joined) is
            ∙ ap (λ (l : List Record). l ++ record_of w ∷ w.joined) taken.joined
            ∙ ap (λ (l : List Record). map record_of others ++ record_of w ∷ l) alone
            ∙ sym (map-append record_of others (w ∷ []));
        seen = All-push (λ (u : View T I). IsFront u.seen after.seen) (front ∷ others) w
            (All-weaker (λ (u : View T I). IsFront u.seen v.seen) (λ (u : View T I). IsFront u.seen after.seen)
            (λ u front_of. front_trans u.seen v.seen after.seen front_of begins) (front ∷ others) taken.seen)
            begins_too;
        known = All-push (λ (u : View T I). u.known ≤ after.known) (front ∷ others) w
            (All-weaker (λ (u : View T I). u.known ≤ v.known) (λ (u : View T I). u.known ≤ after.known)
            (λ u low. omega (arith, low, known)) (front ∷ others) taken.known)
            (omega (arith, known));
      }
