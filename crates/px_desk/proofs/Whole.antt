-- All seats of a desk: as they are dealt out, and once they are gathered again.
use Rattle.std.proofs.Common.{◌≡◌, ◌≢◌, ℕ, zero, suc, ◌+◌, ◌-◌, ◌<◌, ◌≤◌, true, if◌then◌else◌, List, [], ◌∷◌, map, length, get_or, Some, refl, sym, ap, ◌∙◌, subst, arith, All}
use Rattle.std.specs.List.{range_with_len, remove}
use Rattle.std.proofs.lemmas.List.{length-map}
use Rattle.std.proofs.lemmas.List.Elements.{All-cons, All-head, All-tail, All-map, All-weaker}
use Rattle.std.proofs.lemmas.List.FromFn.{length-map-range_with_len}
use Rattle.std.proofs.lemmas.Simd.{map-map}
use Rattle.px_exec.specs.Executive.{Executive}
use Rattle.px_turn.specs.Histories.{IsFront, positions, HasPositions, AreMade}
use Rattle.px_turn.specs.Rule.{times}
use Rattle.px_turn.specs.Seats.{view, IsOut}
use Rattle.px_turn.specs.Seats.{IsSeatOf as IsSeatOfTurn, IsWhole as IsWholeOfTurn}
use Rattle.px_turn.specs.Views.{record_of, records, numbers, split_off}
use Rattle.px_turn.specs.Views.{newcomer as newcomer_of_turn}
use Rattle.px_turn.specs.declared.view.Record.{Record}
use Rattle.px_desk.specs.EventDesk.{ViewOf, SeatOf, seating_of, seating, opened_with, count_of, IsSeated, IsSeatOf}
use Rattle.px_desk.specs.declared.event_desk.EventDesk.{EventDesk}
use Rattle.px_desk.specs.Listing.{listing}
use Rattle.px_desk.specs.Seating.{Seating, newcomer, AreAll, IsOneHistory}
use Rattle.px_desk.specs.Seats.{split_times, split_from, views_of, HasTaken}
use Rattle.px_value.proofs.General.{cut_at, All-unmap}
use Rattle.px_desk.proofs.Shown.{goes_on}

-- ---- lists

-- numbers from the next one on
range_more : {X : Type 0} (f : ℕ → X) (from count : ℕ)
    → map (λ k. f (k + 1)) (range_with_len from count) ≡ map f (range_with_len (from + 1) count)
range_more f from zero = refl
range_more f from (suc count) = ap (λ l. f (from + 1) ∷ l) (range_more f (from + 1) count)

map_range : {X : Type 0} (f : ℕ → X) (count : ℕ) → 1 ≤ count
    → f 0 ∷ map (λ k. f (k + 1)) (range_with_len 0 (count - 1)) ≡ map f (range_with_len 0 count)
map_range f zero least = absurd (omega arith)
map_range f (suc count) least =
    ap (λ n. f 0 ∷ map (λ k. f (k + 1)) (range_with_len 0 n)) (omega arith)
    ∙ ap (λ l. f 0 ∷ l) (range_more f 0 count ∙ ap (λ k. map f (range_with_len k count)) (omega arith))

-- a list in two, its first element and the rest
pub in_two : {X : Type 0} (xs rest : List X) (x : X) → 0 < length xs → x ≡ get_or xs 0 x → rest ≡ remove xs 0 → xs ≡ x ∷ rest
in_two xs rest x long first others = cut_at xs 0 x long first ∙ ap (λ l. x ∷ l) (sym others)

pub some_seat : {X : Type 0} (number : X → ℕ) (count : ℕ) (seats : List X) → AreAll count (map number seats) → 0 < length seats
some_seat number count [] all = absurd all
some_seat number count (seat ∷ seats) all = omega arith

-- ---- dealt out

module _ {S D : Type 0} (exec : Executive S D) (count : ℕ) (least : 1 ≤ count) where
  abbrev first_view : ViewOf S D
  first_view = newcomer_of_turn listing exec

  pub seated_all : All (IsSeated exec count) (views_of (newcomer_of_turn listing exec) count)
  seated_all =
      All-cons (IsSeated exec count) (split_times (count - 1) first_view) (split_from first_view (count - 1))
      (refl, refl, λ is. omega arith)
      (All-map (IsSeated exec count) (λ k. split_off (split_times k first_view)) (range_with_len 0 (count - 1))
      (λ k d low. (refl, refl, λ is. absurd (omega (arith, is)))))

  pub seatings_all : map seating_of (views_of (newcomer_of_turn listing exec) count) ≡ map (newcomer (listing exec)) (range_with_len 0 count)
  seatings_all =
      ap (λ (l : List Seating). newcomer (listing exec) 0 ∷ l)
      (map-map seating_of (λ k. split_off (split_times k first_view)) (range_with_len 0 (count - 1)))
      ∙ map_range (newcomer (listing exec)) count least

  pub numbers_all : AreAll count (map (λ (v : ViewOf S D). v.number) (views_of (newcomer_of_turn listing exec) count))
  numbers_all = (
    refl,
    All-map (λ number. number ≢ 0) (λ (v : ViewOf S D). v.number) (split_from first_view (count - 1))
        (All-map (λ (v : ViewOf S D). v.number ≢ 0) (λ k. split_off (split_times k first_view)) (range_with_len 0 (count - 1))
        (λ k d low is. omega (arith, is))),
    let long = length-map (split_from first_view (count - 1)) (λ (v : ViewOf S D). v.number) in
        let longs = length-map-range_with_len (λ k. split_off (split_times k first_view)) 0 (count - 1) in
        omega (arith, long, longs),
  )

module _ {S D : Type 0} (exec : Executive S D) (count : ℕ) (least : 1 ≤ count)
    (list : List (SeatOf S D))
    (views : map view list ≡ views_of (newcomer_of_turn listing exec) count) where
  pub seats_fit : (desk : EventDesk S D) → opened_with desk ≡ exec → count_of desk ≡ count
      → All (λ seat. IsSeatOfTurn desk.turn seat × IsOut seat) list → All (IsSeatOf desk) list
  seats_fit desk opened many own k d low = record {
    of_turn = (own k d low).0;
    out = (own k d low).1;
    seated = subst (λ (e : Executive S D). IsSeated e (count_of desk) (view (get_or list k d))) (sym opened)
        (subst (λ n. IsSeated exec n (view (get_or list k d))) (sym many)
        (All-unmap (IsSeated exec count) view list (subst (All (IsSeated exec count)) (sym views) (seated_all exec count least)) k d low));
  }

  pub seatings_dealt : map seating list ≡ map (newcomer (listing exec)) (range_with_len 0 count)
  seatings_dealt = sym (map-map seating_of view list) ∙ ap (λ (l : List (ViewOf S D)). map seating_of l) views
      ∙ seatings_all exec count least

  pub numbers_dealt : (many : ℕ) → many ≡ count → AreAll many (map (λ seat. (seating seat).number) list)
  numbers_dealt many is =
      subst (λ n. AreAll n (map (λ seat. (seating seat).number) list)) (sym is)
      (subst (AreAll count)
      (sym (sym (map-map (λ (v : ViewOf S D). v.number) view list)
      ∙ ap (λ (l : List (ViewOf S D)). map (λ (v : ViewOf S D). v.number) l) views))
      (numbers_all exec count least))

-- ---- gathered

module _ {S D : Type 0} (front : ViewOf S D) (others : List (ViewOf S D))
    (v : ViewOf S D) (opened : Executive S D) (count : ℕ) (taken : HasTaken front others v)
    (seated : IsSeated opened count front) (is_first : front.number ≡ 0) (long : length (front ∷ others) ≡ count) where
  splits_are : v.splits + 1 ≡ count
  splits_are = ap (λ (u : ViewOf S D). u.splits + 1) taken.same ∙ seated.2 is_first

  pub all_taken : length v.joined ≡ v.splits
  all_taken =
      let records_long : length v.joined ≡ length others
      = ap (λ (l : List Record). length l) taken.joined ∙ length-map others record_of in
      omega (arith, long, splits_are, records_long)

  opened_still : v.opening ≡ Some opened
  opened_still = ap (λ (u : ViewOf S D). u.opening) taken.same ∙ seated.0

  module _ (value : Executive S D) (live : v.live ≡ true) (whole : IsWholeOfTurn listing goes_on v value) where
    records_are : records v ≡ map record_of (front ∷ others)
    records_are =
        ap (λ b. if b then record_of v ∷ v.joined else []) live
        ∙ ap (λ (r : Record). r ∷ v.joined) (ap record_of taken.same)
        ∙ ap (λ (l : List Record). record_of front ∷ l) taken.joined

    numbers_are : numbers v ≡ map (λ (s : Seating). s.number) (map seating_of (front ∷ others))
    numbers_are =
        ap (λ (l : List Record). map (λ (r : Record). r.number) l) records_are
        ∙ map-map (λ (r : Record). r.number) record_of (front ∷ others)
        ∙ sym (map-map (λ (s : Seating). s.number) seating_of (front ∷ others))

    many : length (map seating_of (front ∷ others)) ≡ v.splits + 1
    many = length-map (front ∷ others) seating_of ∙ long ∙ sym splits_are

    pub whole_of_all : IsOneHistory (listing opened) (map seating_of (front ∷ others)) (listing value)
    whole_of_all = record {
      whole = v.seen;
      later = whole.later;
      stands = sym whole.stands;
      begins = whole.begins opened opened_still;
      seen = All-map (λ (s : Seating). IsFront s.seen v.seen) seating_of (front ∷ others) taken.seen;
      known = All-map (λ (s : Seating). s.known ≤ length v.seen) seating_of (front ∷ others)
          (All-weaker (λ (u : ViewOf S D). u.known ≤ v.known) (λ (u : ViewOf S D). u.known ≤ length v.seen)
          (λ u low. omega (arith, low, whole.known)) (front ∷ others) taken.known);
      made = All-map (λ (s : Seating). s.made ≡ positions s.number v.seen) seating_of (front ∷ others)
          (All-unmap (HasPositions v.seen) record_of (front ∷ others)
          (subst (All (HasPositions v.seen)) records_are whole.made));
      makers = subst (λ n. AreMade n whole.later) (sym many) whole.makers;
      once = λ number low. ap (times number) (sym numbers_are) ∙ whole.once number (omega (arith, low, many));
    }

-- ---- handed in

module _ {S D : Type 0} (desk : EventDesk S D) (seats others : List (SeatOf S D))
    (first : SeatOf S D) (two : seats ≡ first ∷ others)
    (own : All (IsSeatOf desk) seats) (all : AreAll (count_of desk) (map (λ seat. (seating seat).number) seats)) where
  own_two : All (IsSeatOf desk) (first ∷ others)
  own_two = subst (All (IsSeatOf desk)) two own

  all_two : AreAll (count_of desk) (map (λ seat. (seating seat).number) (first ∷ others))
  all_two = subst (λ l. AreAll (count_of desk) (map (λ seat. (seating seat).number) l)) two all

  first_seated : IsSeated (opened_with desk) (count_of desk) (view first)
  first_seated = (All-head (IsSeatOf desk) first others own_two).seated

  pub others_later : All (λ seat. ((view seat).number ≢ 0) × ((view seat).joined ≡ [])) others
  others_later k d low = (
    All-unmap (λ number. number ≢ 0) (λ seat. (seating seat).number) others all_two.1 k d low,
    (All-tail (IsSeatOf desk) first others own_two k d low).seated.1,
  )

  all_views : length (view first ∷ map view others) ≡ count_of desk
  all_views = omega (arith, all_two.2, length-map others view, length-map others (λ seat. (seating seat).number))

  module _ (v : ViewOf S D) (taken : HasTaken (view first) (map view others) v) where
    pub has_all : length v.joined ≡ v.splits
    has_all = all_taken (view first) (map view others) v (opened_with desk) (count_of desk) taken first_seated all_two.0 all_views

    pub one_history : (value : Executive S D) → v.live ≡ true → IsWholeOfTurn listing goes_on v value
        → IsOneHistory (listing (opened_with desk)) (map seating seats) (listing value)
    one_history value live whole =
        subst (λ l. IsOneHistory (listing (opened_with desk)) l (listing value))
        (ap (λ (l : List Seating). seating first ∷ l) (map-map seating_of view others) ∙ sym (ap (λ l. map seating l) two))
        (whole_of_all (view first) (map view others) v (opened_with desk) (count_of desk) taken first_seated all_two.0 all_views value live whole)
