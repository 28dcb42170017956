-- Workers that were engaged with the seats of a desk.
use Rattle.std.proofs.Common.{◌≡◌, ℕ, suc, ◌<◌, ◌≤◌, List, [], ◌∷◌, ◌++◌, map, length, get_or, refl, sym, ap, ◌∙◌, subst, arith}
use Rattle.std.specs.List.{zip, All, range_with_len}
use Rattle.std.proofs.lemmas.List.{length-map, get_or-map}
use Rattle.std.proofs.lemmas.List.FromFn.{get_or-map-range_with_len}
use Rattle.std.proofs.lemmas.Simd.{map-map}
use Rattle.std.proofs.lemmas.Slice.Zip.{get_or-zip, length-zip, firsts-zip, seconds-zip}
use Rattle.px_script.specs.declared.todo.Todo.{Todo}
use Rattle.px_script.specs.declared.worker.WorkEnd.TheVariants as works
use Rattle.px_script.specs.declared.worker.Worker.{Worker}
use Rattle.px_turn.proofs.Positions.{positions_opened}
use Rattle.px_desk.specs.Listing.{Start}
use Rattle.px_desk.specs.Seating.{Seating, newcomer, HasMade}
use Rattle.px_desk.specs.declared.listing.Listing.{Listing}
use Rattle.px_desk.proofs.Dealing.{seats_count}
use Rattle.px_crew.specs.Work.{workers_of, places_of, AreReady, HaveWorked}

module _ {S : Type 0} where
  abbrev pub engaged : S → ℕ → Worker S
  engaged seat at = record { seat = seat; at = at; end = works.Going }

  abbrev engaged_with : S × ℕ → Worker S
  engaged_with one = engaged one.0 one.1

  -- one more
  pub engaged_more : (seats : List S) (seat : S) (places : List ℕ) → length seats < length places
      → workers_of (seats ++ seat ∷ []) places ≡ workers_of seats places ++ engaged seat (get_or places (length seats) 0) ∷ []
  engaged_more [] seat [] within = absurd (omega arith)
  engaged_more [] seat (at ∷ places) within = refl
  engaged_more (s ∷ seats) seat [] within = absurd (omega arith)
  engaged_more (s ∷ seats) seat (at ∷ places) within = ap (λ (workers : List (Worker S)). engaged s at ∷ workers) (engaged_more seats seat places (omega arith))

  pub engaged_length : (seats : List S) (places : List ℕ) → length seats ≡ length places → length (workers_of seats places) ≡ length seats
  engaged_length seats places same = length-map (zip seats places) engaged_with ∙ omega (arith, same, length-zip seats places)

  pub engaged_places : (seats : List S) (places : List ℕ) → length seats ≡ length places → places_of (workers_of seats places) ≡ places
  engaged_places seats places same =
      map-map (λ (worker : Worker S). worker.at) engaged_with (zip seats places) ∙ seconds-zip seats places (sym same)

  pub engaged_seats : (seats : List S) (places : List ℕ) → length seats ≡ length places → map (λ worker. worker.seat) (workers_of seats places) ≡ seats
  engaged_seats seats places same =
      map-map (λ (worker : Worker S). worker.seat) engaged_with (zip seats places) ∙ firsts-zip seats places (sym same)

  engaged_at : (seats : List S) (places : List ℕ) (i : ℕ) (e : Worker S) → length seats ≡ length places → i < length seats
      → get_or (workers_of seats places) i e ≡ engaged (get_or seats i e.seat) (get_or places i 0)
  engaged_at seats places i e same within =
      get_or-map engaged_with (zip seats places) i (e.seat, 0) e (omega (arith, same, within, length-zip seats places))
      ∙ ap engaged_with (get_or-zip seats places i (e.seat, 0) within (omega (arith, same, within)))

  module _ (start : Start) (fits : S → Type 0) (seating : S → Seating) (first : List Listing) (seats : List S) (n : ℕ)
      (seated : map seating seats ≡ map (newcomer first) (range_with_len 0 n)) where
    counted : length seats ≡ n
    counted = seats_count seating first seats n seated

    seated_at : (i : ℕ) (s : S) → i < n → seating (get_or seats i s) ≡ newcomer first i
    seated_at i s within =
        sym (get_or-map seating seats i s (seating s) (omega (arith, counted)))
        ∙ ap (λ (l : List Seating). get_or l i (seating s)) seated
        ∙ get_or-map-range_with_len (newcomer first) 0 n i i (seating s) within (omega arith)

    module _ (threads : List Todo) (places : List ℕ) (as_many : n ≡ length threads) (same : length places ≡ length threads) where
      counts : length seats ≡ length places
      counts = counted ∙ as_many ∙ sym same

      pub engaged_came : (i : ℕ) (e : Worker S) → i < length threads → seating (get_or (workers_of seats places) i e).seat ≡ newcomer first i
      engaged_came i e within =
          ap (λ (w : Worker S). seating w.seat) (engaged_at seats places i e counts (omega (arith, counts, same)))
          ∙ seated_at i e.seat (omega (arith, as_many))

      pub engaged_ready : All fits seats → ((i : ℕ) (d : Todo) → i < length threads → get_or places i 0 ≤ length (get_or threads i d).lines)
          → AreReady start fits seating threads (workers_of seats places)
      engaged_ready own within_lines = record {
        same = engaged_length seats places counts ∙ counts ∙ same;
        each = λ i d e within.
            let is = engaged_at seats places i e counts (omega (arith, counts, same)) in
            record {
              own = subst (λ (w : Worker S). fits w.seat) (sym is) (own i e.seat (omega (arith, counts, same)));
              made = subst (λ (s : Seating). HasMade s) (sym (engaged_came i e within)) (sym (positions_opened i 0 first));
              going = ap (λ (w : Worker S). w.end) is;
              within = subst (λ (w : Worker S). w.at ≤ length (get_or threads i d).lines) (sym is) (within_lines i d within);
            };
      }

  -- ---- once they have worked

  module _ (start : Start) (fits : S → Type 0) (seating : S → Seating) (threads : List Todo) (olds news : List (Worker S)) (same : length olds ≡ length threads)
      (worked : HaveWorked start fits seating threads olds news) where
    pub own_still : All fits (map (λ worker. worker.seat) news)
    own_still k s within =
        let d : Todo = record { thread = 0; lines = [] } in
        let below : k < length threads = omega (arith, within, length-map news (λ (worker : Worker S). worker.seat), worked.same, same) in
        let e : Worker S = engaged s 0 in
        subst fits (sym (get_or-map (λ (worker : Worker S). worker.seat) news k e s (omega (arith, below, worked.same, same)))) (worked.each k d e below).own

    pub numbers_still : map (λ worker. (seating worker.seat).number) news ≡ map (λ worker. (seating worker.seat).number) olds
    numbers_still = by threads olds news same worked.same (λ i d e within. (worked.each i d e within).on.number)
      where
        by : (threads : List Todo) (olds news : List (Worker S)) → length olds ≡ length threads → length news ≡ length olds
            → ((i : ℕ) (d : Todo) (e : Worker S) → i < length threads → (seating (get_or news i e).seat).number ≡ (seating (get_or olds i e).seat).number)
            → map (λ (worker : Worker S). (seating worker.seat).number) news ≡ map (λ (worker : Worker S). (seating worker.seat).number) olds
        by threads [] [] same as_long stays = refl
        by threads [] (v ∷ news) same as_long stays = absurd (omega arith)
        by threads (w ∷ olds) [] same as_long stays = absurd (omega arith)
        by [] (w ∷ olds) (v ∷ news) same as_long stays = absurd (omega arith)
        by (todo ∷ threads) (w ∷ olds) (v ∷ news) same as_long stays =
            ap (λ (n : ℕ). n ∷ map (λ (worker : Worker S). (seating worker.seat).number) news) (stays 0 todo w (omega arith))
            ∙ ap (λ (ns : List ℕ). (seating w.seat).number ∷ ns) (by threads olds news (omega arith) (omega arith) (λ i d e within. stays (suc i) d e (omega arith)))
