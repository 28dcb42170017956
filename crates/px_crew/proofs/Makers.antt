-- A list whose entries were each made by one of so many seats: the entries that carry a seat's number are those of the
-- seat's thread.
use Rattle.std.proofs.Common.{◌≡◌, ◌≢◌, ℕ, ◌<◌, Bool, true, false, List, [], ◌∷◌, filter, length, get_or, Option, Some, inl, inr, refl, sym, ap, ◌∙◌, eq-eqb, ne_eqb}
use Rattle.std.specs.List.{All, Contains}
use Rattle.std.proofs.lemmas.Bool.{cases_eq}
use Rattle.std.proofs.lemmas.List.Elements.{All-nil, All-cons, All-head, All-tail, Contains-get_or}
use Rattle.px_value.specs.General.{is_number}
use Rattle.px_value.proofs.General.{All-unmap}
use Rattle.px_event.specs.declared.entry.Entry.{Entry}
use Rattle.px_exec.specs.declared.closing.Failed.{Failed}
use Rattle.px_script.specs.Follows.{HasOnly}
use Rattle.px_script.specs.Remainder.{entries_of}
use Rattle.px_script.specs.declared.todo.Todo.{Todo}
use Rattle.px_sem.specs.Log.{posted_in}
use Rattle.px_sem.specs.declared.log.LogEntry.{LogEntry}
use Rattle.px_turn.specs.Histories.{items, AreMade}
use Rattle.px_turn.specs.declared.view.Stamped.{Stamped}
use Rattle.px_desk.specs.Listing.{log_in, failed_in}
use Rattle.px_desk.specs.declared.listing.Listing.{Listing}
use Rattle.px_desk.specs.declared.listing.Listing.TheVariants as listings
use Rattle.px_crew.specs.Seat.{own}
use Rattle.px_script.proofs.Thins.{All-unfilter}
use Rattle.px_crew.proofs.Listings.{own_yes, own_no}

-- where it was answered
abbrev pub OfAnswered : (Entry → Type 0) → Listing → Type 0
OfAnswered P (listings.Answered logged) = P logged.entry
OfAnswered P (listings.Failed entry faults) = Unit {0}

-- what holds of the answered entries of a list holds of each of them
each_answered : (P : Entry → Type 0) (list : List Listing) → All P (posted_in (log_in list)) → All (OfAnswered P) list
each_answered P [] all = All-nil (OfAnswered P)
each_answered P (listings.Answered logged ∷ list) all =
    All-cons (OfAnswered P) (listings.Answered logged) list (All-head P logged.entry (posted_in (log_in list)) all)
    (each_answered P list (All-tail P logged.entry (posted_in (log_in list)) all))
each_answered P (listings.Failed entry faults ∷ list) all = All-cons (OfAnswered P) (listings.Failed entry faults) list tt (each_answered P list all)

-- of a seat's too
own_each : (P : Entry → Type 0) (number : ℕ) (list : List (Stamped Listing)) → All P (posted_in (log_in (own number list)))
    → All (λ e. is_number e.maker number ≡ true → OfAnswered P e.item) list
own_each P number list all =
    let mine = λ (e : Stamped Listing). is_number e.maker number in
    All-unfilter (λ (e : Stamped Listing). OfAnswered P e.item) mine list
    (All-unmap (OfAnswered P) (λ (e : Stamped Listing). e.item) (filter mine list) (each_answered P (own number list) all))

module _ (threads : List Todo) where
  -- an entry was made by one of the seats, and where it was answered, on that seat's thread
  pub record IsMadeFor (e : Stamped Listing) : Type 0 where
    pub number : ℕ
    pub maker : e.maker ≡ Some number
    pub within : number < length threads
    pub thread : (d : Todo) → OfAnswered (λ entry. entry.thread ≡ (get_or threads number d).thread) e.item

  pub are_made_for : (later : List (Stamped Listing)) → AreMade (length threads) later
      → ((j : ℕ) (d : Todo) → j < length threads → All (λ entry. entry.thread ≡ (get_or threads j d).thread) (posted_in (log_in (own j later))))
      → All IsMadeFor later
  are_made_for later makers made k e within =
      let one = makers k e within in
      record {
        number = one.0;
        maker = one.1;
        within = one.2;
        thread = λ d.
            own_each (λ (entry : Entry). entry.thread ≡ (get_or threads one.0 d).thread) one.0 later (made one.0 d one.2) k e within
            (ap (λ (maker : Option ℕ). is_number maker one.0) one.1 ∙ eq-eqb one.0 one.0 refl);
      }

  -- ---- the entries of a thread are those of its seat

  module _ (differ : (i j : ℕ) (d : Todo) → i < length threads → j < length threads → j ≢ i → (get_or threads i d).thread ≢ (get_or threads j d).thread) where
    pub entries_made : (list : List (Stamped Listing)) → All IsMadeFor list → (i : ℕ) (d : Todo) → i < length threads
        → entries_of (get_or threads i d).thread (posted_in (log_in (items list))) ≡ posted_in (log_in (own i list))
    entries_made [] all i d within = refl
    entries_made (e ∷ list) all i d within =
        let made = All-head IsMadeFor e list all in
        by e.item made.number made.maker made.within (made.thread d) (entries_made list (All-tail IsMadeFor e list all) i d within)
      where
        by : (item : Listing) (number : ℕ) → e.maker ≡ Some number → number < length threads
            → OfAnswered (λ entry. entry.thread ≡ (get_or threads number d).thread) item
            → entries_of (get_or threads i d).thread (posted_in (log_in (items list))) ≡ posted_in (log_in (own i list))
            → entries_of (get_or threads i d).thread (posted_in (log_in (item ∷ items list))) ≡ posted_in (log_in (own i (record { maker = e.maker; item = item } ∷ list)))
        by (listings.Answered logged) number maker below thread others = elim (cases_eq number i) [
          | inl same ↦
              rw (eq-eqb logged.entry.thread (get_or threads i d).thread (thread ∙ ap (λ (k : ℕ). (get_or threads k d).thread) same))
              (ap (λ (entries : List Entry). logged.entry ∷ entries) others
              ∙ ap (λ (l : List Listing). posted_in (log_in l))
              (sym (own_yes i (record { maker = e.maker; item = listings.Answered logged }) list
              (ap (λ (maker : Option ℕ). is_number maker i) maker ∙ eq-eqb number i same))))
          | inr apart ↦
              rw (ne_eqb logged.entry.thread (get_or threads i d).thread (λ same. differ i number d within below apart (sym same ∙ thread)))
              (others
              ∙ ap (λ (l : List Listing). posted_in (log_in l))
              (sym (own_no i (record { maker = e.maker; item = listings.Answered logged }) list
              (ap (λ (maker : Option ℕ). is_number maker i) maker ∙ ne_eqb number i apart))))
        ]
        by (listings.Failed entry faults) number maker below thread others = elim (cases_eq number i) [
          | inl same ↦
              others
              ∙ ap (λ (l : List Listing). posted_in (log_in l))
              (sym (own_yes i (record { maker = e.maker; item = listings.Failed entry faults }) list
              (ap (λ (maker : Option ℕ). is_number maker i) maker ∙ eq-eqb number i same)))
          | inr apart ↦
              others
              ∙ ap (λ (l : List Listing). posted_in (log_in l))
              (sym (own_no i (record { maker = e.maker; item = listings.Failed entry faults }) list
              (ap (λ (maker : Option ℕ). is_number maker i) maker ∙ ne_eqb number i apart)))
        ]

  -- ---- all are of the threads

  pub only_made : (list : List (Stamped Listing)) → All IsMadeFor list → HasOnly threads (log_in (items list))
  only_made [] all = All-nil (λ (logged : LogEntry). (todo : Todo) × Contains threads todo × (todo.thread ≡ logged.entry.thread))
  only_made (e ∷ list) all =
      let made = All-head IsMadeFor e list all in
      by e.item made.number made.within made.thread (only_made list (All-tail IsMadeFor e list all))
    where
      by : (item : Listing) (number : ℕ) → number < length threads → ((d : Todo) → OfAnswered (λ entry. entry.thread ≡ (get_or threads number d).thread) item)
          → HasOnly threads (log_in (items list)) → HasOnly threads (log_in (item ∷ items list))
      by (listings.Answered logged) number below thread others =
          let d : Todo = record { thread = 0; lines = [] } in
          All-cons (λ (logged : LogEntry). (todo : Todo) × Contains threads todo × (todo.thread ≡ logged.entry.thread)) logged (log_in (items list))
          (get_or threads number d, Contains-get_or threads number d below, sym (thread d)) others
      by (listings.Failed entry faults) number below thread others = others

  -- ---- a failed append was made by one of the seats

  pub failed_made : (list : List (Stamped Listing)) → All IsMadeFor list → (failed : Failed) → failed_in (items list) ≡ Some failed
      → (j : ℕ) × (j < length threads) × (failed_in (own j list) ≡ Some failed)
  failed_made [] all failed is = absurd (cc)
  failed_made (e ∷ list) all failed is =
      let made = All-head IsMadeFor e list all in
      by e.item made.number made.maker made.within is (λ is. failed_made list (All-tail IsMadeFor e list all) failed is)
    where
      by : (item : Listing) (number : ℕ) → e.maker ≡ Some number → number < length threads → failed_in (item ∷ items list) ≡ Some failed
          → (failed_in (items list) ≡ Some failed → (j : ℕ) × (j < length threads) × (failed_in (own j list) ≡ Some failed))
          → (j : ℕ) × (j < length threads) × (failed_in (own j (record { maker = e.maker; item = item } ∷ list)) ≡ Some failed)
      by (listings.Answered logged) number maker below is others =
          let one = others is in (
            one.0,
            one.1,
            behind one.0 (is_number e.maker one.0) refl one.2,
          )
        where
          behind : (j : ℕ) (b : Bool) → is_number e.maker j ≡ b → failed_in (own j list) ≡ Some failed
              → failed_in (own j (record { maker = e.maker; item = listings.Answered logged } ∷ list)) ≡ Some failed
          behind j true is failed = ap failed_in (own_yes j (record { maker = e.maker; item = listings.Answered logged }) list is) ∙ failed
          behind j false is failed = ap failed_in (own_no j (record { maker = e.maker; item = listings.Answered logged }) list is) ∙ failed
      by (listings.Failed entry faults) number maker below is others = (
        number,
        below,
        ap failed_in
            (own_yes number (record { maker = e.maker; item = listings.Failed entry faults }) list
            (ap (λ (maker : Option ℕ). is_number maker number) maker ∙ eq-eqb number number refl))
            ∙ is,
      )
