-- What each step tells the caller whose seat takes it.
use Rattle.std.specs.Prelude.{◌≡◌, ◌≢◌, ℕ, ◌%◌, ◌^◌, ◌≤◌, List, [], ◌∷◌, ◌++◌, length, Option, Some}
use Rattle.atomic_table.specs.Table.{Me, Step, rest}
use Rattle.px_turn.specs.declared.view.Stamped.{Stamped}
use Rattle.px_turn.specs.declared.view.View.{View}
use Rattle.px_turn.specs.Histories.{IsFront, items, positions}
use Rattle.px_turn.specs.Views.{with_ticket, with_turn, without_turn, with_entry, with_known, GoesOn}

-- a seat's view, and the slots that it has taken
abbrev pub Sat : Type 0 → Type 0 → Type 0
Sat T I = Me (Option T) (View T I)

module _ {T I : Type 0} where
  -- a ticket was taken, whose last 64 bits were found
  abbrev pub queued : Step (Option T) → Sat T I → ℕ → Sat T I → Type 0
  queued st m found m' = (ticket : ℕ) × (ticket % 2 ^ 64 ≡ found) × (m' ≡ (with_ticket ticket m.0, m.1))

  -- what is shown to a seat that has got the turn
  pub record IsShown (list : T → List I) (goes_on : T → T → Type 0) (v : View T I) (history : List (Stamped I))
      (value : T) : Type 0 where
    pub stands : list value ≡ items history
    pub goes_on_with : GoesOn goes_on v value
    pub begins : IsFront v.seen history
    pub known : v.known ≤ length history
    pub made : v.made ≡ positions v.number history

  -- the seat's ticket is served: it has the turn and the slot; or it isn't
  abbrev pub looked : (T → List I) → (T → T → Type 0) → Step (Option T) → Sat T I → ℕ → Sat T I → Type 0
  looked list goes_on st m found m' = (ticket : ℕ) → m.0.ticket ≡ Some ticket
      → (ticket % 2 ^ 64 ≡ found
      → (history : List (Stamped I)) × (value : T) × (m' ≡ (with_turn history m.0, (0, Some value) ∷ m.1))
      × IsShown list goes_on m.0 history value)
      × (ticket % 2 ^ 64 ≢ found → m' ≡ m)

  -- the entry is counted by which the value in the seat's hand is longer than what was seen
  abbrev pub marked : (T → List I) → Step (Option T) → Sat T I → ℕ → Sat T I → Type 0
  marked list st m found m' = (value : T) → m.1 ≡ (0, Some value) ∷ []
      → (item : I) × (list value ≡ items m.0.seen ++ item ∷ []) × (m' ≡ (with_entry item m.0, m.1))

  -- the next is called, and the slot given back
  abbrev pub called : Step (Option T) → Sat T I → ℕ → Sat T I → Type 0
  called st m found m' = m' ≡ (without_turn m.0, rest m.1)

  -- so many entries there are
  abbrev pub counted : Step (Option T) → Sat T I → ℕ → Sat T I → Type 0
  counted st m found m' = (m' ≡ (with_known found m.0, m.1)) × (length m.0.seen ≤ found) × (m.0.known ≤ found)

  -- of two fronts of the history the shorter is one of the longer
  abbrev pub compared : Step (Option T) → Sat T I → ℕ → Sat T I → Type 0
  compared st m found m' = (m' ≡ m) × (length m.0.told ≤ length m.0.seen → IsFront m.0.told m.0.seen)
