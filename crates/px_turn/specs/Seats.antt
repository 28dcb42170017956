-- Seats, as contracts speak of them.
use Rattle.std.specs.Prelude.{Some, ◌≡◌, ℕ, ◌+◌, ◌<◌, ◌≤◌, true, false, List, [], ◌∷◌, ◌++◌, Option, None, length}
use Rattle.std.specs.List.{All}
use Rattle.atomic_table.specs.Seated.{TableId}
use Rattle.atomic_table.specs.declared.shared.Seat.{Seat}
use Rattle.px_turn.specs.declared.view.Stamped.{Stamped}
use Rattle.px_turn.specs.declared.view.View.{View}
use Rattle.px_turn.specs.Histories.{items, opened, AreMade, HasPositions}
use Rattle.px_turn.specs.Views.{records, numbers, GoesOn}
use Rattle.px_turn.specs.Rule.{times, total}

module _ {T I : Type 0} where
  -- what the seat knows
  abbrev pub view : Seat (Option T) (View T I) → View T I
  view seat = seat.me.0

  -- a seat of the turn with this name, which wasn't joined into another
  abbrev pub IsSeatOf : TableId → Seat (Option T) (View T I) → Type 0
  IsSeatOf turn seat = (seat.table_id ≡ turn) × ((view seat).live ≡ true)

  -- it doesn't have the turn
  abbrev pub IsOut : Seat (Option T) (View T I) → Type 0
  IsOut seat = (seat.me.1 ≡ []) × ((view seat).ticket ≡ None) × ((view seat).turn ≡ false)

  -- it has the turn
  abbrev pub HasTurn : Seat (Option T) (View T I) → Type 0
  HasTurn seat = (seat.me.1 ≡ (0, None) ∷ []) × ((view seat).turn ≡ true)

  -- The last value stands for the whole history, of which the first seat and those that were joined into it have all
  -- records: the history goes on from the opening, and each later entry was made by one of these seats.
  pub record IsWhole (list : T → List I) (goes_on : T → T → Type 0) (v : View T I) (value : T) : Type 0 where
    pub later : List (Stamped I)
    pub stands : list value ≡ items v.seen
    pub goes_on_with : GoesOn goes_on v value
    pub known : v.known ≤ length v.seen
    pub begins : (opening : T) → v.opening ≡ Some opening → v.seen ≡ opened (list opening) ++ later
    pub makers : AreMade (v.splits + 1) later
    pub made : All (HasPositions v.seen) (records v)
    pub once : (number : ℕ) → number ≤ v.splits → times number (numbers v) ≡ 1

  -- how many of its records a seat has with this position
  abbrev pub makers_at : ℕ → View T I → ℕ
  makers_at position v = total (λ r. times position r.made) (records v)

  -- Each position behind the opening stands in just one of the records, and no other does in any.
  pub record AreMadeOnce (list : T → List I) (v : View T I) (opening : T) : Type 0 where
    pub before : (position : ℕ) → position < length (list opening) → makers_at position v ≡ 0
    pub since : (position : ℕ) → length (list opening) ≤ position → position < length v.seen → makers_at position v ≡ 1
    pub behind : (position : ℕ) → length v.seen ≤ position → makers_at position v ≡ 0
