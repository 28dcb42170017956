-- What a desk over an executive is, and its seats.
use Rattle.std.specs.Prelude.{◌≡◌, ◌+◌, ℕ, [], Option, Some}
use Rattle.atomic_table.specs.declared.shared.Seat.{Seat}
use Rattle.px_exec.specs.Executive.{Executive}
use Rattle.px_turn.specs.Seats.{view, IsOut}
use Rattle.px_turn.specs.Seats.{IsSeatOf as IsSeatOfTurn}
use Rattle.px_turn.specs.declared.view.View.{View}
use Rattle.px_desk.specs.Seating.{Seating}
use Rattle.px_desk.specs.declared.event_desk.EventDesk.{EventDesk}
use Rattle.px_desk.specs.declared.listing.Listing.{Listing}

-- a seat of a turn whose value is an executive, and what it knows
abbrev pub ViewOf : Type 0 → Type 0 → Type 0
ViewOf S D = View (Executive S D) Listing

abbrev pub SeatOf : Type 0 → Type 0 → Type 0
SeatOf S D = Seat (Option (Executive S D)) (ViewOf S D)

module _ {S D : Type 0} where
  -- of what a seat of a turn knows, what a desk tells of it
  abbrev pub seating_of : ViewOf S D → Seating
  seating_of v = record { number = v.number; seen = v.seen; made = v.made; known = v.known }

  abbrev pub seating : SeatOf S D → Seating
  seating seat = seating_of (view seat)

  -- the executive with which a desk was opened
  abbrev pub opened_with : EventDesk S D → Executive S D
  opened_with desk = desk.opened.value

  -- how many seats it has
  abbrev pub count_of : EventDesk S D → ℕ
  count_of desk = desk.seats.value

  -- a view at a turn over this value, of which no other seat was taken in, and which was split once for each further seat
  abbrev pub IsSeated : Executive S D → ℕ → ViewOf S D → Type 0
  IsSeated exec count v =
      (v.opening ≡ Some exec) × (v.joined ≡ []) × (v.number ≡ 0 → v.splits + 1 ≡ count)

  -- a seat of the desk, without the turn
  pub record IsSeatOf (desk : EventDesk S D) (seat : SeatOf S D) :
      Type 0 where
    pub of_turn : IsSeatOfTurn desk.turn seat
    pub out : IsOut seat
    pub seated : IsSeated (opened_with desk) (count_of desk) (view seat)
