-- What a seat of a desk shows as a board.
use Rattle.std.specs.Prelude.{◌≡◌, ℕ, List, filter, Option}
use Rattle.std.specs.Option.{option_map}
use Rattle.px_value.specs.General.{is_number}
use Rattle.px_event.specs.declared.entry.Entry.{Entry}
use Rattle.px_exec.specs.declared.closing.Failed.{Failed}
use Rattle.px_sem.specs.Log.{posted_in}
use Rattle.px_turn.specs.Histories.{IsFront, items}
use Rattle.px_turn.specs.declared.view.Stamped.{Stamped}
use Rattle.px_desk.specs.Listing.{Start, log_in, failed_in}
use Rattle.px_desk.specs.Seating.{Seating, HasMade}
use Rattle.px_desk.specs.declared.listing.Listing.{Listing}
use Rattle.px_crew.specs.Board.{Board}

-- the entries of a list that carry a number
abbrev pub own : ℕ → List (Stamped Listing) → List Listing
own number list = items (filter (λ e. is_number e.maker number) list)

-- the entry of a failed append
abbrev pub entry_in : Option Failed → Option Entry
entry_in failed = option_map (λ failed. failed.entry) failed

-- all that it has seen is shown; what carries its number was made through it
abbrev pub board_of : Start → Seating → Board
board_of start s = record {
  plan = start.plan;
  first = start.first;
  log = log_in (items s.seen);
  failed = entry_in (failed_in (items s.seen));
  made = posted_in (log_in (own s.number s.seen));
  broke = entry_in (failed_in (own s.number s.seen));
}

-- The seat has kept its number and seen more, or the same; it made just the entries that carry its number.
pub record HasGoneOn (old new : Seating) : Type 0 where
  pub number : new.number ≡ old.number
  pub seen : IsFront old.seen new.seen
  pub made : HasMade new
