-- What a seat of a desk knows, and what calls tell it.
use Rattle.std.specs.Prelude.{◌≡◌, ◌≢◌, ◌≤◌, ◌<◌, ℕ, List, [], ◌∷◌, ◌++◌, map, length, Some}
use Rattle.std.specs.List.{All}
use Rattle.px_turn.specs.Histories.{IsFront, stamped, items, opened, positions, AreMade}
use Rattle.px_turn.specs.Rule.{times}
use Rattle.px_turn.specs.declared.view.Stamped.{Stamped}
use Rattle.px_desk.specs.declared.listing.Listing.{Listing}

-- WHAT A SEAT KNOWS: its number; the list as far as it was seen, each entry with the number of the seat that made it; the
-- positions of those that this seat made; and how many entries the list had at least.
pub record Seating : Type 0 where
  pub number : ℕ
  pub seen : List (Stamped Listing)
  pub made : List ℕ
  pub known : ℕ

-- of a seat at the opening over a list
abbrev pub newcomer : List Listing → ℕ → Seating
newcomer list number = record { number = number; seen = opened list; made = []; known = 0 }

-- the list that a call found begins with all that the seat had seen, and has as many entries as it knew of
pub record Finds (old : Seating) (found : List (Stamped Listing)) : Type 0 where
  pub begins : IsFront old.seen found
  pub known : old.known ≤ length found

-- the seat has seen the list that was found, and made nothing
pub record IsLooked (old new : Seating) : Type 0 where
  pub finds : Finds old new.seen
  pub same : new ≡ record old { seen = new.seen }

-- behind the list that was found it has made an entry, at that position
pub record Adds (old new : Seating) (item : Listing) : Type 0 where
  pub found : List (Stamped Listing)
  pub finds : Finds old found
  pub same : new ≡ record old {
    seen = found ++ stamped (Some old.number) item ∷ [];
    made = old.made ++ length found ∷ [];
  }

-- it made just the entries that carry its number
abbrev pub HasMade : Seating → Type 0
HasMade s = s.made ≡ positions s.number s.seen

-- so many entries the list has, at least as many as were seen or known of
pub record Counts (old new : Seating) (count : ℕ) : Type 0 where
  pub seen : length old.seen ≤ count
  pub known : old.known ≤ count
  pub same : new ≡ record old { known = count }

-- the numbers of so many seats, the first one's at the front
abbrev pub AreAll : ℕ → List ℕ → Type 0
AreAll count [] = ⊥
AreAll count (front ∷ others) =
    (front ≡ 0) × All (λ number. number ≢ 0) others × (length (front ∷ others) ≡ count)

-- ONE HISTORY of all seats. The list goes on from the one at the opening, begins with what each seat has seen, and has as
-- many entries as it knew of; each has made just those that carry its number, and each later one carries the number of
-- just one of them.
pub record IsOneHistory (first : List Listing) (seats : List Seating) (list : List Listing) : Type 0 where
  pub whole : List (Stamped Listing)
  pub later : List (Stamped Listing)
  pub stands : items whole ≡ list
  pub begins : whole ≡ opened first ++ later
  pub seen : All (λ s. IsFront s.seen whole) seats
  pub known : All (λ s. s.known ≤ length whole) seats
  pub made : All (λ s. s.made ≡ positions s.number whole) seats
  pub makers : AreMade (length seats) later
  pub once : (number : ℕ) → number < length seats → times number (map (λ s. s.number) seats) ≡ 1
