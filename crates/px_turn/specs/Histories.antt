-- Histories: lists of entries, each with the number of the seat that made it, or with none where it was there at the
-- opening.
use Rattle.std.specs.Prelude.{◌≡◌, ℕ, ◌+◌, ◌<◌, ltb, if◌then◌else◌, List, [], ◌∷◌, ◌++◌, map, length, Option, Some, None}
use Rattle.std.specs.List.{All}
use Rattle.px_value.specs.General.{is_number}
use Rattle.px_turn.specs.declared.view.Record.{Record}
use Rattle.px_turn.specs.declared.view.Stamped.{Stamped}

module _ {A : Type 0} where
  -- a list begins with this one
  abbrev pub IsFront : List A → List A → Type 0
  IsFront front whole = (rest : List A) × (whole ≡ front ++ rest)

  -- the longer of two lists
  abbrev pub longer : List A → List A → List A
  longer xs ys = if ltb (length xs) (length ys) then ys else xs

  -- the other one
  abbrev pub shorter : List A → List A → List A
  shorter xs ys = if ltb (length xs) (length ys) then xs else ys

module _ {I : Type 0} where
  abbrev pub stamped : Option ℕ → I → Stamped I
  stamped maker item = record { maker = maker; item = item }

  -- the entries without their numbers
  abbrev pub items : List (Stamped I) → List I
  items history = map (λ e. e.item) history

  -- the history at the opening
  abbrev pub opened : List I → List (Stamped I)
  opened list = map (λ item. stamped None item) list

  -- the positions of the entries that carry a number, where the first entry's is `at`
  abbrev pub positions_from : ℕ → ℕ → List (Stamped I) → List ℕ
  positions_from number at [] = []
  positions_from number at (e ∷ history) =
      if is_number e.maker number then at ∷ positions_from number (at + 1) history
      else positions_from number (at + 1) history

  abbrev pub positions : ℕ → List (Stamped I) → List ℕ
  positions number history = positions_from number 0 history

  -- the record has the positions of the entries that carry its number
  abbrev pub HasPositions : List (Stamped I) → Record → Type 0
  HasPositions history r = r.made ≡ positions r.number history

  -- an entry carries a number, and one below this
  abbrev pub IsMade : ℕ → Stamped I → Type 0
  IsMade below e = (number : ℕ) × (e.maker ≡ Some number) × (number < below)

  -- each entry does
  abbrev pub AreMade : ℕ → List (Stamped I) → Type 0
  AreMade below history = All (IsMade below) history
