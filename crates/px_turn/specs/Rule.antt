-- The rule of seats, which holds between any two steps.
use Rattle.std.specs.Prelude.{◌≡◌, ℕ, ◌+◌, ◌%◌, ◌^◌, ◌<◌, ◌≤◌, Bool, true, false, is_some, nat_eq, if◌then◌else◌, List, [], ◌∷◌, ◌++◌, length, Option, Some}
use Rattle.std.specs.List.{All}
use mathlib.Core.Option.{some}
use lib.ListN.{get_elem?}
use Rattle.atomic_table.specs.Table.{State}
use Rattle.px_value.specs.General.{is_number}
use Rattle.px_turn.specs.declared.view.Stamped.{Stamped}
use Rattle.px_turn.specs.declared.view.View.{View}
use Rattle.px_turn.specs.Histories.{IsFront, items, opened, AreMade, HasPositions}
use Rattle.px_turn.specs.Views.{records, numbers}

-- 1 where it is so
abbrev pub one_if : Bool → ℕ
one_if b = if b then 1 else 0

module _ {A : Type 0} where
  -- f of each, added up
  abbrev pub total : (A → ℕ) → List A → ℕ
  total f [] = 0
  total f (x ∷ xs) = f x + total f xs

-- how often a number is in a list
abbrev pub times : ℕ → List ℕ → ℕ
times number list = total (λ other. one_if (nat_eq other number)) list

-- TICKET, SERVING and COUNT, while so many tickets are held from the one that is served on
abbrev pub words_of : ℕ → ℕ → ℕ → List ℕ
words_of served held count = ((served + held) % 2 ^ 64) ∷ (served % 2 ^ 64) ∷ count ∷ []

module _ {T I : Type 0} where
  -- how many seats hold a ticket
  abbrev pub waiting : List (View T I) → ℕ
  waiting views = total (λ v. one_if (is_some v.ticket)) views

  -- how many seats hold this ticket
  abbrev pub holders : ℕ → List (View T I) → ℕ
  holders ticket views = total (λ v. one_if (is_number v.ticket ticket)) views

  -- how many seats have this number, or a record with it
  abbrev pub bearers : ℕ → List (View T I) → ℕ
  bearers number views = total (λ v. times number (numbers v)) views

  -- The tickets that seats hold are just the numbers from the one that is served up to the next one to be given, and
  -- no two seats hold one.
  pub record AreTickets (served : ℕ) (views : List (View T I)) : Type 0 where
    pub below : (ticket : ℕ) → ticket < served → holders ticket views ≡ 0
    pub between : (ticket : ℕ) → served ≤ ticket → ticket < served + waiting views → holders ticket views ≡ 1
    pub above : (ticket : ℕ) → served + waiting views ≤ ticket → holders ticket views ≡ 0

  -- There are at most eight seats. Each number below that of the seats stands in one record just, and no other number
  -- in any. The first seat has number 0 and is never joined into another.
  pub record AreNumbered (views : List (View T I)) : Type 0 where
    pub few : length views ≤ 8
    pub once : (number : ℕ) → number < length views → bearers number views ≡ 1
    pub no_other : (number : ℕ) → length views ≤ number → bearers number views ≡ 0
    pub recorded : total (λ v. length (numbers v)) views ≡ length views
    pub first : (v : View T I) → get_elem? views 0 ≡ some v
        → (v.live ≡ true) × (v.number ≡ 0) × (v.splits + 1 ≡ length views)

  -- What a seat knows is so of the history. Who has the turn has seen all of it; a seat that was joined into another
  -- has seen nothing.
  pub record Fits (key : T) (history : List (Stamped I)) (served : ℕ) (v : View T I) : Type 0 where
    pub turn : v.turn ≡ true → (v.ticket ≡ Some served) × (v.seen ≡ history)
    pub spent : v.live ≡ false → (v.turn ≡ false) × (v.seen ≡ [])
    pub seen : IsFront v.seen history
    pub told : IsFront v.told history
    pub known : v.known ≤ length history
    pub made : All (HasPositions history) (records v)
    pub opening : v.live ≡ true → v.opening ≡ Some key

  abbrev pub HaveNoTurn : List (View T I) → Type 0
  HaveNoTurn views = (j : ℕ) (v : View T I) → get_elem? views j ≡ some v → v.turn ≡ false

  module _ (list : T → List I) (goes_on : T → T → Type 0) (key : T) where
    -- The slot is at home with a value that stands for the history and goes on with the one at the opening.
    pub record IsHome (history : List (Stamped I)) (s : State (Option T) (View T I)) : Type 0 where
      pub value : T
      pub home : get_elem? s.homes 0 ≡ some (some (Some value))
      pub stands : list value ≡ items history
      pub goes_on_with : goes_on key value

    -- The history is that of the opening and what seats have made since. COUNT is its length, the tickets are served in
    -- order, and where nobody has the turn the value in the slot stands for it.
    pub record IsRuled (s : State (Option T) (View T I)) : Type 0 where
      pub history : List (Stamped I)
      pub later : List (Stamped I)
      pub served : ℕ
      pub words : s.words ≡ words_of served (waiting s.views) (length history)
      pub few : length history < 2 ^ 63
      pub tickets : AreTickets served s.views
      pub numbered : AreNumbered s.views
      pub each : (j : ℕ) (v : View T I) → get_elem? s.views j ≡ some v → Fits key history served v
      pub longest : (j : ℕ) × ((v : View T I) × (get_elem? s.views j ≡ some v) × (v.seen ≡ history))
      pub at_home : HaveNoTurn s.views → IsHome history s
      pub begins : history ≡ opened (list key) ++ later
      pub makers : AreMade (length s.views) later
