-- The moments of a disk, and what a crash at each of them may leave.
use Rattle.std.specs.Prelude.{◌≡◌, ◌<◌, ◌≤◌, ◌+◌, ℕ, max, List, ◌++◌, length, take, drop, slice_index}
use Rattle.px_ports.specs.declared.moment.Moment.{Moment}

-- what a crash at the end of these moments may leave, each possible content of the file being an image
abbrev pub Images : Type 1
Images = List Moment → List ℕ → Type 0

-- an image that a crash at one of the moments from t on might have left
abbrev pub LeftSince : Images → List Moment → ℕ → List ℕ → Type 0
LeftSince images moments t image =
    (now : ℕ) × (t ≤ now) × (now ≤ length moments) × images (take now moments) image

-- the file with these bytes at this place, over what was there and past its end
abbrev pub overwritten : ℕ → List ℕ → List ℕ → List ℕ
overwritten at bytes old = take at old ++ bytes ++ drop (at + length bytes) old

-- THE RULE BETWEEN TWO SYNCS. After n bytes are written at this place, a crash may leave any bytes in their range and
-- past the old end, and any length from the old to the new one; every other byte stays.
pub record Torn (at n : ℕ) (old new : List ℕ) : Type 0 where
  pub no_shorter : length old ≤ length new
  pub no_longer : length new ≤ max (length old) (at + n)
  pub below : (i : ℕ) → i < at → i < length old → slice_index new i ≡ slice_index old i
  pub above : (i : ℕ) → at + n ≤ i → i < length old → slice_index new i ≡ slice_index old i

-- a call adds moments, and at each moment of it a crash leaves what the step makes of an image from before it
pub record Elapses (images : Images) (step : List ℕ → List ℕ → Type 0)
    (old new : List Moment) : Type 0 where
  pub grows : take (length old) new ≡ old
  pub each : (image : List ℕ) → LeftSince images new (length old) image
      → (before : List ℕ) × images old before × step before image

-- the step of a call that writes nothing
abbrev pub Stays : List ℕ → List ℕ → Type 0
Stays old new = new ≡ old
