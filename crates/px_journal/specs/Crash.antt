-- What a crash at a moment of a call may leave of a journal.
use Rattle.std.specs.Prelude.{◌≡◌, ◌≤◌, ◌⊎◌, ℕ, List, [], ◌∷◌, ◌++◌, length, take, Result, OnOk, IsTrue}
use Rattle.std.specs.Option.{option_map, ForSome}
use Rattle.px_event.specs.declared.entry.Entry.{Entry}
use Rattle.px_event.specs.declared.named.NamedEntry.{NamedEntry}
use Rattle.px_ports.specs.Disk.{Told}
use Rattle.px_ports.specs.Moment.{Images, LeftSince, overwritten, Torn, Elapses}
use Rattle.px_ports.specs.declared.disk.DiskFault.{DiskFault}
use Rattle.px_ports.specs.declared.moment.Moment.{Moment}
use Rattle.px_journal.specs.Layout.{Stands, StandsAs, is_nothing}
use Rattle.px_journal.specs.declared.version.Version.{Version}

-- a write and then a sync: at Ok they are written and nothing else is left; whatever the answer, a crash may tear the
-- range and nothing else
pub record Puts (images : Images) (at : ℕ) (bytes : List ℕ) (old new : Told) (before now : List Moment)
    (result : Result Unit DiskFault) : Type 0 where
  pub written : OnOk result (new ≡ option_map (overwritten at bytes) old)
  pub synced : OnOk result (ForSome new (λ told. (image : List ℕ) → images now image → image ≡ told))
  pub elapses : Elapses images (Torn at (length bytes)) before now

-- the bytes are nothing, or they stand for some text and history
abbrev pub IsNothingOrStands : List ℕ → Type 0
IsNothingOrStands bytes =
    IsTrue (is_nothing bytes) ⊎ ((text : List ℕ) × (history : List Entry) × Stands bytes text history)

-- the bytes stand for the text, and for the history with the entry or without it
abbrev pub WithOrWithout : List ℕ → List Entry → Entry → List ℕ → Type 0
WithOrWithout text history entry bytes = Stands bytes text history ⊎ Stands bytes text (history ++ entry ∷ [])

-- the same in one version, with the names
abbrev pub WithOrWithoutAs : Version → List ℕ → List NamedEntry → NamedEntry → List ℕ → Type 0
WithOrWithoutAs version text named next bytes =
    StandsAs version bytes text named ⊎ StandsAs version bytes text (named ++ next ∷ [])

-- the bytes are an image from before, or nothing, or they stand for the text and the empty history
abbrev pub OldOrNew : (List ℕ → Type 0) → List ℕ → List ℕ → Type 0
OldOrNew old text bytes = old bytes ⊎ (IsTrue (is_nothing bytes) ⊎ Stands bytes text [])

-- the same in one version
abbrev pub OldOrNewAs : Version → (List ℕ → Type 0) → List ℕ → List ℕ → Type 0
OldOrNewAs version old text bytes = old bytes ⊎ (IsTrue (is_nothing bytes) ⊎ StandsAs version bytes text [])

-- a call adds moments, and a crash at each of them leaves only such images
pub record LeavesOnly (images : Images) (left : List ℕ → Type 0) (old new : List Moment) : Type 0 where
  pub grows : take (length old) new ≡ old
  pub each : (image : List ℕ) → LeftSince images new (length old) image → left image

-- each image since t stands for the text and a list that begins with this one
abbrev pub KeptSince :
    {X : Type 0} → (List ℕ → List ℕ → List X → Type 0) → Images → ℕ → List ℕ → List X → List Moment → Type 0
KeptSince {X} Stand images t text front moments =
    (image : List ℕ) → LeftSince images moments t image → (later : List X) × Stand image text (front ++ later)

-- for a history
abbrev pub KeepsSince : Images → ℕ → List ℕ → List Entry → List Moment → Type 0
KeepsSince = KeptSince Stands

-- what each image since some moment keeps, it keeps after the call too
abbrev pub KeepsHistories : Images → List Moment → List Moment → Type 0
KeepsHistories images old new =
    (t : ℕ) → t ≤ length old → (text : List ℕ) (front : List Entry)
    → KeepsSince images t text front old → KeepsSince images t text front new

-- the same of a journal of one version, with the names of its entries
abbrev pub KeepsSinceAs : Version → Images → ℕ → List ℕ → List NamedEntry → List Moment → Type 0
KeepsSinceAs version = KeptSince (StandsAs version)

abbrev pub KeepsNames : Images → List Moment → List Moment → Type 0
KeepsNames images old new =
    (t : ℕ) → t ≤ length old → (version : Version) (text : List ℕ) (front : List NamedEntry)
    → KeepsSinceAs version images t text front old → KeepsSinceAs version images t text front new
