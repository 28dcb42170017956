-- A file that a command reads: what it may be, what it spells, and how it is refused.
use Rattle.std.specs.Prelude.{◌≡◌, ◌⊎◌, ◌<◌, ◌≤◌, ℕ, List, length, Some, IsSomeAnd}
use Rattle.std.specs.Option.{ForSome}
use Rattle.px_ports.specs.Host.{Files, file_at}
use Rattle.px_ending.specs.Ending.{Ending, read_fault}
use Rattle.px_output.specs.View.{View}

-- A kind of files: how many bytes one may have, what its bytes spell, and the endings by which a command refuses one that is
-- too long, or whose bytes spell nothing.
pub record FileKind (A : Type 0) : Type 1 where
  pub limit : ℕ
  pub too_long : Ending
  pub Spells : List ℕ → A → Type 0
  pub Refuses : List ℕ → Ending → Type 0

-- the same kind, where its text is asked for too
abbrev pub with_text : {A : Type 0} → FileKind A → FileKind (List ℕ × A)
with_text kind = record {
  limit = kind.limit;
  too_long = kind.too_long;
  Spells = λ bytes part. (part.0 ≡ bytes) × kind.Spells bytes part.1;
  Refuses = kind.Refuses;
}

-- what a file is to the program: its content, more than the program takes, or nothing that can be read
pub data Seen : Type 0 where
  Content : (bytes : List ℕ) → Seen
  Longer : Seen
  Unreadable : Seen

-- What was seen of a file that may have so many bytes: where the host tells its files, it is so. None is unreadable but
-- where its count rose.
abbrev pub Shows : ℕ → View → View → List ℕ → Seen → Type 0
Shows limit old new name (Content bytes) =
    (length bytes ≤ limit) × ForSome old.files (λ files. file_at files name ≡ Some bytes)
Shows limit old new name Longer =
    ForSome old.files (λ files. IsSomeAnd (file_at files name) (λ bytes. limit < length bytes))
Shows limit old new name Unreadable = old.read_faults name < new.read_faults name

-- ---- what was seen, as a file of a kind

abbrev pub Spells : {A : Type 0} → FileKind A → Seen → A → Type 0
Spells kind (Content bytes) part = kind.Spells bytes part
Spells kind Longer part = ⊥
Spells kind Unreadable part = ⊥

abbrev pub Refuses : {A : Type 0} → FileKind A → Seen → Ending → Type 0
Refuses kind (Content bytes) ending = kind.Refuses bytes ending
Refuses kind Longer ending = ending ≡ kind.too_long
Refuses kind Unreadable ending = ending ≡ read_fault

-- the file of this name was read, and spells this
abbrev pub Reads : {A : Type 0} → FileKind A → View → View → List ℕ → A → Type 0
Reads kind old new name part = (seen : Seen) × Shows kind.limit old new name seen × Spells kind seen part

-- the file of this name is longer than its kind allows, or its bytes spell nothing
abbrev pub IsRefusedAs : {A : Type 0} → FileKind A → View → View → List ℕ → Type 0
IsRefusedAs kind old new name =
    Shows kind.limit old new name Longer
    ⊎ ((bytes : List ℕ) × (ending : Ending) × Shows kind.limit old new name (Content bytes) × kind.Refuses bytes ending)

-- ---- files that a host tells

-- the file of this name spells this
abbrev pub Holds : {A : Type 0} → FileKind A → Files → List ℕ → A → Type 0
Holds kind files name part =
    (bytes : List ℕ) × (file_at files name ≡ Some bytes) × (length bytes ≤ kind.limit) × kind.Spells bytes part

-- the file of this name is too long, or spells nothing
abbrev pub HoldsNone : {A : Type 0} → FileKind A → Files → List ℕ → Type 0
HoldsNone kind files name =
    (bytes : List ℕ) × (file_at files name ≡ Some bytes)
    × ((kind.limit < length bytes) ⊎ ((ending : Ending) × kind.Refuses bytes ending))
