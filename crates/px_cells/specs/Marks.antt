-- The values at the mark, by the old value that is kept beside each or not.
use Rattle.std.specs.Prelude.{◌≡◌, ℕ, Bool, false, nat_eq, List, [], ◌∷◌, slice_index_or, slice_get, Option, None, is_some}
use Rattle.std.specs.List.{list_any}
use Rattle.std.specs.Option.{unwrap_or}

module _ {T : Type 0} where
  -- the old value where it is kept, and else the present one
  abbrev pub at_mark : List (Option T) → List T → List T
  at_mark [] values = []
  at_mark (old ∷ olds) [] = []
  at_mark (old ∷ olds) (value ∷ values) = unwrap_or old value ∷ at_mark olds values

  -- an old value is kept exactly at the changed numbers
  abbrev pub AreNoted : List (Option T) → List ℕ → Type 0
  AreNoted olds changed = (at : ℕ) → is_some (slice_index_or olds at None) ≡ list_any (nat_eq at) changed

  -- no old value is kept
  abbrev pub NoneKept : List (Option T) → Type 0
  NoneKept olds = (at : ℕ) → is_some (slice_index_or olds at None) ≡ false

-- a flag stands exactly at the noted numbers
abbrev pub AreFlagged : List Bool → List ℕ → Type 0
AreFlagged flags numbers = (at : ℕ) → slice_index_or flags at false ≡ list_any (nat_eq at) numbers

-- what isn't news is as it was seen
abbrev pub IsAsSeen : {T : Type 0} → List T → List T → List ℕ → Type 0
IsAsSeen values seen news = (at : ℕ) → list_any (nat_eq at) news ≡ false → slice_get values at ≡ slice_get seen at
