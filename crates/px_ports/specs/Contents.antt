-- The bytes of a disk in memory, with the record of their moments.
use Rattle.std.specs.Prelude.{◌≡◌, ◌≤◌, ◌⊎◌, ℕ, List, [], ◌∷◌, ◌++◌, length}
use Rattle.px_ports.specs.declared.moment.Moment.{Moment}

pub record ContentsState : Type 0 where
  pub moments : List Moment
  -- how many moments have a place without a growth
  pub room : ℕ

-- one moment more
abbrev pub Adds : Moment → ContentsState → ContentsState → Type 0
Adds moment old new = new.moments ≡ old.moments ++ moment ∷ []

-- one moment more, if there was room for it or memory
abbrev pub AddsIfRoom : Moment → ContentsState → ContentsState → Type 0
AddsIfRoom moment old new =
    Adds moment old new ⊎ ((old.room ≤ length old.moments) × (new.moments ≡ old.moments))
