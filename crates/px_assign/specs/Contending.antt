-- Who of those that want a variable goes first.
use Rattle.std.specs.Prelude.{◌≡◌, ℕ, Bool, true, false, not, ◌&&◌, ◌||◌, nat_eq, List, Option, Some, None, if◌then◌else◌}
use Rattle.std.specs.List.{list_any}
use Rattle.px_value.specs.General.{is_number}
use Rattle.px_core.specs.Plan.{Site}
use Rattle.px_assign.specs.Conflicts.{of_variable, writes, goes_before}

-- a writer among these, before which none of them goes
pub record GoesFirst (plan : List Site) (variable : ℕ) (nodes : List ℕ) (first : ℕ) : Type 0 where
  pub among : list_any (nat_eq first) nodes ≡ true
  pub writer : writes plan variable first ≡ true
  pub before : list_any (λ other. writes plan variable other && goes_before plan other first) nodes ≡ false

-- the one that goes first, or none where no node writes the variable
abbrev pub IsFirst : List Site → ℕ → List ℕ → Option ℕ → Type 0
IsFirst plan variable nodes None = list_any (writes plan variable) nodes ≡ false
IsFirst plan variable nodes (Some first) = GoesFirst plan variable nodes first

-- the one that goes first, where one more node wants the variable
abbrev pub better : List Site → ℕ → Option ℕ → Option ℕ
better plan node None = Some node
better plan node (Some other) = if goes_before plan node other then Some node else Some other

abbrev pub claimed : List Site → ℕ → ℕ → Option ℕ → Option ℕ
claimed plan variable node first = if writes plan variable node then better plan node first else first

-- a node stays: its variable is held, or another node goes first
abbrev pub stays : (ℕ → Bool) → (ℕ → Option ℕ) → ℕ → Option ℕ → Bool
stays held first node variable =
    of_variable (λ variable. held variable || not (is_number (first variable) node)) variable
