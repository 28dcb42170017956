-- What a look at one node changes.
use Rattle.std.specs.Prelude.{◌≡◌, ℕ, Bool, List, [], ◌++◌}
use Rattle.std.specs.List.{cons_option}
use Rattle.px_assign.specs.Claims.{with_wanting}
use Rattle.px_parts.specs.declared.parts.Parts.{Parts}
use Rattle.px_micro.specs.declared.sight.Going.{Going}
use Rattle.px_micro.specs.Going.{with_node}
use Rattle.px_machine.specs.declared.kept.Kept.{Kept}
use Rattle.px_machine.specs.Still.{claims_now, free_arrival, is_marked}

-- with the mark of one node
abbrev pub with_mark : Kept → ℕ → Bool → Kept
with_mark kept node wants = record kept { claims = with_wanting kept.claims node wants }

-- all is as before but the mark of one node
abbrev pub IsSameButMark : Kept → Kept → ℕ → Type 0
IsSameButMark old new node = (wants : Bool) × (new ≡ with_mark old node wants)

-- its mark is exact, and it goes where it goes without asking for a variable
pub record HasLookedAt (parts : Parts) (kept : Kept) (node : ℕ) (old new : List Going) : Type 0 where
  pub marked : is_marked kept node ≡ claims_now parts kept node
  pub going : new ≡ old ++ cons_option (with_node node (free_arrival parts kept node)) []
