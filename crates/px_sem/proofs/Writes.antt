-- The write to one variable among the writes of a step.
use Rattle.std.proofs.Common.{◌≡◌, ℕ, Bool, true, false, ◌&&◌, List, [], ◌∷◌, All, Option, Some, None, refl, sym, subst, if◌then◌else◌}
use Rattle.std.specs.Cmp.Lexicographic.{same_text}
use Rattle.std.specs.Option.{ForSome}
use Rattle.std.proofs.lemmas.Bool.{and_parts}
use Rattle.std.proofs.lemmas.List.Elements.{All-head, All-tail}
use Rattle.px_core.specs.Plan.{is_same}
use Rattle.px_sem.specs.Effects.{Write, write_to}

-- a write that has this, to the variable of this name
abbrev pub IsTo : (Write → Type 0) → List ℕ → List ℕ → Write → Type 0
IsTo P owner name write = P write × (write.owner ≡ owner) × (write.name ≡ name)

-- the write to a variable is to it, and has what all have
pub found_to : (P : Write → Type 0) (owner name : List ℕ) (writes : List (Option Write)) → All (λ write. ForSome write P) writes
    → ForSome (write_to owner name writes) (IsTo P owner name)
found_to P owner name [] all = λ write none. absurd (cc none)
found_to P owner name (None ∷ writes) all = found_to P owner name writes (All-tail (λ write. ForSome write P) None writes all)
found_to P owner name (Some first ∷ writes) all =
    by (is_same first.owner owner && is_same first.name name) refl
    (found_to P owner name writes (All-tail (λ write. ForSome write P) (Some first) writes all))
  where
    by : (b : Bool) → (is_same first.owner owner && is_same first.name name) ≡ b
        → ForSome (write_to owner name writes) (IsTo P owner name)
        → ForSome (if b then Some first else write_to owner name writes) (IsTo P owner name)
    by true is rest = λ write same.
        let one : first ≡ write = cc same in
        let both = and_parts (is_same first.owner owner) (is_same first.name name) is in
        subst (IsTo P owner name) one (
          All-head (λ write. ForSome write P) (Some first) writes all first refl,
          same_text first.owner owner (sym both.0),
          same_text first.name name (sym both.1),
        )
    by false is rest = rest
