-- First rows.
use Rattle.std.proofs.Common.{◌≡◌, ℕ, zero, suc, ◌<◌, Bool, true, false, List, [], ◌∷◌, ◌++◌, Some, None, refl, ap, ◌∙◌, arith}
use Rattle.std.specs.List.{list_any}
use Rattle.std.specs.Option.{option_or}
use Rattle.std.proofs.lemmas.List.Recursion.{found_at}
use Rattle.px_value.specs.declared.enums.NodeState.TheVariants.{Inactive}
use Rattle.px_value.proofs.General.{lookup-append}
use Rattle.px_sem.specs.declared.guards.Arrival.{Arrival}
use Rattle.px_sem.specs.Table.{Row, first_row, to}
use Rattle.px_tables.specs.Deciding.{row_at, Decides}

-- the first row of a front, where there is one, and else that of what is behind it
pub first_row-append : (front back : List Row) → first_row (front ++ back) ≡ option_or (first_row front) (first_row back)
first_row-append front back = lookup-append (λ (holds : Bool). holds) front back

-- ---- the row that decides

pub deciding : (rows : List Row) (arrival : Arrival) → first_row rows ≡ Some arrival
    → (i : ℕ) × Decides rows i × ((row_at rows i).1 ≡ arrival)
deciding [] arrival h = cc
deciding ((true, a) ∷ rows) arrival h =
    (0, record { within = omega arith; holds = refl; before = λ j lt. absurd (omega arith) }, cc)
deciding ((false, a) ∷ rows) arrival h =
    let later = deciding rows arrival h in
    (suc later.0, behind later.0 later.1, later.2)
  where
    behind : (i : ℕ) → Decides rows i → Decides ((false, a) ∷ rows) (suc i)
    behind i d = record { within = omega (arith, d.within); holds = d.holds; before = before }
      where
        before : (j : ℕ) → j < suc i → (row_at ((false, a) ∷ rows) j).0 ≡ false
        before zero lt = refl
        before (suc j) lt = d.before j (omega arith)

pub decided : (rows : List Row) (arrival : Arrival) (i : ℕ) → Decides rows i → (row_at rows i).1 ≡ arrival
    → first_row rows ≡ Some arrival
decided rows arrival i d is =
    found_at first_row (λ row. row.0) (λ row. Some row.1) None refl (λ row rows. refl) rows i (false, to Inactive)
    d.within d.before d.holds ∙ ap Some is

-- ---- none

pub none_holds : (rows : List Row) → first_row rows ≡ None → list_any (λ row. row.0) rows ≡ false
none_holds [] h = refl
none_holds ((true, a) ∷ rows) h = cc
none_holds ((false, a) ∷ rows) h = none_holds rows h

pub nowhere : (rows : List Row) → list_any (λ row. row.0) rows ≡ false → first_row rows ≡ None
nowhere [] h = refl
nowhere ((true, a) ∷ rows) h = cc
nowhere ((false, a) ∷ rows) h = nowhere rows h
