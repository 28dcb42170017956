-- The numbers of what is reported.
use Rattle.std.proofs.Common.{◌≡◌, ℕ, ◌+◌, ◌*◌, ◌<◌, ◌≤◌, not, nat_eq, List, length, Option, Some, None, sym, subst, arith, le-mul_of_pos_right}
use Rattle.std.proofs.Math.Arith.{digits_lt}
use Rattle.std.proofs.lemmas.List.Sums.{prefix_len-le-length}
use Rattle.px_core.specs.Plan.{Site}
use Rattle.px_sem.specs.Tolerances.{tolerances}
use Rattle.px_flat.specs.Layout.{all_cells}
use Rattle.px_flat.specs.Lookups.{lookups_of}
use Rattle.px_flat.specs.Sources.{Reports}
use Rattle.px_cached.specs.Conditions.{all_sources, place_among, source_number}

pub place_within : (tolerances : List ℕ) (tolerance : Option ℕ) → place_among tolerances tolerance ≤ length tolerances
place_within tolerances None = omega arith
place_within tolerances (Some tolerance) = prefix_len-le-length (λ other. not (nat_eq tolerance other)) tolerances

pub report_there : (plan : List Site) (lookup : ℕ) (tolerance : Option ℕ) → lookup < length (lookups_of plan)
    → source_number plan (Reports lookup tolerance) < all_sources plan
report_there plan lookup tolerance inside =
    let place : place_among (tolerances plan) tolerance < length (tolerances plan) + 1 =
    omega (arith, place_within (tolerances plan) tolerance) in
    omega (arith, digits_lt place inside)

-- what is reported is numbered behind all cells
pub report_behind : (plan : List Site) (lookup : ℕ) (tolerance : Option ℕ)
    → all_cells plan ≤ source_number plan (Reports lookup tolerance)
report_behind plan lookup tolerance = omega arith

-- ---- a place as a number of 32 bits, with all that is made of it

module _ (plan : List Site) (lookup : ℕ) (tolerance : Option ℕ) (inside : lookup < length (lookups_of plan)) (place names : ℕ)
    (place_is : place ≡ place_among (tolerances plan) tolerance) (names_is : names ≡ length (lookups_of plan)) where
  pub numbered_there : all_cells plan + (place * names + lookup) < all_sources plan
  numbered_there =
      subst (λ names. all_cells plan + (place * names + lookup) < all_sources plan) (sym names_is)
      (subst (λ place. all_cells plan + (place * length (lookups_of plan) + lookup) < all_sources plan) (sym place_is)
      (report_there plan lookup tolerance inside))

  -- a place is no more than the numbers before it, since a block has some
  pub place_there : place ≤ place * names
  place_there = le-mul_of_pos_right {m = names} place (omega (arith, inside, names_is))
