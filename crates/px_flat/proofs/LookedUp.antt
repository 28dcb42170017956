-- Lookup names and tolerances that are added one after another.
use Rattle.std.proofs.Common.{◌≡◌, ℕ, ◌+◌, ◌<◌, List, [], ◌∷◌, ◌++◌, length, get_or, take, fold, Option, Some, None, refl, ap, ◌∙◌, ◌≤◌, map, sym, arith}
use Rattle.std.specs.List.{cons_option, flat_map}
use Rattle.std.proofs.lemmas.Grind.{common_steps}
use Rattle.std.proofs.lemmas.List.Folds.{flat_map-map}
use Rattle.std.proofs.lemmas.List.{take_all}
use Rattle.px_core.specs.Expr.{Term, in_turn}
use Rattle.px_sem.specs.Tolerances.{tolerances_in, tolerances_in_each, with_tolerance}
use Rattle.px_flat.specs.Lookups.{lookups_in, lookups_in_each}
-- std's, by a name that a function's search can be given
pub use Rattle.std.proofs.lemmas.List.Sums.{fold-append as fold_append}

pub each_lookup : (terms : List Term) → lookups_in_each (in_turn terms) ≡ flat_map lookups_in terms
each_lookup [] = refl
each_lookup (term ∷ terms) = ap (λ rest. lookups_in term ++ rest) (each_lookup terms)

pub each_tolerance : (terms : List Term) → tolerances_in_each (in_turn terms) ≡ flat_map tolerances_in terms
each_tolerance [] = refl
each_tolerance (term ∷ terms) = ap (λ rest. tolerances_in term ++ rest) (each_tolerance terms)

-- a lookup's own tolerance, and then those of its arguments
pub own_then : (tolerances : List ℕ) (own : Option ℕ) (more : List ℕ)
    → fold with_tolerance (fold with_tolerance tolerances (cons_option own [])) more
    ≡ fold with_tolerance tolerances (cons_option own more)
own_then tolerances None more = refl
own_then tolerances (Some own) more = refl

module _ {X Y Z : Type 0} (with_one : Z → Y → Z) (f : X → List Y) (start : Z) where
  -- those of one thing more
  pub one_more : (xs : List X) (i : ℕ) (d : X) → i < length xs
      → fold with_one start (flat_map f (take (i + 1) xs))
      ≡ fold with_one (fold with_one start (flat_map f (take i xs))) (f (get_or xs i d))
  one_more xs i d within = grind (arith, common_steps)

  -- those of all things that others have
  pub all_had : {W : Type 0} (has : W → X) (owners : List W) (i : ℕ) (so_far : Z) → length owners ≤ i
      → so_far ≡ fold with_one start (flat_map (λ owner. f (has owner)) (take i owners))
      → so_far ≡ fold with_one start (flat_map f (map has owners))
  all_had has owners i so_far past is = is
      ∙ ap (λ front. fold with_one start (flat_map (λ owner. f (has owner)) front)) (take_all i owners past)
      ∙ ap (fold with_one start) (sym (flat_map-map f has owners))
