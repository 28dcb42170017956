-- Faults that are noted part by part along a list.
use Rattle.std.proofs.Common.{◌≡◌, ℕ, ◌+◌, ◌<◌, ◌≤◌, List, [], ◌∷◌, ◌++◌, drop, length, get_or, sym, ap, ◌∙◌}
use Rattle.std.proofs.Math.ListN.{drop_of_length-le}
use Rattle.px_value.proofs.General.{cut_at}
use Rattle.px_syntax.specs.Fault.{Fault}
use Rattle.px_check.specs.Found.{Sought, noted}
use Rattle.px_check.proofs.Noting.{noted_append, noted_none}

-- at faults of what is left of a list, where the first part's stand before those of the others
module _ {X : Type 0} (faults_of : List X → List Fault) (part_of : X → List Fault)
    (splits : (x : X) (xs : List X) → faults_of (x ∷ xs) ≡ part_of x ++ faults_of xs)
    (xs : List X) (place : ℕ) where
  -- one part more
  pub part_walked : (x : X) (found new : Sought) → place < length xs → x ≡ get_or xs place x
      → new ≡ noted found (part_of x)
      → noted new (faults_of (drop (place + 1) xs)) ≡ noted found (faults_of (drop place xs))
  part_walked x found new within is own =
      let rest = drop (place + 1) xs in
      ap (λ between. noted between (faults_of rest)) own ∙ sym (noted_append found (part_of x) (faults_of rest))
      ∙ ap (noted found) (sym (splits x rest)) ∙ ap (λ left. noted found (faults_of left)) (sym (cut_at xs place x within is))

-- no part is left
pub all_walked : {X : Type 0} (faults_of : List X → List Fault) (xs : List X) (place : ℕ) (found : Sought)
    → faults_of [] ≡ [] → length xs ≤ place → found ≡ noted found (faults_of (drop place xs))
all_walked faults_of xs place found none past =
    sym (noted_none found) ∙ ap (noted found) (sym none)
    ∙ ap (λ left. noted found (faults_of left)) (sym (drop_of_length-le xs past))
