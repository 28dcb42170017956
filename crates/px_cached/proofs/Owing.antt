-- What all that is noted costs, with one more and one less.
use Rattle.std.proofs.Common.{◌≡◌, ℕ, ◌+◌, ◌<◌, ◌≤◌, Bool, true, false, List, [], ◌∷◌, ◌++◌, length, set, drop, slice_get, Some, sum_by, ap, ◌∙◌, arith, if◌then◌else◌}
use Rattle.std.proofs.lemmas.List.{get_or-set_same}
use Rattle.std.proofs.lemmas.List.Sums.{sum_by-cons, sum_by_push}
use Rattle.px_links.specs.Links.{LinksData, first_of, popped, pushed}
use Rattle.px_links.specs.Lists.{nth}
use Rattle.px_cached.specs.Costs.{in_all}

module _ (cost : ℕ → ℕ) where
  pub in_all-pushed : (links : LinksData) (cell : ℕ) (is_new : Bool) → 0 < length links.lists
      → in_all cost (if is_new then pushed links 0 cell else links) ≤ in_all cost links + cost cell
  in_all-pushed links cell false some = omega arith
  in_all-pushed links cell true some =
      let list = nth links.lists 0 in
      omega (
        arith,
        ap (sum_by cost) (get_or-set_same links.lists 0 (list ++ cell ∷ []) [] some),
        sum_by_push cost list cell,
      )

  popped_in : (lists : List (List ℕ)) (cell : ℕ) → slice_get (nth lists 0) 0 ≡ Some cell
      → sum_by cost (nth lists 0) ≡ cost cell + sum_by cost (nth (set lists 0 (drop 1 (nth lists 0))) 0)
  popped_in [] cell first = absurd (cc)
  popped_in ([] ∷ lists) cell first = absurd (cc)
  popped_in ((head ∷ list) ∷ lists) cell first =
      let same : head ≡ cell = cc in
      sum_by-cons cost head list ∙ ap (λ cell. cost cell + sum_by cost list) same

  pub in_all-popped : (links : LinksData) (cell : ℕ) → first_of links 0 ≡ Some cell
      → in_all cost links ≡ cost cell + in_all cost (popped links 0)
  in_all-popped links cell first = popped_in links.lists cell first
