-- The number of each path.
use Rattle.std.proofs.Common.{◌≡◌, ℕ, ◌+◌, ◌<◌, false, List, [], ◌∷◌, ◌++◌, length, get_or, take, refl, ap, sym, ◌∙◌, arith, Option, Some, None, if◌then◌else◌}
use Rattle.std.specs.List.{list_any}
use Rattle.std.proofs.lemmas.List.{take_more, get_or-map, get_or-take, length-map, length-take}
use Rattle.std.proofs.lemmas.List.Folds.{list_any_none}
use Rattle.std.proofs.lemmas.List.Quantifiers.{position-Some}
use Rattle.indexmap.specs.IndexSet.{insert_key}
use Rattle.px_value.proofs.General.{position_is}
use Rattle.px_core.specs.Fit.{AreDistinct}
use Rattle.px_core.specs.Plan.{Site, no_site, is_same}
use Rattle.px_core.proofs.Paths.{same-self, same-other}
use Rattle.px_flat.specs.declared.row.Row.{Row}
use Rattle.px_flat.specs.Row.{IsRowOf, site_in, paths_of, number_at, parent_number}
use Rattle.px_flat.specs.Rows.{IsLaid, sites_of, site_of}
use Rattle.px_flat.proofs.Sites.{length-sites_of, site_at_number}

pub distinct_sites : (rows : List Row) → IsLaid rows → AreDistinct (sites_of rows)
distinct_sites rows laid i j hi hj same =
    laid.distinct i j (omega (arith, length-sites_of rows)) (omega (arith, length-sites_of rows)) same

-- ---- the number of a path

pub number_is : (plan : List Site) (i : ℕ) → AreDistinct plan → i < length plan
    → number_at plan (site_in plan i).path ≡ Some i
number_is plan i distinct within =
    let own : List ℕ = (site_in plan i).path in
    position_is (is_same own) (paths_of plan) i [] (omega (arith, within, length-map plan (λ (site : Site). site.path)))
    (λ k before.
    let there : k < length plan = omega (arith, before, within) in
    ap (is_same own) (get_or-map (λ (site : Site). site.path) plan k no_site [] there)
    ∙ same-other own (site_in plan k).path (λ same. absurd (omega (arith, before, distinct i k within there same))))
    (ap (is_same own) (get_or-map (λ (site : Site). site.path) plan i no_site [] within) ∙ same-self own)

-- ---- the paths in their order

-- a path is not among those before it
new_path : (plan : List Site) (i : ℕ) → AreDistinct plan → i < length plan
    → list_any (is_same (site_in plan i).path) (take i (paths_of plan)) ≡ false
new_path plan i distinct within =
    let own : List ℕ = (site_in plan i).path in
    list_any_none (is_same own) (take i (paths_of plan)) (λ k d inside.
    let before : k < i = omega (arith, inside, length-take i (paths_of plan)) in
    ap (is_same own) (get_or-take i (paths_of plan) k d before)
    ∙ (position-Some (is_same own) (paths_of plan) i d (number_is plan i distinct within)).2 k before)

-- one path more is inserted
pub paths_more : (plan : List Site) (i : ℕ) (path : List ℕ) → AreDistinct plan → i < length plan
    → path ≡ (site_in plan i).path
    → insert_key is_same (take i (paths_of plan)) path ≡ take (i + 1) (paths_of plan)
paths_more plan i path distinct within is =
    let paths : List (List ℕ) = take i (paths_of plan) in
    let own : List ℕ = (site_in plan i).path in
    ap (insert_key is_same paths) is
    ∙ ap (λ there. if there then paths else paths ++ own ∷ []) (new_path plan i distinct within)
    ∙ ap (λ path. paths ++ path ∷ []) (sym (get_or-map (λ site. site.path) plan i no_site [] within))
    ∙ sym (take_more (paths_of plan) i [] (omega (arith, length-map plan (λ site. site.path))))

-- ---- the row of a node

pub row_is : (rows : List Row) → IsLaid rows → (i : ℕ) (row : Row) → i < length rows → row ≡ get_or rows i row
    → IsRowOf (sites_of rows) i row
row_is rows laid i row within is =
    let plan : List Site = sites_of rows in
    let site : site_in plan i ≡ site_of plan row =
    site_at_number rows laid i no_site row within ∙ ap (site_of plan) (sym is) in
    record {
      path = ap (λ site. site.path) (sym site);
      parent = parent_of row.parent refl site;
      head = ap (λ site. site.head) (sym site);
    }
  where
    parent_of : (parent : Option ℕ) → row.parent ≡ parent → site_in (sites_of rows) i ≡ site_of (sites_of rows) row
        → row.parent ≡ parent_number (sites_of rows) i
    parent_of None none site = rw (site, none) refl
    parent_of (Some j) some site =
        let before : j < i = laid.linked i row within j (ap (λ row. row.parent) (sym is) ∙ some) in
        let there : j < length (sites_of rows) = omega (arith, length-sites_of rows) in
        rw (site, some) (sym (number_is (sites_of rows) j (distinct_sites rows laid) there))
