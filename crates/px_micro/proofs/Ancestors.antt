-- A node stands below its parent, and below all that its parent stands below.
use Rattle.std.proofs.Common.{◌≡◌, ◌⊎◌, ℕ, ◌<◌, List, [], ◌∷◌, length, get_or, refl, ap, ◌∙◌, arith, inl, inr, Option, Some, None}
use Rattle.std.specs.Option.{ForSome}
use Rattle.px_core.specs.Plan.{Site, no_site}
use Rattle.px_flat.specs.declared.flat.Flat.{Flat}
use Rattle.px_flat.specs.declared.row.Row.{Row}
use Rattle.px_flat.specs.Flat.{plan_of}
use Rattle.px_flat.specs.Row.{site_in, parent_number}
use Rattle.px_flat.specs.Rows.{above_in, site_of, sites_of}
use Rattle.px_flat.proofs.Numbers.{number_is}
use Rattle.px_flat.proofs.Sites.{site_at_number, length-sites_of}
use Rattle.px_flat.proofs.Tables.{flat_sound}

some_row : (rows : List Row) → 0 < length rows → Row
some_row [] some = absurd (omega arith)
some_row (row ∷ rows) some = row

-- a node that is no root
pub record IsUnder (plan : List Site) (node : ℕ) : Type 0 where
  pub parent : ℕ
  pub before : parent < node
  pub number : parent_number plan node ≡ Some parent
  pub above : (site_in plan node).above ≡ (site_in plan parent).path ∷ (site_in plan parent).above

-- the root
pub record IsTop (plan : List Site) (node : ℕ) : Type 0 where
  pub number : parent_number plan node ≡ None
  pub above : (site_in plan node).above ≡ []

pub placed : (flat : Flat) (node : ℕ) → node < length (plan_of flat) → IsTop (plan_of flat) node ⊎ IsUnder (plan_of flat) node
placed flat node within = by row.parent refl (flat.names.laid.linked node some inside)
  where
    rows : List Row
    rows = flat.names.rows.items

    plan : List Site
    plan = sites_of rows

    inside : node < length rows
    inside = omega (arith, within, length-sites_of rows)

    some : Row
    some = some_row rows (omega (arith, inside))

    row : Row
    row = get_or rows node some

    site_is : site_in plan node ≡ site_of plan row
    site_is = site_at_number rows flat.names.laid node no_site some inside

    by : (parent : Option ℕ) → row.parent ≡ parent → ForSome row.parent (λ j. j < node)
        → IsTop plan node ⊎ IsUnder plan node
    by None is before =
        let above : (site_in plan node).above ≡ [] = ap (λ (site : Site). site.above) site_is ∙ ap (above_in plan) is in
        inl (record { number = rw above refl; above = above })
    by (Some j) is before =
        let above : (site_in plan node).above ≡ (site_in plan j).path ∷ (site_in plan j).above =
        ap (λ (site : Site). site.above) site_is ∙ ap (above_in plan) is in
        let first : j < node = before j is in
        inr (record {
          parent = j;
          before = first;
          number = rw above (number_is plan j (flat_sound flat).distinct (omega (arith, first, within)));
          above = above;
        })
