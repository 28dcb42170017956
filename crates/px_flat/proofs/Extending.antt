-- The extents of the first nodes, one after another.
use Rattle.std.proofs.Common.{◌≡◌, ℕ, ◌+◌, ◌-◌, ◌<◌, ◌≤◌, List, [], ◌∷◌, ◌++◌, length, get_or, map, sum, ap, sym, ◌∙◌, arith, length-append}
use Rattle.px_core.specs.declared.variable.Variable.{Variable}
use Rattle.px_core.specs.Fit.{cells_of, cells_of_site}
use Rattle.px_core.specs.Plan.{Site, no_site, variable_data}
use Rattle.px_flat.specs.declared.row.Row.{Row}
use Rattle.px_flat.specs.declared.row.Extent.{Extent}
use Rattle.px_flat.specs.Extents.{extent_of, AreExtents}
use Rattle.px_flat.specs.Layout.{variable_cells, first_cell}
use Rattle.px_flat.specs.Row.{site_in, after_last}
use Rattle.px_flat.specs.Rows.{IsLaid, sites_of}
use Rattle.px_flat.proofs.Sites.{length-sites_of}
use Rattle.px_flat.proofs.Slotted.{variables_at}
use Rattle.px_flat.proofs.Sums.{sum_more}
use Rattle.px_flat.proofs.Trees.{each_put}
use Rattle.px_flat.proofs.Variables.{cells_within}

-- the first nodes have their extents, and the next one its first cell
pub record AreExtended (plan : List Site) (extents : List Extent) (cell i : ℕ) : Type 0 where
  pub long : length extents ≡ i
  pub next : cell ≡ first_cell plan i
  pub each : (node : ℕ) (d : Extent) → node < i → get_or extents node d ≡ extent_of plan node

pub extended_more : (plan : List Site) (extents : List Extent) (cell i cells end : ℕ) → i < length plan
    → cells ≡ cells_of_site (site_in plan i) → end ≡ after_last plan i → AreExtended plan extents cell i
    → AreExtended plan (extents ++ record { first_cell = cell; cells = cells; end = end } ∷ []) (cell + cells) (i + 1)
extended_more plan extents cell i cells end within cells_is end_is so_far = record {
  long = omega (arith, length-append extents (added ∷ []), so_far.long);
  next = omega (arith, so_far.next, cells_is, sum_more cells_of_site plan i no_site within);
  each = λ node d before. each_put (λ node extent. extent ≡ extent_of plan node) extents added
      (λ node d below. so_far.each node d (omega (arith, below, so_far.long)))
      (added_is ∙ ap (extent_of plan) (sym so_far.long)) node d
      (omega (arith, before, length-append extents (added ∷ []), so_far.long));
}
  where
    added : Extent
    added = record { first_cell = cell; cells = cells; end = end }

    added_is : added ≡ extent_of plan i
    added_is = λ j. record { first_cell = so_far.next j; cells = cells_is j; end = end_is j }

pub extended_all : (plan : List Site) (extents : List Extent) (cell i : ℕ) → i ≡ length plan
    → AreExtended plan extents cell i → AreExtents plan extents
extended_all plan extents cell i all so_far = record {
  long = so_far.long ∙ all;
  each = λ node d within. so_far.each node d (omega arith);
}

-- ---- the cells of a row

pub cells_at : (rows : List Row) → IsLaid rows → (i : ℕ) (d : Row) (variables : List Variable) → i < length rows
    → variables ≡ (get_or rows i d).head.variables.items
    → sum (map cells_of (map variable_data variables)) ≡ cells_of_site (site_in (sites_of rows) i)
cells_at rows laid i d variables within is =
    ap (λ variables. sum (map cells_of variables)) (variables_at rows laid i d variables within is)

-- they are no more than a fit plan has
pub cells_fit : (rows : List Row) → IsLaid rows → (i cell : ℕ) (d : Row) (variables : List Variable) → i < length rows
    → variables ≡ (get_or rows i d).head.variables.items
    → variable_cells (sites_of rows) ≤ 131072 → cell ≡ first_cell (sites_of rows) i
    → cell + sum (map cells_of (map variable_data variables)) ≤ 131072
cells_fit rows laid i cell d variables within is few here =
    let inside : i < length (sites_of rows) = omega (arith, length-sites_of rows) in
    omega (
      arith,
      cells_at rows laid i d variables within is,
      cells_within (sites_of rows) i inside,
    )
