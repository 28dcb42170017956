-- A table whose cells and ends were handed over to a function that changes them.
use Rattle.std.proofs.Common.{◌≡◌, ℕ, List, length, ◌∙◌}
use Rattle.std.proofs.lemmas.List.{with_items_is}
use Rattle.std.specs.Vec.{with_items}
use Rattle.px_links.specs.declared.cell.Cell.{Cell}
use Rattle.px_links.specs.declared.cell.Ends.{Ends}
use Rattle.px_links.specs.declared.links.Links.TheInside.{Inside}
use Rattle.px_links.specs.Keeping.{IsTable, IsKept, links_data}
use Rattle.px_links.proofs.Tables.{lists-walked, walked-table}

module _ (links : Inside) (cells : List Cell) (ends : List Ends) (lists : List (List ℕ)) (table : IsTable cells ends lists)
    (many : length cells ≡ links.cells.len) (as_many : length ends ≡ links.ends.len) where
  -- the table after the call
  abbrev pub handed : Inside
  handed = record { cells = with_items links.cells cells; ends = with_items links.ends ends }

  -- every table keeps this
  pub kept : IsKept handed
  kept = rw (with_items_is links.cells cells many, with_items_is links.ends ends as_many) (walked-table cells ends lists table)

  -- and it is these lists to contracts
  pub data_is : links_data handed ≡ record { cells = length links.cells.items; lists = lists }
  data_is = rw (with_items_is links.cells cells many, with_items_is links.ends ends as_many)
      (λ i. record { cells = (many ∙ links.cells.ok.0) i; lists = lists-walked cells ends lists table i })
