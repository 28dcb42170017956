use Rattle.std.proofs.Common.{◌≡◌, ℕ, replicate, [], None, ap, ◌∙◌}
use Rattle.std.specs.List.{position}
use Rattle.px_links.specs.Links.{LinksData, holder_of}
use Rattle.px_links.specs.Lists.{has}
use Rattle.px_links.specs.Keeping.{absent_cell, no_ends}
use Rattle.std.proofs.lemmas.List.{length-replicate}
use Rattle.px_links.proofs.Tables.{lists-walked, walked-table}
use Rattle.px_links.proofs.Reading.{holder-read}
use Rattle.px_links.proofs.Empty.{table-empty}
use Rattle.px_links.proofs.links.Links.new.Goals as goal

pub invariant_of-result : goal.invariant_of-result
invariant_of-result c =
    rw (c.in_ok-vec.ensures.items_if_clones_equal (λ y same. same), c.in_ok-vec-2.ensures.items_if_clones_equal (λ y same. same))
    (walked-table (replicate c.args.cells absent_cell) (replicate c.args.lists no_ends) (replicate c.args.lists [])
    (table-empty c.args.cells c.args.lists))

pub returns-clause-made : goal.returns-clause-made
returns-clause-made c =
    rw (c.in_ok-vec.ensures.items_if_clones_equal (λ y same. same), c.in_ok-vec-2.ensures.items_if_clones_equal (λ y same. same))
    (λ i. record {
      cells = length-replicate c.args.cells absent_cell i;
      lists = lists-walked (replicate c.args.cells absent_cell) (replicate c.args.lists no_ends) (replicate c.args.lists [])
          (table-empty c.args.cells c.args.lists) i;
    })

-- no list of an empty table has a cell
none_has : (lists : ℕ) (cell : ℕ) → position (λ list. has list cell) (replicate lists []) ≡ None
none_has lists cell = holder-read (replicate 0 absent_cell) (replicate lists no_ends) (replicate lists []) (table-empty 0 lists) cell

pub returns-clause-holders : goal.returns-clause-holders
returns-clause-holders c = λ cell.
    ap (λ (links : LinksData). holder_of links cell) (returns-clause-made c) ∙ none_has c.args.lists cell
