-- What a table of links is, and what one link that is set does to it.
use Rattle.std.proofs.Common.{◌≡◌, ℕ, ◌<◌, ◌≤◌, true, List, [], length, Option, Some, None, IfSome, refl, sym, ◌∙◌, arith, inl, inr, subst}
use Rattle.std.specs.Prelude.{if◌then◌else◌}
use Rattle.std.proofs.lemmas.Bool.Decides.{Decides-eqb}
use Rattle.std.proofs.lemmas.Grind.{common_steps}
use Rattle.std.proofs.lemmas.List.{get_or-map, get_or_default, length-set, length-map, same_lists}
use Rattle.std.proofs.lemmas.Map.Made.{IsDistinct-from_AllPairs}
use Rattle.std.proofs.lemmas.Map.Steps.{length-le_from_distinct_below}
use Rattle.px_value.specs.General.{is_number}
use Rattle.px_links.specs.declared.cell.Cell.{Cell}
use Rattle.px_links.specs.declared.cell.Ends.{Ends}
use Rattle.px_links.specs.Lists.{has, nth}
use Rattle.px_links.specs.Keeping.{cell_at, no_ends, ends_at, walk, lists_in, IsTable}
use Rattle.px_links.specs.Relinking.{with_next}
use Rattle.px_links.proofs.Linking.{LeadsOn, LeadsBack, walk-list, leads_on, leads_back, first_is, last_is, here_number, if_some}

-- the links of the cells, one way and the other
abbrev pub next_in : List Cell → ℕ → Option ℕ
next_in cells cell = (cell_at cells cell).next

abbrev pub before_in : List Cell → ℕ → Option ℕ
before_in cells cell = (cell_at cells cell).before

abbrev walked : List Cell → Ends → List ℕ
walked cells end = walk (next_in cells) end.first (length cells)

-- ---- what a table is

module _ (cells : List Cell) (ends : List Ends) (lists : List (List ℕ)) (table : IsTable cells ends lists) where
  -- where a cell of a list leads
  pub leads_on_in : (list cell : ℕ) → has (nth lists list) cell ≡ true
      → LeadsOn (next_in cells) (before_in cells) (nth lists list) (ends_at ends list).last cell
  leads_on_in list cell has_it = leads_on (next_in cells) (before_in cells) None (ends_at ends list).first
      (nth lists list) (ends_at ends list).last cell (table.linked list) has_it

  pub leads_back_in : (list cell : ℕ) → has (nth lists list) cell ≡ true
      → LeadsBack (next_in cells) (before_in cells) (nth lists list) None (ends_at ends list).first cell
  leads_back_in list cell has_it = leads_back (next_in cells) (before_in cells) None (ends_at ends list).first
      (nth lists list) (ends_at ends list).last cell (table.linked list) has_it

  pub first_in : (list cell : ℕ) → (ends_at ends list).first ≡ Some cell → has (nth lists list) cell ≡ true
  first_in list cell is = first_is (next_in cells) (before_in cells) None (ends_at ends list).first (nth lists list)
      (ends_at ends list).last cell (table.linked list) is

  pub last_in : (list cell : ℕ) → (ends_at ends list).last ≡ Some cell
      → (has (nth lists list) cell ≡ true) × (next_in cells cell ≡ None)
  last_in list cell is = last_is (next_in cells) (before_in cells) (ends_at ends list).first (nth lists list)
      (ends_at ends list).last cell (table.linked list) is

  -- lists have cells of the table, and the table has lists
  pub within : (list cell : ℕ) → has (nth lists list) cell ≡ true → cell < length cells
  within list cell has_it = grind (arith, common_steps)

  pub list_within : (list cell : ℕ) → has (nth lists list) cell ≡ true → list < length ends
  list_within list cell has_it = grind (arith, common_steps)

  -- what is read of the table is in range
  pub first_within : (list : ℕ) → IfSome (ends_at ends list).first (λ cell. cell < length cells)
  first_within list = if_some (ends_at ends list).first (λ cell is. within list cell (first_in list cell is))

  pub last_within : (list : ℕ) → IfSome (ends_at ends list).last (λ cell. cell < length cells)
  last_within list = if_some (ends_at ends list).last (λ cell is. within list cell (last_in list cell is).0)

  pub next_within : (cell : ℕ) → IfSome (next_in cells cell) (λ other. other < length cells)
  next_within cell = by (cell_at cells cell).holder refl
    where
      by : (holder : Option ℕ) → (cell_at cells cell).holder ≡ holder → IfSome (next_in cells cell) (λ other. other < length cells)
      by None is = rw (table.absent cell is) tt
      by (Some list) is = elim (leads_on_in list cell
          (sym (table.held cell list) ∙ here_number (cell_at cells cell).holder list is)) [
            | inl is_last ↦ rw (is_last.0) tt
            | inr leads ↦ rw (leads.1) (within list leads.0 leads.3)
          ]

  -- a list is no longer than there are cells
  short : (list : ℕ) → length (nth lists list) ≤ length cells
  short list = length-le_from_distinct_below (nth lists list) (length cells)
      (IsDistinct-from_AllPairs Decides-eqb (nth lists list) (table.once list)) (within list)

  -- the lists are those that are walked
  pub lists-walked : lists_in cells ends ≡ lists
  lists-walked = same_lists (lists_in cells ends) lists (length-map ends _ ∙ table.sized) (λ list d below.
      let there : list < length ends = omega (arith, length-map ends (walked cells)) in
      get_or-map (walked cells) ends list no_ends d there
      ∙ walk-list (next_in cells) (before_in cells) None (ends_at ends list).first (nth lists list)
      (ends_at ends list).last (length cells) (table.linked list) (short list)
      ∙ get_or_default lists list [] d (omega arith))

  -- and the table stands for them
  pub walked-table : IsTable cells ends (lists_in cells ends)
  walked-table = subst (λ lists. IsTable cells ends lists) (sym lists-walked) table

  -- a cell is in one list at most
  pub one_holder : (list other cell : ℕ) → has (nth lists list) cell ≡ true → has (nth lists other) cell ≡ true
      → list ≡ other
  one_holder list other cell has_it has_too = grind (arith, common_steps)

-- ---- one link

-- a cell after its link on is set
pub next-set : (at next : Option ℕ) (cells : List Cell) (cell : ℕ) → IfSome at (λ at. at < length cells)
    → cell_at (with_next at next cells) cell ≡ record {
      next = if is_number at cell then next else (cell_at cells cell).next;
      before = (cell_at cells cell).before;
      holder = (cell_at cells cell).holder;
    }
next-set None next cells cell within = refl
next-set (Some at) next cells cell within = grind (arith, common_steps)

-- there are as many cells
pub length-next : (at next : Option ℕ) (cells : List Cell) → length (with_next at next cells) ≡ length cells
length-next None next cells = refl
length-next (Some at) next cells = length-set cells at _
