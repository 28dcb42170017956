-- A cell is linked in behind the others of a list.
use Rattle.std.proofs.Common.{◌≡◌, ◌≢◌, ℕ, ◌<◌, true, false, nat_eq, List, [], ◌∷◌, ◌++◌, length, set, Option, Some, None, AllPairs, ap, sym, ◌∙◌, arith, inl, inr, subst, rules}
use Rattle.std.specs.Prelude.{if◌then◌else◌}
use Rattle.std.specs.Cmp.{nat_eq_equiv}
use Rattle.std.specs.List.{position}
use Rattle.std.specs.Option.{option_or}
use Rattle.std.proofs.lemmas.Bool.{eq-eqb, cases_Bool}
use Rattle.std.proofs.lemmas.Bool.Decides.{eqb_tells}
use Rattle.std.proofs.lemmas.Grind.{common_steps}
use Rattle.std.proofs.lemmas.List.{get_or-set_same, get_or-set_other}
use Rattle.px_value.specs.General.{is_number}
use Rattle.px_value.proofs.General.{once_push}
use Rattle.px_links.specs.declared.cell.Cell.{Cell}
use Rattle.px_links.specs.declared.cell.Ends.{Ends}
use Rattle.px_links.specs.Lists.{has, nth, with_last}
use Rattle.px_links.specs.Keeping.{cell_at, no_ends, ends_at, AreLinked, IsTable}
use Rattle.px_links.specs.Relinking.{with_next}
use Rattle.px_links.proofs.Linking.{linked_same, linked_push, number_here}
use Rattle.px_links.proofs.Reading.{holder-read}
use Rattle.px_links.proofs.Tables.{next_in, before_in, leads_on_in, last_in, last_within, one_holder, next-set, length-next}

-- the links of the table with the cell
abbrev pub cells_with : List Cell → List Ends → ℕ → ℕ → List Cell
cells_with cells ends list new = set (with_next (ends_at ends list).last (Some new) cells) new
    (record { next = None; before = (ends_at ends list).last; holder = Some list })

abbrev pub ends_with : List Ends → ℕ → ℕ → List Ends
ends_with ends list new = set ends list (record {
  first = option_or (ends_at ends list).first (Some new);
  last = Some new;
})

module _ (cells : List Cell) (ends : List Ends) (lists : List (List ℕ)) (table : IsTable cells ends lists) (list new : ℕ)
    (there : list < length ends) (below : new < length cells) (absent : (cell_at cells new).holder ≡ None) where
  abbrev end : Option ℕ
  end = (ends_at ends list).last

  -- no list has the cell, and so no cell of a list is it
  in_none : (other : ℕ) → has (nth lists other) new ≡ false
  in_none other = sym (table.held new other) ∙ ap (λ holder. is_number holder other) absent

  other_than : (other cell : ℕ) → has (nth lists other) cell ≡ true → cell ≢ new
  other_than other cell has_it same = cc (sym has_it ∙ ap (has (nth lists other)) same ∙ in_none other)

  -- what is the last is a cell of the list, and leads nowhere
  end_has : (cell : ℕ) → end ≡ Some cell → (has (nth lists list) cell ≡ true) × (next_in cells cell ≡ None)
  end_has cell is = last_in cells ends lists table list cell is

  abbrev cells_then : List Cell
  cells_then = cells_with cells ends list new

  -- the cell itself, and another one
  at_new : cell_at cells_then new ≡ record { next = None; before = end; holder = Some list }
  at_new = get_or-set_same (with_next end (Some new) cells) new _ _ (omega (arith, below, length-next end (Some new) cells))

  at_old : (cell : ℕ) → cell ≢ new → cell_at cells_then cell ≡ record {
    next = if is_number end cell then Some new else (cell_at cells cell).next;
    before = (cell_at cells cell).before;
    holder = (cell_at cells cell).holder;
  }
  at_old cell apart = get_or-set_other (with_next end (Some new) cells) new cell _ _ apart
      ∙ next-set end (Some new) cells cell (last_within cells ends lists table list)

  -- what was the last leads on to the new cell
  leads_then : (cell : ℕ) → has (nth lists list) cell ≡ true
      → (if is_number end cell then Some new else next_in cells cell) ≡ option_or (next_in cells cell) (Some new)
  leads_then cell has_it = grind (arith, common_steps, leads_on_in, end_has, number_here)

  -- other lists don't have what was the last
  not_end : (other cell : ℕ) → nat_eq list other ≡ false → has (nth lists other) cell ≡ true → is_number end cell ≡ false
  not_end other cell apart has_it = elim (cases_Bool (is_number end cell)) [
    | inl is ↦ absurd (cc (sym apart ∙ eq-eqb list other
        (one_holder cells ends lists table list other cell (end_has cell (number_here end cell is)).0 has_it)))
    | inr is ↦ is
  ]

  abbrev ends_then : List Ends
  ends_then = ends_with ends list new

  abbrev lists_then : List (List ℕ)
  lists_then = with_last lists list new

  nth-there : nth lists_then list ≡ nth lists list ++ new ∷ []
  nth-there = get_or-set_same lists list _ _ (omega (arith, there, table.sized))

  nth-other : (other : ℕ) → list ≢ other → nth lists_then other ≡ nth lists other
  nth-other other apart = get_or-set_other lists list other _ _ (λ same. apart (sym same))

  -- what stands for the lists stands for them with the cell
  linked_there : AreLinked (next_in cells_then) (before_in cells_then) None (ends_at ends_then list).first
      (nth lists_then list) (ends_at ends_then list).last
  linked_there = rw (nth-there, get_or-set_same ends list _ no_ends there) (
      linked_push (next_in cells) (before_in cells) (next_in cells_then) (before_in cells_then) None
      (ends_at ends list).first (nth lists list) end new
      (λ cell has_it.
      let at = at_old cell (other_than list cell has_it) in
      (ap (λ (at : Cell). at.next) at ∙ leads_then cell has_it, ap (λ (at : Cell). at.before) at))
      (ap (λ (at : Cell). at.next) at_new) (ap (λ (at : Cell). at.before) at_new) (table.linked list)
      )

  linked_other : (other : ℕ) → nat_eq list other ≡ false → list ≢ other
      → AreLinked (next_in cells_then) (before_in cells_then) None (ends_at ends_then other).first
      (nth lists_then other) (ends_at ends_then other).last
  linked_other other differs apart = search (rules, get_or-set_other, linked_same, at_old, other_than, not_end)

  held_then : (cell other : ℕ) → is_number (cell_at cells_then cell).holder other ≡ has (nth lists_then other) cell
  held_then cell other = grind (arith, common_steps)

  absent_then : (cell : ℕ) → (cell_at cells_then cell).holder ≡ None → (cell_at cells_then cell).next ≡ None
  absent_then cell none = elim (eqb_tells new cell) [
    | inl same ↦ ap (next_in cells_then) (sym same.1) ∙ ap (λ (at : Cell). at.next) at_new
    | inr apart ↦
        let at = at_old cell (λ same. apart.1 (sym same)) in
        let was : (cell_at cells cell).holder ≡ None = sym (ap (λ (at : Cell). at.holder) at) ∙ none in
        let not_last : is_number end cell ≡ false = elim (cases_Bool (is_number end cell)) [
          | inl is ↦ absurd (cc (sym (ap (λ holder. is_number holder list) was) ∙ table.held cell list
              ∙ (end_has cell (number_here end cell is)).0))
          | inr is ↦ is
        ] in
        ap (λ (at : Cell). at.next) at ∙ ap (λ b. if b then Some new else next_in cells cell) not_last
        ∙ table.absent cell was
  ]

  once_then : (other : ℕ) → AllPairs (λ cell other. cell ≢ other) (nth lists_then other)
  once_then other = elim (eqb_tells list other) [
    | inl same ↦ subst (λ other. AllPairs (λ cell other. cell ≢ other) (nth lists_then other)) same.1 (
        rw nth-there (once_push nat_eq nat_eq_equiv.refl (nth lists list) new (in_none list) (table.once list)))
    | inr apart ↦ rw (nth-other other apart.1) (table.once other)
  ]

  pub table_with : IsTable cells_then ends_then lists_then
  table_with = grind (arith, common_steps, linked_there, linked_other, held_then, absent_then, once_then)

  -- the list has the cell then, and each other one is held as before
  pub holders-pushed : (other : ℕ) → position (λ list. has list other) lists_then
      ≡ (if nat_eq new other then Some list else position (λ list. has list other) lists)
  holders-pushed other = grind (arith, common_steps, holder-read, table_with, eqb_tells, at_new, at_old)
