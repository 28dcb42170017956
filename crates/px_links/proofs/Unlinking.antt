-- A cell is taken out of its list.
use Rattle.std.proofs.Common.{◌≡◌, ◌≢◌, ℕ, ◌<◌, true, false, not, nat_eq, List, [], length, set, Option, Some, None, IfSome, ap, sym, ◌∙◌, arith, inl, inr, subst}
use Rattle.std.specs.Prelude.{if◌then◌else◌}
use Rattle.std.specs.List.{position}
use Rattle.std.proofs.lemmas.Bool.{eqb-true, cases_Bool}
use Rattle.std.proofs.lemmas.Bool.Decides.{eqb_tells}
use Rattle.std.proofs.lemmas.List.{get_or-set_same, get_or-set_other, length-set, length-map}
use Rattle.std.proofs.Math.ListN.{get_or-map}
use Rattle.std.proofs.lemmas.Grind.{common_steps}
use Rattle.std.proofs.lemmas.List.Kept.{AllPairs-filter}
use Rattle.std.proofs.lemmas.Map.Views.{any-filter_same}
use Rattle.px_value.specs.General.{is_number}
use Rattle.px_links.specs.declared.cell.Cell.{Cell}
use Rattle.px_links.specs.declared.cell.Ends.{Ends}
use Rattle.px_links.specs.Lists.{has, without, nth, without_cell}
use Rattle.px_links.specs.Keeping.{absent_cell, cell_at, ends_at, AreLinked, IsTable}
use Rattle.px_links.specs.Relinking.{past, with_next, with_before}
use Rattle.px_links.proofs.Linking.{leads_apart, linked_without, number_here, here_number, if_some}
use Rattle.px_links.proofs.Reading.{holder-read}
use Rattle.px_links.proofs.Tables.{next_in, before_in, leads_on_in, leads_back_in, first_in, last_in, within, list_within}

-- a list without a cell has the others
has-gone : (list : List ℕ) (gone : ℕ) → has (without list gone) gone ≡ false
has-gone list gone =
    any-filter_same (nat_eq gone) (λ other. not (nat_eq gone other)) false (λ other is. ap not is) list

has-other : (list : List ℕ) (gone cell : ℕ) → gone ≢ cell → has (without list gone) cell ≡ has list cell
has-other list gone cell apart =
    any-filter_same (nat_eq cell) (λ other. not (nat_eq gone other)) true (λ other is. elim (eqb_tells gone other) [
      | inl same ↦ absurd (apart (same.1 ∙ sym (eqb-true cell other is)))
      | inr other ↦ ap not other.0
    ]) list

-- the links of the table without a cell
abbrev pub cells_without : List Cell → ℕ → List Cell
cells_without cells gone =
    let at = cell_at cells gone in
    set (with_before at.next at.before (with_next at.before at.next cells)) gone absent_cell

abbrev pub ends_without : List Cell → List Ends → ℕ → ℕ → List Ends
ends_without cells ends list gone = set ends list (record {
  first = past gone (cell_at cells gone).next (ends_at ends list).first;
  last = past gone (cell_at cells gone).before (ends_at ends list).last;
})

module _ (cells : List Cell) (ends : List Ends) (lists : List (List ℕ)) (table : IsTable cells ends lists) (list gone : ℕ)
    (held : (cell_at cells gone).holder ≡ Some list) where
  abbrev on : Option ℕ
  on = (cell_at cells gone).next

  abbrev back : Option ℕ
  back = (cell_at cells gone).before

  -- its list has the cell, and no other one
  in_list : has (nth lists list) gone ≡ true
  in_list = sym (table.held gone list) ∙ here_number _ list held

  in_others : (other : ℕ) → has (nth lists other) gone ≡ nat_eq list other
  in_others other = sym (table.held gone other) ∙ ap (λ holder. is_number holder other) held

  -- what stands behind the cell, and before it, are cells of its list
  on_has : (cell : ℕ) → on ≡ Some cell → (has (nth lists list) cell ≡ true) × (before_in cells cell ≡ Some gone)
  on_has cell is = grind (arith, common_steps, leads_on_in, in_list)

  back_has : (cell : ℕ) → back ≡ Some cell → (has (nth lists list) cell ≡ true) × (next_in cells cell ≡ Some gone)
  back_has cell is = grind (arith, common_steps, leads_back_in, in_list)

  pub on_within : IfSome (cell_at cells gone).next (λ at. at < length cells)
  on_within = if_some on (λ at is. within cells ends lists table list at (on_has at is).0)

  pub back_within : IfSome (cell_at cells gone).before (λ at. at < length cells)
  back_within = if_some back (λ at is. within cells ends lists table list at (back_has at is).0)

  pub list_there : list < length ends
  list_there = list_within cells ends lists table list gone in_list

  -- a link on is to the cell exactly where the cell's link back is to its holder
  on_to : (other cell : ℕ) → has (nth lists other) cell ≡ true → is_number back cell ≡ is_number (next_in cells cell) gone
  on_to other cell has_it = grind (arith, common_steps, back_has, number_here, leads_on_in)

  back_to : (other cell : ℕ) → has (nth lists other) cell ≡ true → is_number on cell ≡ is_number (before_in cells cell) gone
  back_to other cell has_it = grind (arith, common_steps, on_has, number_here, leads_back_in)

  abbrev cells_then : List Cell
  cells_then = cells_without cells gone

  -- the cell itself, and another one
  at_gone : cell_at cells_then gone ≡ absent_cell
  at_gone = grind (arith, common_steps)

  at_other : (cell : ℕ) → cell ≢ gone → cell_at cells_then cell ≡ record {
    next = if is_number back cell then on else (cell_at cells cell).next;
    before = if is_number on cell then back else (cell_at cells cell).before;
    holder = (cell_at cells cell).holder;
  }
  at_other cell apart = grind (arith, common_steps, on_within, back_within)

  abbrev ends_then : List Ends
  ends_then = ends_without cells ends list gone

  past-none : (link beside : Option ℕ) → (link ≡ Some gone → ⊥) → past gone beside link ≡ link
  past-none link beside none = grind (arith, common_steps)

  -- the ends of a list that does not have the cell stay
  past_same : (other : ℕ) (link beside : Option ℕ) → (link ≡ Some gone → has (nth lists other) gone ≡ true)
      → nat_eq list other ≡ false → link ≡ past gone beside link
  past_same other link beside has_it apart =
      sym (past-none link beside (λ is. cc (sym apart ∙ sym (in_others other) ∙ has_it is)))

  at_end : (other : ℕ) → ends_at ends_then other ≡ record {
    first = past gone on (ends_at ends other).first;
    last = past gone back (ends_at ends other).last;
  }
  at_end other = elim (eqb_tells list other) [
    | inl same ↦ subst (λ other. ends_at ends_then other ≡ record {
      first = past gone on (ends_at ends other).first;
      last = past gone back (ends_at ends other).last;
    }) same.1 (get_or-set_same ends list _ _ list_there)
    | inr apart ↦
        let first_same = past_same other (ends_at ends other).first on (first_in cells ends lists table other gone) apart.0 in
        let last_same = past_same other (ends_at ends other).last back
        (λ is. (last_in cells ends lists table other gone is).0) apart.0 in
        get_or-set_other ends list other _ _ (λ same. apart.1 (sym same))
        ∙ (λ i. record { first = first_same i; last = last_same i })
  ]

  nth-without : (other : ℕ) → nth (without_cell lists gone) other ≡ without (nth lists other) gone
  nth-without other = get_or-map (λ list. without list gone) lists other []

  -- what stands for the lists stands for them without the cell
  linked_then : (other : ℕ) → AreLinked (next_in cells_then) (before_in cells_then) None (ends_at ends_then other).first
      (nth (without_cell lists gone) other) (ends_at ends_then other).last
  linked_then other = rw (at_end other, nth-without other) (
      linked_without (next_in cells) (before_in cells) (next_in cells_then) (before_in cells_then) None
      (ends_at ends other).first (nth lists other) (ends_at ends other).last gone
      (λ cell has_it apart. (
        ap (λ (at : Cell). at.next) (at_other cell apart)
            ∙ ap (λ b. if b then on else next_in cells cell) (on_to other cell has_it),
        ap (λ (at : Cell). at.before) (at_other cell apart)
            ∙ ap (λ b. if b then back else before_in cells cell) (back_to other cell has_it),
      ))
      (past-none on on (λ is. loops is)) (past-none back back (λ is. loops (back_has gone is).1)) (table.linked other)
      )
    where
      loops : on ≡ Some gone → ⊥
      loops = leads_apart (next_in cells) (before_in cells) None (ends_at ends list).first (nth lists list)
          (ends_at ends list).last gone (table.linked list) in_list

  held_then : (cell other : ℕ) → is_number (cell_at cells_then cell).holder other ≡ has (nth (without_cell lists gone) other) cell
  held_then cell other = rw (nth-without other) (elim (eqb_tells gone cell) [
    | inl same ↦ subst (λ cell. is_number (cell_at cells_then cell).holder other ≡ has (without (nth lists other) gone) cell) same.1
        (ap (λ (at : Cell). is_number at.holder other) at_gone ∙ sym (has-gone (nth lists other) gone))
    | inr apart ↦ ap (λ (at : Cell). is_number at.holder other) (at_other cell (λ same. apart.1 (sym same)))
        ∙ table.held cell other ∙ sym (has-other (nth lists other) gone cell apart.1)
  ])

  absent_then : (cell : ℕ) → (cell_at cells_then cell).holder ≡ None → (cell_at cells_then cell).next ≡ None
  absent_then cell none = elim (eqb_tells gone cell) [
    | inl same ↦ ap (λ cell. next_in cells_then cell) (sym same.1) ∙ ap (λ (at : Cell). at.next) at_gone
    | inr apart ↦
        let at = at_other cell (λ same. apart.1 (sym same)) in
        let was : (cell_at cells cell).holder ≡ None = sym (ap (λ (at : Cell). at.holder) at) ∙ none in
        let not_back : is_number back cell ≡ false = elim (cases_Bool (is_number back cell)) [
          | inl is ↦ absurd (cc (sym (ap (λ holder. is_number holder list) was) ∙ table.held cell list
              ∙ (back_has cell (number_here back cell is)).0))
          | inr is ↦ is
        ] in
        ap (λ (at : Cell). at.next) at ∙ ap (λ b. if b then on else next_in cells cell) not_back ∙ table.absent cell was
  ]

  pub table_without : IsTable cells_then ends_then (without_cell lists gone)
  table_without = record {
    sized = length-set ends list _ ∙ table.sized ∙ sym (length-map lists (λ list. without list gone));
    linked = linked_then;
    held = held_then;
    absent = absent_then;
    once = λ other. rw (nth-without other) (AllPairs-filter (λ cell other. cell ≢ other)
        (λ other. not (nat_eq gone other)) (nth lists other) (table.once other));
  }

  -- no list has the cell then, and each other one is held as before
  pub holders-unlinked : (other : ℕ) → position (λ list. has list other) (without_cell lists gone)
      ≡ (if nat_eq gone other then None else position (λ list. has list other) lists)
  holders-unlinked other = holder-read cells_then ends_then (without_cell lists gone) table_without other ∙ elim (eqb_tells gone other) [
    | inl same ↦ rw (same.0, sym same.1) (ap (λ (at : Cell). at.holder) at_gone)
    | inr apart ↦ rw (apart.0) (ap (λ (at : Cell). at.holder) (at_other other (λ same. apart.1 (sym same)))
        ∙ sym (holder-read cells ends lists table other))
  ]
