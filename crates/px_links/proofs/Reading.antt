-- What a cell and an end of a table tell of its lists.
use Rattle.std.proofs.Common.{◌≡◌, ℕ, ◌<◌, ◌-◌, true, false, ◌||◌, List, [], ◌∷◌, length, drop, set, get_or, slice_get, Option, Some, None, IfSome, refl, ap, sym, ◌∙◌, subst, arith, inl, inr}
use Rattle.std.specs.List.{position, position_or_len}
use Rattle.std.specs.Option.{option_and_then}
use Rattle.std.proofs.lemmas.Bool.{eq-eqb, ne_eqb, le-ltb, cases_Bool}
use Rattle.std.proofs.lemmas.Bool.Decides.{eqb_tells}
use Rattle.std.proofs.lemmas.List.{get_or_default, get_or-set_same, get_or-set_other, length-set, length-map, ext_get_or}
use Rattle.std.proofs.Math.ListN.{get_or-map}
use Rattle.std.proofs.lemmas.Grind.{common_steps}
use Rattle.std.proofs.lemmas.List.Sums.{position_or_len_is}
use Rattle.px_value.specs.General.{is_number}
use Rattle.px_value.proofs.General.{passes_within, position_is}
use Rattle.px_links.specs.declared.cell.Cell.{Cell}
use Rattle.px_links.specs.declared.cell.Ends.{Ends}
use Rattle.px_links.specs.declared.links.Links.TheInside.{Inside}
use Rattle.px_links.specs.Links.{LinksData, first_of, last_of, holder_of, next_of}
use Rattle.px_links.specs.Lists.{has, without, behind, nth, without_cell}
use Rattle.px_links.specs.Keeping.{cell_at, ends_at, AreLinked, IsTable, IsKept, links_data, lists_in}
use Rattle.px_links.proofs.Linking.{leads_back, linked_first, linked_last, linked_behind, number_here}
use Rattle.px_links.proofs.Tables.{next_in, before_in, first_in, list_within, first_within, last_within, next_within, one_holder}

-- the list that is a cell's holder is the only one that has it
holder_position : (lists : List (List ℕ)) (cell : ℕ) (holder : Option ℕ)
    → ((list : ℕ) → is_number holder list ≡ has (nth lists list) cell)
    → position (λ list. has list cell) lists ≡ holder
holder_position lists cell None held =
    let none : position_or_len (λ list. has list cell) lists ≡ length lists =
    position_or_len_is (λ list. has list cell) lists (length lists) [] (omega arith) (λ k before. sym (held k))
    (λ past. absurd (omega arith)) in
    rw (none, le-ltb (length lists) (length lists) (omega arith)) refl
holder_position lists cell (Some at) held =
    let has_it : has (nth lists at) cell ≡ true = sym (held at) ∙ eq-eqb at at refl in
    position_is (λ list. has list cell) lists at [] (passes_within (λ list. has list cell) lists at [] refl has_it)
    (λ k before. sym (held k) ∙ ne_eqb at k (omega arith)) has_it

module _ (cells : List Cell) (ends : List Ends) (lists : List (List ℕ)) (table : IsTable cells ends lists) where
  pub holder-read : (cell : ℕ) → position (λ list. has list cell) lists ≡ (cell_at cells cell).holder
  holder-read cell = holder_position lists cell (cell_at cells cell).holder (table.held cell)

  pub first-read : (list : ℕ) → (ends_at ends list).first ≡ slice_get (nth lists list) 0
  first-read list = linked_first (next_in cells) (before_in cells) None (ends_at ends list).first (nth lists list)
      (ends_at ends list).last (table.linked list)

  pub last-read : (list : ℕ) → (ends_at ends list).last ≡ slice_get (nth lists list) (length (nth lists list) - 1)
  last-read list = linked_last (next_in cells) (before_in cells) (ends_at ends list).first (nth lists list)
      (ends_at ends list).last (table.linked list)

  pub next-read : (cell : ℕ)
      → (cell_at cells cell).next ≡ option_and_then (λ list. behind (nth lists list) cell) (position (λ list. has list cell) lists)
  next-read cell = grind (arith, common_steps, holder-read, linked_behind)

-- ---- a cell that is not there, or is the first, is taken out

without-absent : (list : List ℕ) (gone : ℕ) → has list gone ≡ false → without list gone ≡ list
without-absent [] gone absent = refl
without-absent (head ∷ list) gone absent = elim (eqb_tells gone head) [
  | inl same ↦ absurd (cc (sym absent ∙ ap (λ b. b || has list gone) same.0))
  | inr apart ↦ rw (apart.0) (ap (λ rest. head ∷ rest)
      (without-absent list gone (sym (ap (λ b. b || has list gone) apart.0) ∙ absent)))
]

first-without : (next before : ℕ → Option ℕ) (first : Option ℕ) (list : List ℕ) (last : Option ℕ) (gone : ℕ)
    → AreLinked next before None first list last → first ≡ Some gone → without list gone ≡ drop 1 list
first-without next before first [] last gone linked is = refl
first-without next before first (head ∷ list) last gone linked is =
    grind (arith, common_steps, leads_back, without-absent)

module _ (cells : List Cell) (ends : List Ends) (lists : List (List ℕ)) (table : IsTable cells ends lists) where
  -- an absent cell is taken out of no list
  pub absent-unlinked : (cell : ℕ) → (cell_at cells cell).holder ≡ None → without_cell lists cell ≡ lists
  absent-unlinked cell none = ext_get_or [] (without_cell lists cell) lists (length-map lists (λ list. without list cell)) (λ list below.
      get_or-map (λ list. without list cell) lists list [] ∙ without-absent (nth lists list) cell
      (sym (table.held cell list) ∙ ap (λ holder. is_number holder list) none))

  -- the first cell of a list is taken out of that one alone
  pub first-unlinked : (list gone : ℕ) → list < length ends → (ends_at ends list).first ≡ Some gone
      → without_cell lists gone ≡ set lists list (drop 1 (nth lists list))
  first-unlinked list gone there is = ext_get_or [] (without_cell lists gone) (set lists list (drop 1 (nth lists list)))
      (length-map lists (λ list. without list gone) ∙ sym (length-set lists list _)) (λ other below.
      get_or-map (λ list. without list gone) lists other [] ∙ elim (eqb_tells list other) [
        | inl same ↦ subst (λ other. without (nth lists other) gone ≡ nth (set lists list (drop 1 (nth lists list))) other)
            same.1 (first-without (next_in cells) (before_in cells) (ends_at ends list).first (nth lists list)
            (ends_at ends list).last gone (table.linked list) is
            ∙ sym (get_or-set_same lists list _ _ (omega (arith, there, table.sized))))
        | inr apart ↦
            let absent : has (nth lists other) gone ≡ false = elim (cases_Bool (has (nth lists other) gone)) [
              | inl has_it ↦ absurd (apart.1 (one_holder cells ends lists table list other gone
                  (first_in cells ends lists table list gone is) has_it))
              | inr absent ↦ absent
            ] in
            without-absent (nth lists other) gone absent
            ∙ sym (get_or-set_other lists list other _ _ (λ same. apart.1 (sym same)))
      ])

-- ---- what the fields tell

module _ (links : Inside) (now : LinksData) (view : links_data links ≡ now) (kept : IsKept links) where
  abbrev cells : List Cell
  cells = links.cells.items

  abbrev ends : List Ends
  ends = links.ends.items

  abbrev lists : List (List ℕ)
  lists = lists_in cells ends

  pub holder_now : (cell : ℕ) → (cell_at cells cell).holder ≡ holder_of now cell
  holder_now cell = sym (holder-read cells ends lists kept cell) ∙ ap (λ (links : LinksData). holder_of links cell) view

  first_now : (list : ℕ) → (ends_at ends list).first ≡ first_of now list
  first_now list = first-read cells ends lists kept list ∙ ap (λ (links : LinksData). first_of links list) view

  -- a cell, as the code reads it
  cell_read : (cell : ℕ) (read : Cell) → cell < now.cells → read ≡ get_or cells cell read → read ≡ cell_at cells cell
  cell_read cell read below is =
      is ∙ get_or_default cells cell read _ (subst (λ (links : LinksData). cell < links.cells) (sym view) below)

  pub holder_is : (cell : ℕ) (read : Cell) → cell < now.cells → read ≡ get_or cells cell read
      → (read.holder ≡ holder_of now cell) × IfSome read.holder (λ list. list < length now.lists)
  holder_is cell read below is = grind (arith, common_steps, cell_read, holder_now)

  pub next_is : (cell : ℕ) (read : Cell) → cell < now.cells → read ≡ get_or cells cell read
      → (read.next ≡ next_of now cell) × IfSome read.next (λ other. other < now.cells)
  next_is cell read below is =
      let here = cell_read cell read below is in (
        ap (λ (at : Cell). at.next) here ∙ next-read cells ends lists kept cell
            ∙ ap (λ (links : LinksData). next_of links cell) view,
        subst (λ (links : LinksData). IfSome read.next (λ other. other < links.cells)) view
            (rw here (next_within cells ends lists kept cell)),
      )

  -- the ends of a list, as the code reads them
  ends_read : (list : ℕ) (read : Ends) → list < length now.lists → read ≡ get_or ends list read → read ≡ ends_at ends list
  ends_read list read below is =
      let within : list < length lists = subst (λ (links : LinksData). list < length links.lists) (sym view) below in
      is ∙ get_or_default ends list read _ (omega (arith, within, kept.sized))

  pub first_is : (list : ℕ) (read : Ends) → list < length now.lists → read ≡ get_or ends list read
      → (read.first ≡ first_of now list) × IfSome read.first (λ cell. cell < now.cells)
  first_is list read below is =
      let here = ends_read list read below is in (
        ap (λ (at : Ends). at.first) here ∙ first_now list,
        subst (λ (links : LinksData). IfSome read.first (λ cell. cell < links.cells)) view
            (rw here (first_within cells ends lists kept list)),
      )

  pub last_is : (list : ℕ) (read : Ends) → list < length now.lists → read ≡ get_or ends list read
      → (read.last ≡ last_of now list) × IfSome read.last (λ cell. cell < now.cells)
  last_is list read below is =
      let here = ends_read list read below is in (
        ap (λ (at : Ends). at.last) here ∙ last-read cells ends lists kept list
            ∙ ap (λ (links : LinksData). last_of links list) view,
        subst (λ (links : LinksData). IfSome read.last (λ cell. cell < links.cells)) view
            (rw here (last_within cells ends lists kept list)),
      )

  -- the first cell of a list has it as its holder, and is taken out of that one alone
  pub first_held : (list first : ℕ) → first_of now list ≡ Some first → ((cell_at cells first).holder ≡ Some list)
      × (without_cell lists first ≡ set lists list (drop 1 (nth lists list)))
  first_held list first is =
      let here : (ends_at ends list).first ≡ Some first = first_now list ∙ is in
      let has_it = first_in cells ends lists kept list first here in (
        number_here (cell_at cells first).holder list (kept.held first list ∙ has_it),
        first-unlinked cells ends lists kept list first (list_within cells ends lists kept list first has_it) here,
      )
