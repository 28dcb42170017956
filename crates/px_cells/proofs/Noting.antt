-- Which cells keep an old value.
use Rattle.std.proofs.Common.{◌≡◌, ℕ, ◌+◌, ◌*◌, ◌^◌, ◌<◌, ◌≤◌, Fits, w64, arith, true, false, ◌||◌, nat_eq, List, [], ◌∷◌, ◌++◌, length, map, set, get_or, slice_get, drop, Option, Some, None, is_some, ap, sym, ◌∙◌, inl, inr, Contains}
use Rattle.std.specs.List.{list_any}
use Rattle.std.proofs.lemmas.Bool.{cases_Bool}
use Rattle.std.proofs.lemmas.Bool.Decides.{eqb_tells}
use Rattle.std.proofs.lemmas.List.{get_or-set_same, get_or-set_other, length-map, length-set, map-set, set-get_or, drop_more, drop_all}
use Rattle.std.proofs.Math.ListN.{get_or-map}
use Rattle.std.proofs.Math.Nat.{mul-le-mul_right}
use Rattle.px_cells.specs.Marks.{AreFlagged, AreNoted, NoneKept, at_mark}
use Rattle.px_cells.proofs.Flagging.{all_below, flagged-push, not_noted}
use Rattle.px_cells.proofs.Marking.{at_mark-back, at_mark-slice}

module _ {T : Type 0} where
  -- whether a cell keeps an old value is a flag beside it
  flags_kept : (olds : List (Option T)) (changed : List ℕ) → AreNoted olds changed → AreFlagged (map is_some olds) changed
  flags_kept olds changed noted at = get_or-map is_some olds at None ∙ noted at

  -- so a changed cell is one of the cells
  pub changed_within : (olds : List (Option T)) (changed : List ℕ) (k d : ℕ) → AreNoted olds changed
      → k < length changed → get_or changed k d < length olds
  changed_within olds changed k d noted within =
      omega (arith, length-map olds is_some, all_below (map is_some olds) changed (flags_kept olds changed noted) k d within)

  -- so far from the first lies what stands at a changed number, where all have room together
  pub offset_fits : (olds : List (Option T)) (changed : List ℕ) (k size : ℕ) → AreNoted olds changed → k < length changed
      → (count : ℕ) → length olds ≡ count → count * size < 2 ^ 63 → Fits w64 (get_or changed k 0 * size)
  offset_fits olds changed k size noted within count many room =
      let there : get_or changed k 0 < length olds = changed_within olds changed k 0 noted within in
      let near : get_or changed k 0 ≤ count = omega (arith, there, many) in
      omega (arith, mul-le-mul_right size near, room)

  -- what is among no changed cells keeps no old value
  pub other_kept : (olds : List (Option T)) (changed : List ℕ) (at : ℕ) → AreNoted olds changed
      → (Contains changed at → ⊥) → is_some (get_or olds at None) ≡ false
  other_kept olds changed at noted other = noted at ∙ not_noted changed at other

  -- a cell is noted as it keeps its value
  pub noted_first : (olds : List (Option T)) (changed : List ℕ) (at : ℕ) (value : T) → AreNoted olds changed
      → at < length olds → AreNoted (set olds at (Some value)) (changed ++ at ∷ [])
  noted_first olds changed at value noted within k =
      sym (get_or-map is_some (set olds at (Some value)) k None)
      ∙ ap (λ flags. get_or flags k false) (map-set is_some olds at (Some value))
      ∙ flagged-push (map is_some olds) changed (flags_kept olds changed noted) at (omega (arith, within, length-map olds is_some)) k

  -- ---- going over the changed cells, each of which gives its old value up

  -- what keeps an old value still stands behind
  abbrev pub AreLeft : List (Option T) → List ℕ → ℕ → Type 0
  AreLeft olds changed i =
      (at : ℕ) → is_some (get_or olds at None) ≡ true → list_any (nat_eq at) (drop i changed) ≡ true

  pub left_next : (olds : List (Option T)) (changed : List ℕ) (i d : ℕ) → i < length changed
      → get_or changed i d < length olds → AreLeft olds changed i
      → AreLeft (set olds (get_or changed i d) None) changed (i + 1)
  left_next olds changed i d within there left k kept = elim (eqb_tells k (get_or changed i d)) [
    | inl same ↦
        absurd (cc (sym kept ∙ ap (λ n. is_some (get_or (set olds (get_or changed i d) None) n None)) same.1
        ∙ ap is_some (get_or-set_same olds (get_or changed i d) None None there)))
    | inr other ↦
        let before : list_any (nat_eq k) (drop i changed) ≡ true =
        left k (sym (ap is_some (get_or-set_other olds (get_or changed i d) k None None other.1)) ∙ kept) in
        sym (ap (λ b. b || list_any (nat_eq k) (drop (i + 1) changed)) other.0)
        ∙ sym (ap (list_any (nat_eq k)) (drop_more changed i d within)) ∙ before
  ]

  pub left_none : (olds : List (Option T)) (changed : List ℕ) (i : ℕ) → length changed ≤ i → AreLeft olds changed i
      → NoneKept olds
  left_none olds changed i past left at = elim (cases_Bool (is_some (get_or olds at None))) [
    | inl is ↦ absurd (cc (sym (left at is) ∙ ap (list_any (nat_eq at)) (drop_all i changed past)))
    | inr is ↦ is
  ]

  -- the first cells have gone back
  pub record GoesBack (kept : List (Option T)) (before : List T) (changed : List ℕ) (i : ℕ)
      (olds : List (Option T)) (values : List T) : Type 0 where
    pub same : at_mark olds values ≡ at_mark kept before
    pub sized : length olds ≡ length values
    pub as_many : length values ≡ length before
    pub left : AreLeft olds changed i

  -- one cell more has gone back to the old value that it keeps
  pub back_to_old : (kept : List (Option T)) (before : List T) (changed : List ℕ) (i d : ℕ)
      (olds : List (Option T)) (values : List T) (old : T)
      → GoesBack kept before changed i olds values → i < length changed → get_or changed i d < length olds
      → get_or olds (get_or changed i d) None ≡ Some old
      → GoesBack kept before changed (i + 1) (set olds (get_or changed i d) None) (set values (get_or changed i d) old)
  back_to_old kept before changed i d olds values old back within there is =
      let at : ℕ = get_or changed i d in
      record {
        same = at_mark-back olds values at old is ∙ back.same;
        sized = length-set olds at None ∙ back.sized ∙ sym (length-set values at old);
        as_many = length-set values at old ∙ back.as_many;
        left = left_next olds changed i d within there back.left;
      }

  -- one cell more keeps no old value
  pub back_to_none : (kept : List (Option T)) (before : List T) (changed : List ℕ) (i d : ℕ)
      (olds : List (Option T)) (values : List T)
      → GoesBack kept before changed i olds values → i < length changed → get_or changed i d < length olds
      → get_or olds (get_or changed i d) None ≡ None
      → GoesBack kept before changed (i + 1) (set olds (get_or changed i d) None) values
  back_to_none kept before changed i d olds values back within there is =
      let at : ℕ = get_or changed i d in
      let stays : set olds at None ≡ olds = sym (ap (set olds at) is) ∙ set-get_or olds at None in
      record {
        same = ap (λ olds. at_mark olds values) stays ∙ back.same;
        sized = ap length stays ∙ back.sized;
        as_many = back.as_many;
        left = left_next olds changed i d within there back.left;
      }

  -- a cell that is not among the changed ones has the value of the mark
  pub others_same : (olds : List (Option T)) (values : List T) (changed : List ℕ) (at : ℕ)
      → length olds ≡ length values → AreNoted olds changed → (Contains changed at → ⊥)
      → slice_get values at ≡ slice_get (at_mark olds values) at
  others_same olds values changed at sized noted other =
      at_mark-slice olds values at sized (other_kept olds changed at noted other)
