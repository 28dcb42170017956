-- The values at the mark, as cells are written and go back.
use Rattle.std.proofs.Common.{◌≡◌, ℕ, zero, suc, true, false, List, [], ◌∷◌, length, set, get_or, slice_get, Option, Some, None, is_some, refl, ap, sym, ◌∙◌, arith}
use Rattle.std.specs.Option.{unwrap_or}
use Rattle.std.proofs.lemmas.List.{set-get_or}
use Rattle.std.proofs.option.Match.{None-if_not_some}
use Rattle.px_value.proofs.General.{told_of}
use Rattle.px_cells.specs.Marks.{at_mark, NoneKept}

module _ {T : Type 0} where
  -- where no cell keeps an old value, the present values are those of the mark
  pub at_mark-none : (olds : List (Option T)) (values : List T) → length olds ≡ length values → NoneKept olds
      → at_mark olds values ≡ values
  at_mark-none [] [] long none = refl
  at_mark-none [] (value ∷ values) long none = absurd (omega arith)
  at_mark-none (old ∷ olds) [] long none = absurd (omega arith)
  at_mark-none (None ∷ olds) (value ∷ values) long none =
      ap (λ rest. value ∷ rest) (at_mark-none olds values (omega arith) (λ at. none (suc at)))
  at_mark-none (Some old ∷ olds) (value ∷ values) long none = absurd (cc (none 0))

  -- a cell is written, and the value that it has at the mark stays
  at_mark-set : (olds : List (Option T)) (values : List T) (at : ℕ) (old : Option T) (value d : T)
      → unwrap_or old value ≡ unwrap_or (get_or olds at None) (get_or values at d)
      → at_mark (set olds at old) (set values at value) ≡ at_mark olds values
  at_mark-set [] values at old value d same = refl
  at_mark-set (first ∷ olds) [] zero old value d same = refl
  at_mark-set (first ∷ olds) [] (suc at) old value d same = refl
  at_mark-set (first ∷ olds) (v ∷ values) zero old value d same = ap (λ one. one ∷ at_mark olds values) same
  at_mark-set (first ∷ olds) (v ∷ values) (suc at) old value d same =
      ap (λ rest. unwrap_or first v ∷ rest) (at_mark-set olds values at old value d same)

  -- a cell that keeps an old value is written again
  pub at_mark-again : (olds : List (Option T)) (values : List T) (at : ℕ) (value : T)
      → is_some (get_or olds at None) ≡ true → at_mark olds (set values at value) ≡ at_mark olds values
  at_mark-again olds values at value kept =
      let old = told_of (get_or olds at None) kept in
      ap (λ olds. at_mark olds (set values at value)) (sym (set-get_or olds at None))
      ∙ at_mark-set olds values at (get_or olds at None) value value
      (ap (λ keeps. unwrap_or keeps value) old.1 ∙ sym (ap (λ keeps. unwrap_or keeps (get_or values at value)) old.1))

  -- a cell is written that keeps none, and keeps the value that it had
  pub at_mark-first : (olds : List (Option T)) (values : List T) (at : ℕ) (value d : T)
      → is_some (get_or olds at None) ≡ false
      → at_mark (set olds at (Some (get_or values at d))) (set values at value) ≡ at_mark olds values
  at_mark-first olds values at value d kept = at_mark-set olds values at (Some (get_or values at d)) value d
      (ap (λ keeps. unwrap_or keeps (get_or values at d)) (sym (None-if_not_some (get_or olds at None) kept)))

  -- a cell goes back to the old value that it keeps
  pub at_mark-back : (olds : List (Option T)) (values : List T) (at : ℕ) (old : T)
      → get_or olds at None ≡ Some old → at_mark (set olds at None) (set values at old) ≡ at_mark olds values
  at_mark-back olds values at old kept = at_mark-set olds values at None old old
      (sym (ap (λ keeps. unwrap_or keeps (get_or values at old)) kept))

  -- a cell that keeps no old value has the value of the mark
  pub at_mark-slice : (olds : List (Option T)) (values : List T) (at : ℕ) → length olds ≡ length values
      → is_some (get_or olds at None) ≡ false → slice_get values at ≡ slice_get (at_mark olds values) at
  at_mark-slice [] [] at long kept = refl
  at_mark-slice [] (v ∷ values) at long kept = absurd (omega arith)
  at_mark-slice (old ∷ olds) [] at long kept = absurd (omega arith)
  at_mark-slice (None ∷ olds) (v ∷ values) zero long kept = refl
  at_mark-slice (Some old ∷ olds) (v ∷ values) zero long kept = absurd (cc)
  at_mark-slice (old ∷ olds) (v ∷ values) (suc at) long kept = at_mark-slice olds values at (omega arith) kept
