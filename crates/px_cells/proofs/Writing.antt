-- What a write does to what cells hold.
use Rattle.std.proofs.Common.{◌≡◌, ℕ, ◌+◌, ◌<◌, Bool, true, false, List, [], ◌∷◌, ◌++◌, length, set, take, get_or, Option, Some, None, is_some, IsSome, IsNone, refl, sym, ◌∙◌, if◌then◌else◌}
use Rattle.std.proofs.lemmas.List.{take_more, take_more_set}
use Rattle.px_cells.specs.Marked.{Contents, written, with_mark}
use Rattle.px_cells.specs.Marks.{at_mark, AreNoted, NoneKept}
use Rattle.px_cells.proofs.Marking.{at_mark-none, at_mark-again, at_mark-first}

module _ {T : Type 0} where
  -- what cells hold
  abbrev pub held : Bool → List (Option T) → List T → List ℕ → Contents T
  held is_marked olds values changed = record {
    values = values;
    marked = if is_marked then Some (at_mark olds values) else None;
    changed = changed;
  }

  -- the first write of a cell since the mark
  pub first_write : (is_marked : Bool) (olds : List (Option T)) (values : List T) (changed : List ℕ) (at : ℕ)
      (value d : T)
      → is_marked ≡ true → AreNoted olds changed → is_some (get_or olds at None) ≡ false
      → held is_marked (set olds at (Some (get_or values at d))) (set values at value) (changed ++ at ∷ [])
      ≡ written (held is_marked olds values changed) at value
  first_write false olds values changed at value d marked noted none = absurd (cc)
  first_write true olds values changed at value d marked noted none = λ i. record {
    values = set values at value;
    marked = Some (at_mark-first olds values at value d none i);
    changed = if (sym (sym (noted at) ∙ none) i) then changed else changed ++ at ∷ [];
  }

  -- a later one
  pub later_write : (is_marked : Bool) (olds : List (Option T)) (values : List T) (changed : List ℕ) (at : ℕ)
      (value : T)
      → is_marked ≡ true → AreNoted olds changed → is_some (get_or olds at None) ≡ true
      → held is_marked olds (set values at value) changed ≡ written (held is_marked olds values changed) at value
  later_write false olds values changed at value marked noted kept = absurd (cc)
  later_write true olds values changed at value marked noted kept = λ i. record {
    values = set values at value;
    marked = Some (at_mark-again olds values at value kept i);
    changed = if (sym (sym (noted at) ∙ kept) i) then changed else changed ++ at ∷ [];
  }

  -- a write where no mark stands
  pub free_write : (is_marked : Bool) (olds : List (Option T)) (values : List T) (changed : List ℕ) (at : ℕ)
      (value : T)
      → is_marked ≡ false
      → held is_marked olds (set values at value) changed ≡ written (held is_marked olds values changed) at value
  free_write true olds values changed at value free = absurd (cc)
  free_write false olds values changed at value free = refl

  -- a mark is set
  pub set_mark : (olds : List (Option T)) (values : List T) (changed : List ℕ) (before : Contents T)
      → length olds ≡ length values → NoneKept olds → changed ≡ [] → before.values ≡ values
      → held true olds values changed ≡ with_mark before
  set_mark olds values changed before sized none empty same = λ i. record {
    values = sym same i;
    marked = Some ((at_mark-none olds values sized none ∙ sym same) i);
    changed = empty i;
  }

  -- whether a mark stands
  pub is_free : (is_marked : Bool) (olds : List (Option T)) (values : List T) (changed : List ℕ)
      → IsNone (held is_marked olds values changed).marked → is_marked ≡ false
  is_free true olds values changed none = absurd (cc)
  is_free false olds values changed none = refl

  -- the values at the mark where one stands
  pub marked_is : (is_marked : Bool) (olds : List (Option T)) (values : List T) (changed : List ℕ)
      → IsSome (held is_marked olds values changed).marked
      → (held is_marked olds values changed).marked ≡ Some (at_mark olds values)
  marked_is true olds values changed some = refl
  marked_is false olds values changed some = absurd (cc)

  -- a value is written behind those that are as wanted already
  pub front_more : (values wanted : List T) (at : ℕ) (value d : T) → at < length values → at < length wanted
      → take at values ≡ take at wanted → get_or wanted at d ≡ value
      → take (at + 1) (set values at value) ≡ take (at + 1) wanted
  front_more values wanted at value d written is_there same is =
      take_more_set values at value written ∙ (λ i. same i ++ sym is i ∷ []) ∙ sym (take_more wanted at d is_there)
