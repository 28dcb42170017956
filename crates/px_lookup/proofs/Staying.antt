-- What a tolerance has latched is as at the mark where no change since has another value.
use Rattle.std.proofs.Common.{◌≡◌, ℕ, zero, suc, Bool, true, false, cond, List, [], ◌∷◌, slice_get, Option, Some, None, IsSome, All, refl, ap, ◌∙◌, if◌then◌else◌}
use Rattle.std.specs.List.{AllZip}
use Rattle.std.specs.Option.{ForSome, option_and_then, unwrap_or}
use Rattle.std.proofs.lemmas.List.Elements.{All-head, All-tail}
use Rattle.indexmap.specs.IndexMap.{set_value_at}
use Rattle.px_value.specs.declared.value.Value.{Value}
use Rattle.px_sem.specs.World.{LookState, Report, is_same_state, latched_at, latched_report, report_at}
use Rattle.px_lookup.specs.declared.reports.Change.{Change}
use Rattle.px_lookup.specs.declared.reports.Change.TheVariants as changes
use Rattle.px_lookup.specs.Undoing.{IsAsLatched, undone_each}

module _ (tolerance : ℕ) where
  -- the same states in the same order, and of each the same latched value
  abbrev AreAlike : List (LookState × Report) → List (LookState × Report) → Type 0
  AreAlike = AllZip (λ x y. (x.0 ≡ y.0) × (latched_at x.1 tolerance ≡ latched_at y.1 tolerance))

  alike_itself : (xs : List (LookState × Report)) → AreAlike xs xs
  alike_itself [] = tt
  alike_itself (x ∷ xs) = ((refl, refl), alike_itself xs)

  -- still alike where a report stands in place of one that has the same latched value
  alike_set : (xs ys : List (LookState × Report)) (at : ℕ) (old : Report) → AreAlike xs ys
      → ForSome (slice_get ys at) (λ entry. latched_at old tolerance ≡ latched_at entry.1 tolerance)
      → AreAlike (set_value_at xs at old) ys
  alike_set [] [] at old alike same = tt
  alike_set [] (y ∷ ys) at old alike same = absurd alike
  alike_set (x ∷ xs) [] at old alike same = absurd alike
  alike_set (x ∷ xs) (y ∷ ys) zero old alike same = ((alike.0.0, same y refl), alike.1)
  alike_set (x ∷ xs) (y ∷ ys) (suc at) old alike same = (alike.0, alike_set xs ys at old alike.1 same)

  alike_before : (changes : List Change) (now : List (LookState × Report)) → All (IsAsLatched now tolerance) changes
      → AreAlike (undone_each changes now) now
  alike_before [] now all = alike_itself now
  alike_before (changes.Replaced at old ∷ later) now all =
      alike_set (undone_each later now) now at old
      (alike_before later now (All-tail (IsAsLatched now tolerance) (changes.Replaced at old) later all))
      (All-head (IsAsLatched now tolerance) (changes.Replaced at old) later all)
  alike_before (changes.Added ∷ later) now all =
      absurd (All-head (IsAsLatched now tolerance) changes.Added later all)

  alike_latched : (xs ys : List (LookState × Report)) (state : LookState) → AreAlike xs ys
      → latched_report xs state tolerance ≡ latched_report ys state tolerance
  alike_latched [] [] state alike = refl
  alike_latched [] (y ∷ ys) state alike = absurd alike
  alike_latched (x ∷ xs) [] state alike = absurd alike
  alike_latched (x ∷ xs) (y ∷ ys) state alike =
      ap (λ key. latched (cond (is_same_state key state) (Some x.1) (report_at xs state))) alike.0.0
      ∙ by (is_same_state y.0 state) (alike_latched xs ys state alike.1)
    where
      latched : Option Report → Option Value
      latched found = option_and_then (λ report. latched_at report tolerance) found

      by : (same : Bool) → latched (report_at xs state) ≡ latched (report_at ys state)
          → latched (cond same (Some x.1) (report_at xs state)) ≡ latched (cond same (Some y.1) (report_at ys state))
      by true rest = alike.0.1
      by false rest = rest

  stayed : (changes : List Change) (now : List (LookState × Report)) → All (IsAsLatched now tolerance) changes
      → (state : LookState) → latched_report (undone_each changes now) state tolerance ≡ latched_report now state tolerance
  stayed changes now all state = alike_latched (undone_each changes now) now state (alike_before changes now all)

  -- so where a mark stands
  pub stayed_since : (is_marked : Bool) (changes : List Change) (now : List (LookState × Report))
      → IsSome (if is_marked then Some (undone_each changes now) else None) → All (IsAsLatched now tolerance) changes
      → (state : LookState)
      → latched_report (unwrap_or (if is_marked then Some (undone_each changes now) else None) []) state tolerance
      ≡ latched_report now state tolerance
  stayed_since true changes now some all state = stayed changes now all state
  stayed_since false changes now some all state = absurd (cc some)
