-- One thread more is named.
use Rattle.std.proofs.Common.{◌≡◌, ℕ, true, false, cond, List, [], ◌∷◌, ◌++◌, Option, Some, None, refl, ap, ◌∙◌, inl, inr}
use Rattle.std.specs.Prelude.{◌&&◌, ◌==◌, is_none}
use Rattle.std.proofs.lemmas.Bool.{and_parts, and_from, cases_Bool}
use Rattle.px_value.proofs.General.{differs_turned, is_none-None}
use Rattle.px_event.specs.Fit.{is_report_name}
use Rattle.px_event.specs.Names.{name_of, are_names}
use Rattle.px_event.specs.declared.names.ThreadName.{ThreadName}

-- a thread without a name has none in the first row and none behind it
unnamed_parts : (thread : ℕ) (row : ThreadName) (later : List ThreadName) → name_of thread (row ∷ later) ≡ None
    → ((row.thread == thread) ≡ false) × (name_of thread later ≡ None)
unnamed_parts thread row later none = elim (cases_Bool (row.thread == thread)) [
  | inl same ↦ absurd (let found : Some row.name ≡ None = rw same at none in cc)
  | inr other ↦ (other, rw other at none)
]

-- the name, where there is one more row behind those with this one
abbrev pub or_row : ℕ → ThreadName → Option (List ℕ) → Option (List ℕ)
or_row thread row None = cond (row.thread == thread) (Some row.name) None
or_row thread row (Some name) = Some name

pub name_push : (thread : ℕ) (rows : List ThreadName) (row : ThreadName) → name_of thread (rows ++ row ∷ []) ≡ or_row thread row (name_of thread rows)
name_push thread [] row = refl
name_push thread (first ∷ rows) row = elim (cases_Bool (first.thread == thread)) [
  | inl is ↦ rw is refl
  | inr isnt ↦ rw isnt (name_push thread rows row)
]

unnamed-push : (thread : ℕ) (rows : List ThreadName) (row : ThreadName) → name_of thread rows ≡ None → (row.thread == thread) ≡ false
    → name_of thread (rows ++ row ∷ []) ≡ None
unnamed-push thread rows row none other =
    name_push thread rows row ∙ ap (or_row thread row) none ∙ ap (λ same. cond same (Some row.name) None) other

pub are_names-push : (rows : List ThreadName) (row : ThreadName) → are_names rows ≡ true → name_of row.thread rows ≡ None → is_report_name row.name ≡ true
    → are_names (rows ++ row ∷ []) ≡ true
are_names-push [] row names none fit = and_from (is_report_name row.name && true) true (and_from (is_report_name row.name) true fit refl) refl
are_names-push (first ∷ later) row names none fit =
    let parts = unnamed_parts row.thread first later none in
    let more = later ++ row ∷ [] in
    let named = is_report_name first.name in
    let outer = and_parts (named && is_none (name_of first.thread later)) (are_names later) names in
    let inner = and_parts named (is_none (name_of first.thread later)) (outer.0) in
    let still : name_of first.thread more ≡ None = unnamed-push first.thread later row (is_none-None (name_of first.thread later) (inner.1)) (differs_turned first.thread row.thread (parts.0)) in
    and_from (named && is_none (name_of first.thread more)) (are_names more)
    (and_from named (is_none (name_of first.thread more)) (inner.0) (ap is_none still))
    (are_names-push later row (outer.1) (parts.1) fit)
