-- Rows: what an argument has behind one more value of it, and of another.
use Rattle.std.proofs.Common.{true≢false, ◌≡◌, true, false, cond, List, [], ◌∷◌, ◌++◌, Option, Some, refl, ap, inl, inr, is_some, codes}
use Rattle.std.specs.Prelude.{find}
use Rattle.std.specs.Str.{bytes_eq}
use Rattle.std.proofs.lemmas.Bool.{cases_Bool}
use Rattle.std.proofs.lemmas.Slice.Eq.{bytes_eq-Decides}
use Rattle.clap.specs.Walk.{Row, Text, first_of, has_row, with_values, without}
use Rattle.clap.specs.declared.builder.value_parser.Reading.{Reading}
use Rattle.clap.specs.declared.parser.matches.ValueSource.{ValueSource}
use Rattle.px_words.specs.Line.{operands_in}

-- the row of an argument
abbrev pub row_at : Text → List Row → Option Row
row_at id rows = find (λ r. bytes_eq r.id id) rows

-- the id of a row is not that of another argument
other_id : (x id other : Text) → bytes_eq id other ≡ false → bytes_eq x id ≡ true → bytes_eq x other ≡ false
other_id x id other differs is = rw ((bytes_eq-Decides x id).0 is) differs

pub other_row : (id other : Text) (how : Reading) (source : ValueSource) (values : List Text) (rows : List Row) → bytes_eq id other ≡ false
    → row_at other (with_values id how source values rows) ≡ row_at other rows
other_row id other how source values [] differs = rw differs refl
other_row id other how source values (r ∷ rows) differs = elim (cases_Bool (bytes_eq r.id id)) [
  | inl is ↦ rw (is, other_id r.id id other differs is) refl
  | inr isnt ↦ rw isnt (ap (λ found. cond (bytes_eq r.id other) (Some r) found) (other_row id other how source values rows differs))
]

pub has_row_is : (id : Text) (rows : List Row) → has_row id rows ≡ is_some (row_at id rows)
has_row_is id [] = refl
has_row_is id (r ∷ rows) = elim (cases_Bool (bytes_eq r.id id)) [
  | inl is ↦ rw is refl
  | inr isnt ↦ rw isnt (has_row_is id rows)
]

-- where there is no row, none goes
pub none_goes : (id : Text) (rows : List Row) → has_row id rows ≡ false → without id rows ≡ rows
none_goes id [] none = refl
none_goes id (r ∷ rows) none = elim (cases_Bool (bytes_eq r.id id)) [
  | inl is ↦ absurd (true≢false (rw is at none))
  | inr isnt ↦ rw isnt (ap (λ rest. r ∷ rest) (none_goes id rows (rw isnt at none)))
]

pub operand_added : (how : Reading) (source : ValueSource) (values : List Text) (rows : List Row)
    → operands_in (with_values (codes "operands") how source values rows) ≡ operands_in rows ++ values
operand_added how source values [] = refl
operand_added how source values (r ∷ rows) = elim (cases_Bool (bytes_eq r.id (codes "operands"))) [
  | inl is ↦ rw (is, is) refl
  | inr isnt ↦ rw (isnt, isnt) (operand_added how source values rows)
]

pub number_added : (how : Reading) (source : ValueSource) (number : Text) (rows : List Row) → has_row (codes "events") rows ≡ false
    → first_of (codes "events") (with_values (codes "events") how source (number ∷ []) rows) ≡ Some number
number_added how source number [] none = refl
number_added how source number (r ∷ rows) none = elim (cases_Bool (bytes_eq r.id (codes "events"))) [
  | inl is ↦ absurd (true≢false (rw is at none))
  | inr isnt ↦ rw (isnt, isnt) (number_added how source number rows (rw isnt at none))
]
