-- What the reader of command lines finds in words is what they ask for.
use Rattle.std.proofs.Common.{◌≡◌, ◌⊎◌, ℕ, Bool, true, false, List, [], ◌∷◌, ◌++◌, Option, Some, None, refl, sym, ap, ◌∙◌, inl, inr, is_some, codes, get_or, IsUtf8, String, append_assoc, append-nil, map}
use Rattle.std.specs.Prelude.{option_and_then, option_map, slice_get, unwrap_or}
use Rattle.std.specs.List.{AllByRecursion}
use Rattle.std.specs.String.{string_bytes}
use Rattle.std.specs.Str.{bytes_eq}
use Rattle.std.proofs.lemmas.Bool.{cases_Bool}
use Rattle.std.proofs.lemmas.List.Elements.{All-map, recursion_from_All}
use Rattle.std.proofs.lemmas.Option.{option_and_then_some}
use Rattle.std.proofs.lemmas.Slice.Eq.{bytes_eq-Decides}
use Rattle.std.proofs.lemmas.Str.{IsUtf8-string_bytes}
use Rattle.std.proofs.option.Match.{None-if_not_some}
use Rattle.px_value.proofs.General.{option_map-map}
use Rattle.px_core.specs.Plan.{is_same}
use Rattle.clap.specs.Walk.{Held, Row, Text, Waiting, is_empty, first_of, has_row, idle, option, positional, with_values, without}
use Rattle.clap.specs.declared.builder.value_parser.Reading.TheVariants.{AsWritten}
use Rattle.clap.specs.declared.parser.matches.ValueSource.TheVariants.{CommandLine}
use Rattle.px_words.specs.Limited.{Limited, with_limit, with_operand, with_front, count_of, limited_by, limited_by_next, behind_option, limited}
use Rattle.px_words.specs.Line.{operands_in, limit_of, line_in}
use Rattle.px_words.specs.Operands.{operands}
use Rattle.px_words.proofs.Rows.{row_at, other_row, has_row_is, none_goes, operand_added, number_added}
use Rattle.px_words.proofs.Spelling.{IsLong, Kind, plain, dashes, short, long, kind_of}
use Rattle.px_words.proofs.Walking.{IsDoomed, Settles, at, ready, read_on, no_more, stops, behind_operand, operand_row, operand_settles, trailing_on, plain_fault, plain_on, dashes_on, short_stops, unknown_stops, other_unknown, behind_number, behind_name, behind_next, number_fault, number_on, name_on, taken_on, long_stops, doomed_behind, doomed_end}

abbrev pub AreTexts : List Text → Type 0
AreTexts words = AllByRecursion IsUtf8 words

-- what is pending has failed
doomed_idle : (limits is_behind : Bool) (held : Held) (words : List Text) → IsDoomed limits held → held.skip ≡ 0 → AreTexts words
    → read_on limits (at held (ready is_behind) false) words ≡ None
doomed_idle limits is_behind held [] doomed skip texts = doomed_end limits (at held (ready is_behind) false) doomed
doomed_idle limits is_behind held (word ∷ words) doomed skip texts = by (kind_of word texts.0)
  where
    by : Kind word → read_on limits (at held (ready is_behind) false) (word ∷ words) ≡ None
    by (plain p) = stops limits (at held (ready is_behind) false) word words (ap is_empty (plain_fault limits is_behind held word p) ∙ doomed)
    by (dashes is) = dashes_on limits held (ready is_behind) word words is ∙ doomed_behind limits held (ready is_behind) words doomed
    by (short h) = short_stops limits held (ready is_behind) word words skip h
    by (long l) = long_stops limits held (ready is_behind) word words l doomed

-- where the option's number is to come, the next word is it, or the reading fails and it is none
abbrev awaiting : Held → List Text → Option (List Row)
awaiting held words = read_on true (at (behind_name held) (option (codes "events")) false) words

none_awaits : (held : Held) → awaiting held [] ≡ None
none_awaits held = doomed_end true (at (behind_name held) (option (codes "events")) false) refl

dashes_count : (word : Text) → is_same word (codes "--") ≡ true → count_of word ≡ None
dashes_count word is = let same : word ≡ codes "--" = (bytes_eq-Decides word (codes "--")).0 is in rw same refl

awaits : (held : Held) (number : Text) (words : List Text) → held.skip ≡ 0 → Kind number
    → ((awaiting held (number ∷ words) ≡ None) × (count_of number ≡ None)) ⊎ (awaiting held (number ∷ words) ≡ read_on true (at (behind_next held number) idle false) words)
awaits held number words skip (plain p) = inr (taken_on held number words p)
awaits held number words skip (dashes is) = inl (
  dashes_on true (behind_name held) (option (codes "events")) number words is ∙ doomed_behind true (behind_name held) (option (codes "events")) words refl,
  dashes_count number is,
)
awaits held number words skip (short s) = inl (short_stops true (behind_name held) (option (codes "events")) number words skip s, s.count)
awaits held number words skip (long l) = inl (long_stops true (behind_name held) (option (codes "events")) number words l refl, l.count)

-- ---- what is read so far, and what more operands make of it

-- operands, with more of them behind
abbrev pub put : List Text → Option ℕ → List Text → Option Limited
put front limit words = option_map (λ l. with_limit l (front ++ words)) limit

pub a_limit : (front : List Text) (limit : ℕ) (o : Option (List Text))
    → option_and_then (put front (Some limit)) o ≡ option_map (with_front front) (option_map (with_limit limit) o)
a_limit front limit None = refl
a_limit front limit (Some behind) = refl

abbrev pub read : Bool → Held → Waiting → Bool → List Text → Option Limited
read limits held waiting is_trailing words = option_and_then line_in (read_on limits (at held waiting is_trailing) words)

same_first : (rows : List Row) (word : Text) → first_of (codes "events") (operand_row word rows) ≡ first_of (codes "events") rows
same_first rows word = ap (option_and_then (λ (r : Row). slice_get r.values 0)) (other_row (codes "operands") (codes "events") AsWritten CommandLine (word ∷ []) rows refl)

same_has : (rows : List Row) (word : Text) → has_row (codes "events") (operand_row word rows) ≡ has_row (codes "events") rows
same_has rows word =
    has_row_is (codes "events") (operand_row word rows)
    ∙ ap is_some (other_row (codes "operands") (codes "events") AsWritten CommandLine (word ∷ []) rows refl) ∙ sym (has_row_is (codes "events") rows)

ended : (limits : Bool) (held : Held) (rows : List Row) (waiting : Waiting) (is_trailing : Bool) → Settles limits held rows
    → read limits held waiting is_trailing [] ≡ put (operands_in rows) (limit_of rows) []
ended limits held rows waiting is_trailing s =
    ap (option_and_then line_in) (no_more limits (at held waiting is_trailing) rows s)
    ∙ ap (λ words. option_map (λ l. with_limit l words) (limit_of rows)) (sym (append-nil (operands_in rows)))

trails : (limits : Bool) (held : Held) (rows : List Row) (waiting : Waiting) (words : List Text) → Settles limits held rows
    → read limits held waiting true words ≡ put (operands_in rows) (limit_of rows) words
trails limits held rows waiting [] s = ended limits held rows waiting true s
trails limits held rows waiting (word ∷ words) s =
    ap (option_and_then line_in) (trailing_on limits held waiting word words s.fault)
    ∙ trails limits (behind_operand limits held word) (operand_row word rows) positional words (operand_settles limits held rows word s)
    ∙ rw (operand_added AsWritten CommandLine (word ∷ []) rows, same_first rows word, append_assoc (operands_in rows) (word ∷ []) words) refl

-- ---- no option may come any more: there is none, or it has stood

abbrev pub HasNone : Bool → List Row → Type 0
HasNone false rows = Unit {0}
HasNone true rows = has_row (codes "events") rows ≡ true

keeps_none : (limits : Bool) (rows : List Row) (word : Text) → HasNone limits rows → HasNone limits (operand_row word rows)
keeps_none false rows word none = tt
keeps_none true rows word none = same_has rows word ∙ none

again_fails : (held : Held) (rows : List Row) (words : List Text) → Settles true held rows → has_row (codes "events") rows ≡ true → AreTexts words
    → awaiting held words ≡ None
again_fails held rows [] s stood texts = none_awaits held
again_fails held rows (number ∷ words) s stood texts = elim (awaits held number words s.skip (kind_of number texts.0)) [
  | inl fails ↦ fails.0
  | inr goes_on ↦ goes_on ∙ doomed_idle true false (behind_next held number) words (rw (s.found, stood) refl) s.skip texts.1
]

long_fails : (limits : Bool) (held : Held) (rows : List Row) (is_behind : Bool) (word : Text) (words : List Text) → Settles limits held rows → HasNone limits rows
    → IsLong word → AreTexts words → read_on limits (at held (ready is_behind) false) (word ∷ words) ≡ None
long_fails false held rows is_behind word words s none l texts = unknown_stops false held (ready is_behind) word words l refl
long_fails true held rows is_behind word words s none l texts = elim (cases_Bool (bytes_eq (codes "events") l.name)) [
  | inl is ↦ again l.number refl is
  | inr isnt ↦ unknown_stops true held (ready is_behind) word words l (other_unknown l.name isnt)
]
  where
    again : (number : Option Text) → l.number ≡ number → bytes_eq (codes "events") l.name ≡ true → read_on true (at held (ready is_behind) false) (word ∷ words) ≡ None
    again None given is = name_on held rows (ready is_behind) word words l is given s ∙ again_fails held rows words s none texts
    again (Some number) given is =
        stops true (at held (ready is_behind) false) word words (ap is_empty (number_fault held (ready is_behind) word number l is given) ∙ rw (s.fault, s.found, none) refl)

pub unlimited : (limits : Bool) (held : Held) (rows : List Row) (is_behind : Bool) (words : List Text) → Settles limits held rows → HasNone limits rows → AreTexts words
    → read limits held (ready is_behind) false words ≡ option_and_then (put (operands_in rows) (limit_of rows)) (operands words)
unlimited limits held rows is_behind [] s none texts = ended limits held rows (ready is_behind) false s
unlimited limits held rows is_behind (word ∷ words) s none texts = by
    (unlimited limits (behind_operand limits held word) (operand_row word rows) true words (operand_settles limits held rows word s) (keeps_none limits rows word none) texts.1)
    (kind_of word texts.0)
  where
    more : (o : Option (List Text)) → option_and_then (put (operands_in (operand_row word rows)) (limit_of (operand_row word rows))) o
        ≡ option_and_then (put (operands_in rows) (limit_of rows)) (option_map (λ behind. word ∷ behind) o)
    more None = refl
    more (Some behind) = rw (operand_added AsWritten CommandLine (word ∷ []) rows, same_first rows word, append_assoc (operands_in rows) (word ∷ []) behind) refl

    by : read limits (behind_operand limits held word) positional false words ≡ option_and_then (put (operands_in (operand_row word rows)) (limit_of (operand_row word rows))) (operands words)
        → Kind word → read limits held (ready is_behind) false (word ∷ words) ≡ option_and_then (put (operands_in rows) (limit_of rows)) (operands (word ∷ words))
    by rest (plain p) = rw (p.dashes, p.option)
        (ap (option_and_then line_in) (plain_on limits is_behind held word words p s.fault) ∙ rest ∙ more (operands words))
    by rest (dashes is) = rw is
        (ap (option_and_then line_in) (dashes_on limits held (ready is_behind) word words is) ∙ trails limits held rows (ready is_behind) words s)
    by rest (short h) = rw (h.dashes, h.option) (ap (option_and_then line_in) (short_stops limits held (ready is_behind) word words s.skip h))
    by rest (long l) = rw (l.dashes, l.option) (ap (option_and_then line_in) (long_fails limits held rows is_behind word words s none l texts.1))

-- ---- the option may come

abbrev number_row : Text → List Row → List Row
number_row number rows = with_values (codes "events") AsWritten CommandLine (number ∷ []) rows

-- behind the option, with its number
numbered : (held : Held) (rows : List Row) (number : Text) (words : List Text) → Settles true held (number_row number rows)
    → has_row (codes "events") rows ≡ false → AreTexts words
    → read true held idle false words ≡ option_map (with_front (operands_in rows)) (limited_by (count_of number) words)
numbered held rows number words s none texts =
    unlimited true held (number_row number rows) false words s stands texts
    ∙ rw (number_added AsWritten CommandLine number rows none, same_operands) (shown (count_of number))
  where
    same_operands : operands_in (number_row number rows) ≡ operands_in rows
    same_operands = ap (λ found. unwrap_or (option_map (λ (r : Row). r.values) found) [])
        (other_row (codes "events") (codes "operands") AsWritten CommandLine (number ∷ []) rows refl)

    has_number : (found : Option Row) → option_and_then (λ (r : Row). slice_get r.values 0) found ≡ Some number → is_some found ≡ true
    has_number found e =
        option_and_then_some (λ (r : Row). slice_get r.values 0) found number e (λ r there given. ap is_some there)

    stands : has_row (codes "events") (number_row number rows) ≡ true
    stands = has_row_is (codes "events") (number_row number rows)
        ∙ has_number (row_at (codes "events") (number_row number rows)) (number_added AsWritten CommandLine number rows none)

    no_limit : (o : Option (List Text)) → option_and_then (put (operands_in rows) None) o ≡ None
    no_limit None = refl
    no_limit (Some behind) = refl

    shown : (limit : Option ℕ) → option_and_then (put (operands_in rows) limit) (operands words) ≡ option_map (with_front (operands_in rows)) (limited_by limit words)
    shown None = no_limit (operands words)
    shown (Some limit) = a_limit (operands_in rows) limit (operands words)

-- where the option has not stood, it sets no limit
no_number : (rows : List Row) → has_row (codes "events") rows ≡ false → first_of (codes "events") rows ≡ None
no_number rows none =
    ap (option_and_then (λ (r : Row). slice_get r.values 0))
    (None-if_not_some (row_at (codes "events") rows) (sym (has_row_is (codes "events") rows) ∙ none))

replaced : (rows : List Row) (number : Text) (settled : List Row) → settled ≡ rows → has_row (codes "events") rows ≡ false
    → with_values (codes "events") AsWritten CommandLine (number ∷ []) (without (codes "events") settled) ≡ number_row number rows
replaced rows number settled is none = rw (is, none_goes (codes "events") rows none) refl

pub limits_on : (held : Held) (rows : List Row) (is_behind : Bool) (words : List Text) → Settles true held rows → has_row (codes "events") rows ≡ false → AreTexts words
    → read true held (ready is_behind) false words ≡ option_map (with_front (operands_in rows)) (limited words)
limits_on held rows is_behind [] s none texts = ended true held rows (ready is_behind) false s ∙ rw (no_number rows none) refl
limits_on held rows is_behind (word ∷ words) s none texts = by
    (limits_on (behind_operand true held word) (operand_row word rows) true words (operand_settles true held rows word s) (same_has rows word ∙ none) texts.1)
    (kind_of word texts.0)
  where
    more : (o : Option Limited) → option_map (with_front (operands_in (operand_row word rows))) o ≡ option_map (with_front (operands_in rows)) (option_map (with_operand word) o)
    more = option_map-map (with_front (operands_in rows)) (with_operand word) (with_front (operands_in (operand_row word rows)))
        (λ found. rw (operand_added AsWritten CommandLine (word ∷ []) rows, append_assoc (operands_in rows) (word ∷ []) found.operands) refl)

    named : (l : IsLong word) → bytes_eq (codes "events") l.name ≡ true → l.number ≡ None
        → read true held (ready is_behind) false (word ∷ words) ≡ option_map (with_front (operands_in rows)) (limited_by_next words)
    named l is given =
        ap (option_and_then line_in) (name_on held rows (ready is_behind) word words l is given s) ∙ after words texts.1
      where
        after : (words : List Text) → AreTexts words
            → option_and_then line_in (awaiting held words) ≡ option_map (with_front (operands_in rows)) (limited_by_next words)
        after [] texts = ap (option_and_then line_in) (none_awaits held)
        after (number ∷ words) texts = elim (awaits held number words s.skip (kind_of number texts.0)) [
          | inl fails ↦ rw (fails.1, fails.0) refl
          | inr goes_on ↦ ap (option_and_then line_in) goes_on
              ∙ numbered (behind_next held number) rows number words (record { fault = rw (s.found, none) refl; found = replaced rows number _ s.found none; skip = s.skip }) none texts.1
        ]

    by_long : (l : IsLong word) (number : Option Text) → l.number ≡ number → bytes_eq (codes "events") l.name ≡ true
        → read true held (ready is_behind) false (word ∷ words) ≡ option_map (with_front (operands_in rows)) (behind_option word words)
    by_long l None given is = rw (l.named, is, given) (named l is given)
    by_long l (Some number) given is = rw (l.named, l.behind, is, given)
        (ap (option_and_then line_in) (number_on held rows (ready is_behind) word number words l is given s (rw none refl))
        ∙ numbered (behind_number held number) rows number words (record { fault = refl; found = replaced rows number _ s.found none; skip = s.skip }) none texts.1)

    by : read true (behind_operand true held word) positional false words ≡ option_map (with_front (operands_in (operand_row word rows))) (limited words)
        → Kind word → read true held (ready is_behind) false (word ∷ words) ≡ option_map (with_front (operands_in rows)) (limited (word ∷ words))
    by rest (plain p) = rw (p.dashes, p.option)
        (ap (option_and_then line_in) (plain_on true is_behind held word words p s.fault) ∙ rest ∙ more (limited words))
    by rest (dashes is) = rw is
        (ap (option_and_then line_in) (dashes_on true held (ready is_behind) word words is) ∙ trails true held rows (ready is_behind) words s ∙ rw (no_number rows none) refl)
    by rest (short h) = rw (h.dashes, h.option, h.named, h.behind)
        (ap (option_and_then line_in) (short_stops true held (ready is_behind) word words s.skip h))
    by rest (long l) = rw (l.dashes, l.option) (elim (cases_Bool (bytes_eq (codes "events") l.name)) [
      | inl is ↦ by_long l l.number refl is
      | inr isnt ↦ rw (l.named, l.behind, isnt)
          (ap (option_and_then line_in) (unknown_stops true held (ready is_behind) word words l (other_unknown l.name isnt)))
    ])

-- ---- from the front of the words on

pub texts_are : {Z : Type 0} (words : List (String Z)) → AreTexts (map string_bytes words)
texts_are words = recursion_from_All IsUtf8 (map string_bytes words)
    (All-map IsUtf8 string_bytes words (λ k d within. IsUtf8-string_bytes (get_or words k d)))
