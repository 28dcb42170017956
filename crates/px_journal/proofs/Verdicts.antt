-- Bytes that aren't nothing stand for a text and a history, or are damaged at some place.
use Rattle.std.proofs.Common.{rules, ◌≡◌, ◌≢◌, ◌≤◌, ◌<◌, ◌+◌, ◌⊎◌, inl, inr, ℕ, zero, suc, false, List, [], ◌∷◌, ◌++◌, Option, Some, None, length, take, drop, refl, sym, ◌∙◌, ap, arith, length-append, take-add, IsTrue}
use Rattle.std.specs.Prelude.{slice_index, IsFalse}
use Rattle.std.proofs.lemmas.Bool.{both_ways, cases_lt, cases_eq, cases_Bool}
use Rattle.std.proofs.lemmas.List.{take-take, take_more, length-take, length-drop, drop-drop, get_or-drop, get_or-take}
use Rattle.byteorder.specs.Endian.{big_bytes}
use Rattle.px_event.specs.declared.entry.Entry.{Entry}
use Rattle.px_event.specs.declared.named.NamedEntry.{NamedEntry}
use Rattle.px_event.proofs.Fields.{IsBytes, IsBytes-drop, IsBytes-take, two_back, four_back, front_spelled}
use Rattle.px_journal.specs.Damage as Damage
use Rattle.px_journal.specs.Damage.{body, body_length, text_length, IsNoBody}
use Rattle.px_journal.specs.Damage.Damaged.{magic_differs, version_differs, text_is_cut, record_is}
use Rattle.px_journal.specs.Layout.{magic, body_bytes, entries, heading, is_fit, is_open, is_closed, is_nothing, record_bytes, next_gate, Opens, Front, Stands, StandsAs, HasVersion}
use Rattle.px_journal.specs.declared.version.Version.{Version}
use Rattle.px_journal.proofs.Appending.{open_or_closed}
use Rattle.px_journal.proofs.Bodies.{body_of, body_takes, body_again}
use Rattle.px_journal.proofs.Creating.{short_nothing, closed_nothing}
use Rattle.px_journal.proofs.Digits.{told_version}
use Rattle.px_journal.proofs.Fronts.{Front-push, next_gate-push}
use Rattle.px_journal.proofs.Histories.{length-heading, length-record}

-- ---- bytes

part_bytes : (n k : ℕ) (bytes : List ℕ) → IsBytes bytes → IsBytes (take n (drop k bytes))
part_bytes n k bytes fits = IsBytes-take n (drop k bytes) (IsBytes-drop k bytes fits)

-- a length is spelled where it was read
two_spelled : (bytes : List ℕ) → IsBytes bytes → 3 ≤ length bytes → take 2 (drop 1 bytes) ≡ big_bytes 2 (body_length bytes)
two_spelled bytes fits long =
    sym (front_spelled 2 two_back (drop 1 bytes) (IsBytes-drop 1 bytes fits) (omega (arith, long, length-drop 1 bytes)))

pub four_spelled : (bytes : List ℕ) → IsBytes bytes → 13 ≤ length bytes → take 4 (drop 9 bytes) ≡ big_bytes 4 (text_length bytes)
four_spelled bytes fits long =
    sym (front_spelled 4 four_back (drop 9 bytes) (IsBytes-drop 9 bytes fits) (omega (arith, long, length-drop 9 bytes)))

first_difference : (xs ys : List ℕ) → length xs ≡ length ys
    → (xs ≡ ys) ⊎ ((i : ℕ) × (i < length ys) × (take i xs ≡ take i ys) × (slice_index xs i ≢ slice_index ys i))
first_difference [] [] same = inl refl
first_difference [] (y ∷ ys) same = absurd (omega (arith, same))
first_difference (x ∷ xs) [] same = absurd (omega (arith, same))
first_difference (x ∷ xs) (y ∷ ys) same = elim (cases_eq x y) [
  | inl equal ↦ elim (first_difference xs ys (omega (arith, same))) [
    | inl rest ↦ inl (ap (λ (n : ℕ). n ∷ xs) equal ∙ ap (λ (l : List ℕ). y ∷ l) rest)
    | inr at ↦ inr (
      suc (at.0),
      omega (arith, at.1),
      ap (λ (n : ℕ). n ∷ take (at.0) xs) equal ∙ ap (λ (l : List ℕ). y ∷ l) (at.2),
      at.3,
    )
  ]
  | inr differs ↦ inr (0, omega arith, refl, differs)
]

abbrev Verdict : List ℕ → Type 0
Verdict bytes = ((text : List ℕ) × (history : List Entry) × Stands bytes text history) ⊎ ((at : ℕ) × Damage.Damaged bytes at)

module _ (version : Version) where
  -- ---- the parts of the layout

  opens_heading : (bytes text : List ℕ) → IsTrue (is_open bytes) → 13 ≤ length bytes → HasVersion version bytes → take 4 (drop 9 bytes) ≡ big_bytes 4 (length text)
      → take (length text) (drop 13 bytes) ≡ text → Opens (heading version text) bytes
  opens_heading bytes text gate long has is_length is_text =
      search (rules, take-add, drop-drop, take_more bytes 0 0, long, length-drop, get_or-drop, gate, length-heading)

  opens_record : (rest : List ℕ) (entry : NamedEntry) → IsBytes rest → IsTrue (is_open rest) → 3 + body_length rest < length rest → body rest ≡ body_bytes version entry
      → (length (body_bytes version entry) ≡ body_length rest) × Opens (record_bytes version entry) rest
  opens_record rest entry fits gate within is_body =
      let long : length (body_bytes version entry) ≡ body_length rest =
      omega (arith, ap length is_body, within, length-take (body_length rest) (drop 3 rest), length-drop 3 rest) in (
        long,
        record {
          gate = gate;
          content =
              ap (λ (n : ℕ). take n (drop 1 rest)) (let sum : length (record_bytes version entry) ≡ 2 + body_length rest = omega (arith, length-record version entry, long) in sum)
              ∙ take-add 2 (body_length rest) (drop 1 rest)
              ∙ ap (λ (l : List ℕ). take 2 (drop 1 rest) ++ take (body_length rest) l) (drop-drop 2 1 rest)
              ∙ ap (λ (l : List ℕ). take 2 (drop 1 rest) ++ l) is_body
              ∙ ap (λ (l : List ℕ). l ++ body_bytes version entry) (two_spelled rest fits (omega (arith, within)))
              ∙ ap (λ (n : ℕ). big_bytes 2 n ++ body_bytes version entry) (sym long);
        },
      )

  -- ---- the walk

  is_body : (bytes : List ℕ) → IsBytes bytes → (IsNoBody version bytes) ⊎ ((named : NamedEntry) × IsTrue (is_fit version named) × (bytes ≡ body_bytes version named))
  is_body bytes fits = found (body_of version bytes) refl
    where
      found : (read : Option NamedEntry) → body_of version bytes ≡ read → (IsNoBody version bytes) ⊎ ((named : NamedEntry) × IsTrue (is_fit version named) × (bytes ≡ body_bytes version named))
      found None is = inl (λ named fit same. absurd (
          let again : body_of version bytes ≡ Some named = ap (body_of version) same ∙ body_again version named fit in
          let both : None ≡ Some named = sym is ∙ again in
          cc
          ))
      found (Some named) is = let takes = body_takes version bytes named fits is in inr (named, takes.0, takes.1)

  -- a text and a history stand there
  whole : {bytes : List ℕ} (text : List ℕ) (named : List NamedEntry) → StandsAs version bytes text named → Verdict bytes
  whole text named stands = inl (text, entries named, record { version = version; named = named; stands = stands; entries_are = refl })

  module _ (bytes : List ℕ) (fits : IsBytes bytes) (text : List ℕ) where
    -- from one open gate to the next
    step : (history : List NamedEntry) → Front version bytes text history → length history < 100000 → IsTrue (is_open (drop (next_gate version text history) bytes))
        → ((entry : NamedEntry) → Front version bytes text (history ++ entry ∷ []) → next_gate version text (history ++ entry ∷ []) < length bytes → Verdict bytes) → Verdict bytes
    step history front few opened next =
        let gate = next_gate version text history in
        let rest = drop (next_gate version text history) bytes in
        let rest_fits : IsBytes rest = IsBytes-drop gate bytes fits in
        elim (cases_lt (gate + 3 + body_length rest) (length bytes)) [
          | inr cut ↦ inr (gate + 1, record_is version text history (gate + 1) front (record { open_gate = opened; row = inr (few, inl (refl, cut)) }))
          | inl whole ↦
              let inside : 3 + body_length rest < length rest = omega (arith, whole, length-drop gate bytes) in
              elim (is_body (body rest) (part_bytes (body_length rest) 3 rest rest_fits)) [
                | inl none ↦ inr (gate + 3, record_is version text history (gate + 3) front (record { open_gate = opened; row = inr (few, inr (refl, whole, none)) }))
                | inr found ↦
                    let there = opens_record rest (found.0) rest_fits opened inside (found.2) in
                    next (found.0) (Front-push version bytes text history (found.0) front (found.1) (there.1))
                    (omega (arith, whole, next_gate-push version text history (found.0), length-record version (found.0), there.0))
              ]
        ]

    opened_gate : (history : List NamedEntry) → next_gate version text history < length bytes → is_closed (drop (next_gate version text history) bytes) ≡ false
        → IsTrue (is_open (drop (next_gate version text history) bytes))
    opened_gate history within shut = open_or_closed (drop (next_gate version text history) bytes) (omega (arith, within, length-drop (next_gate version text history) bytes)) shut

    walk : (left : ℕ) (history : List NamedEntry) → Front version bytes text history → next_gate version text history < length bytes → length history + left ≡ 100000 → Verdict bytes
    walk zero history front within count = elim (cases_Bool (is_closed (drop (next_gate version text history) bytes))) [
      | inl closed ↦ whole text history (record { front = front; closed = closed; few = omega (arith, count) })
      | inr shut ↦ inr (
        next_gate version text history,
        record_is version text history (next_gate version text history) front
            (record { open_gate = opened_gate history within shut; row = inl (refl, omega (arith, count)) }),
      )
    ]
    walk (suc left) history front within count = elim (cases_Bool (is_closed (drop (next_gate version text history) bytes))) [
      | inl closed ↦ whole text history (record { front = front; closed = closed; few = omega (arith, count) })
      | inr shut ↦ step history front (omega (arith, count)) (opened_gate history within shut)
          (λ entry front_next within_next. walk left (history ++ entry ∷ []) front_next within_next (omega (arith, count, length-append history (entry ∷ []))))
    ]

  -- ---- behind a version

  pub read_on : (bytes : List ℕ) → IsBytes bytes → IsTrue (is_open bytes) → 13 ≤ length bytes → HasVersion version bytes → Verdict bytes
  read_on bytes fits gate long has = elim (cases_lt 1048576 (text_length bytes)) [
    | inl much ↦ inr (9, text_is_cut version has (inl much))
    | inr short ↦ elim (cases_lt (13 + text_length bytes) (length bytes)) [
      | inr cut ↦ inr (9, text_is_cut version has (inr cut))
      | inl inside ↦
          let text = take (text_length bytes) (drop 13 bytes) in
          let count : length text ≡ text_length bytes = omega (arith, inside, length-take (text_length bytes) (drop 13 bytes), length-drop 13 bytes) in
          let front : Front version bytes text [] = record {
            opens = opens_heading bytes text gate long has (four_spelled bytes fits long ∙ ap (λ (n : ℕ). big_bytes 4 n) (sym count))
                (ap (λ (n : ℕ). take n (drop 13 bytes)) count);
            records = tt;
            text_fits = omega (arith, count, short);
            fit = refl;
          } in
          walk bytes fits text 100000 [] front (omega (arith, inside, count, length-heading version text)) (omega arith)
    ]
  ]

-- ---- the whole

pub verdict : (bytes : List ℕ) → IsBytes bytes → IsFalse (is_nothing bytes) → Verdict bytes
verdict bytes fits something = elim (first_difference (take 7 (drop 1 bytes)) magic seven) [
  | inr at ↦ inr (
    1 + at.0,
    magic_differs (at.0) (at.1)
        (sym (take-take (at.0) 7 (drop 1 bytes) (omega (arith, at.1))) ∙ at.2)
        (λ same. at.3 (get_or-take 7 (drop 1 bytes) (at.0) 0 (at.1) ∙ get_or-drop 1 bytes (at.0) 0 ∙ same)),
  )
  | inl is_magic ↦ elim (told_version (slice_index bytes 8)) [
    | inr none ↦ inr (8, version_differs is_magic none)
    | inl found ↦ read_on (found.0) bytes fits gate long (is_magic, found.1)
  ]
]
  where
    long : 13 ≤ length bytes
    long = elim (cases_lt (length bytes) 13) [
      | inl short ↦ absurd (both_ways (is_nothing bytes) something (short_nothing bytes short))
      | inr enough ↦ enough
    ]

    seven : length (take 7 (drop 1 bytes)) ≡ length magic
    seven = omega (arith, long, length-take 7 (drop 1 bytes), length-drop 1 bytes)

    gate : IsTrue (is_open bytes)
    gate = elim (cases_Bool (is_closed bytes)) [
      | inl closed ↦ absurd (both_ways (is_nothing bytes) something (closed_nothing bytes closed))
      | inr shut ↦ open_or_closed bytes (omega (arith, long)) shut
    ]
