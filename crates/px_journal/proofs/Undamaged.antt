-- Bytes that stand for a text and a history are not damaged, and others are damaged at one place.
use Rattle.std.proofs.Common.{rules, ◌≡◌, ◌≢◌, ◌≤◌, ◌<◌, ◌+◌, ◌⊎◌, inl, inr, ⊎_elim, ℕ, false, List, length, take, drop, refl, sym, ◌∙◌, ap, subst, arith, IsTrue}
use Rattle.std.specs.Prelude.{slice_index}
use Rattle.std.proofs.lemmas.Bool.{cases_lt, false_from_ne_true}
use Rattle.std.proofs.lemmas.List.{drop-drop, get_or-drop, get_or-take}
use Rattle.byteorder.specs.Endian.{big_bytes, big_number}
use Rattle.px_event.specs.declared.entry.Entry.{Entry}
use Rattle.px_event.specs.declared.named.NamedEntry.{NamedEntry}
use Rattle.px_journal.specs.Damage.{body, body_length, text_length, DamagedRecord}
use Rattle.px_journal.specs.Damage as Damage
use Rattle.px_journal.specs.Damage.Damaged.{magic_differs, version_differs, text_is_cut, record_is}
use Rattle.px_journal.specs.Layout.{magic, body_bytes, heading, is_open, is_closed, record_bytes, records_size, next_gate, Opens, Front, Stands, StandsAs}
use Rattle.px_journal.specs.declared.version.Version.{Version}
use Rattle.px_journal.proofs.Appending.{closed_within, gate_within}
use Rattle.px_journal.proofs.Bodies.{body_short}
use Rattle.px_journal.proofs.Histories.{length-heading, length-record}
use Rattle.px_journal.proofs.Meaning.{Ahead, spelled, starts_first, starts_second, one_ahead, one_heading, one_version, has_version, text_starts, open_and_closed}

pub open_not_closed : (bytes : List ℕ) → IsTrue (is_open bytes) → is_closed bytes ≡ false
open_not_closed bytes opened = false_from_ne_true (is_closed bytes) (open_and_closed bytes opened)

-- an open gate is within the bytes
open_within : (gate : ℕ) (bytes : List ℕ) → IsTrue (is_open (drop gate bytes)) → gate < length bytes
open_within gate bytes = gate_within is_open gate bytes refl

-- a byte of a magic that is whole is right
right_byte : (bytes : List ℕ) (n i : ℕ) → take n (drop 1 bytes) ≡ take n magic → i < n → slice_index bytes (1 + i) ≡ slice_index magic i
right_byte bytes n i same below =
    sym (get_or-drop 1 bytes i 0) ∙ sym (get_or-take n (drop 1 bytes) i 0 below) ∙ ap (λ (l : List ℕ). slice_index l i) same ∙ get_or-take n magic i 0 below

module _ (version : Version) where
  -- ---- what stands behind an open master gate

  module _ (bytes text : List ℕ) (history : List NamedEntry) (front : Front version bytes text history) (within : next_gate version text history < length bytes) where
    is_length : text_length bytes ≡ length text
    is_length =
        let behind = drop 1 (drop 7 (drop 1 bytes)) in
        let number = starts_first (big_bytes 4 (length text)) text behind (text_starts version text bytes front.opens) in
        ap (λ (l : List ℕ). big_number 4 l) (sym (drop-drop 8 1 bytes) ∙ sym (drop-drop 1 7 (drop 1 bytes)))
        ∙ spelled 4 (length text) behind (omega (arith, front.text_fits)) number

    not_cut : (1048576 < text_length bytes) ⊎ (length bytes ≤ 13 + text_length bytes) → ⊥
    not_cut cut = search (rules, is_length, within, length-heading)

    -- the record that the history has at the gate behind a part of it
    module _ (few : length history ≤ 100000) (before : List NamedEntry) (next : Ahead version history before (drop (1 + length (heading version text)) bytes)) where
      opens : Opens (record_bytes version next.entry) (drop (next_gate version text before) bytes)
      opens = subst (Opens (record_bytes version next.entry)) (drop-drop (records_size version before) (1 + length (heading version text)) bytes) next.opens

      told : body_length (drop (next_gate version text before) bytes) ≡ length (body_bytes version next.entry)
      told = spelled 2 (length (body_bytes version next.entry)) (drop 1 (drop (next_gate version text before) bytes)) (omega (arith, body_short version next.entry next.fit))
          (starts_first (big_bytes 2 (length (body_bytes version next.entry))) (body_bytes version next.entry) (drop 1 (drop (next_gate version text before) bytes)) opens.content)

      is_body : body (drop (next_gate version text before) bytes) ≡ body_bytes version next.entry
      is_body =
          ap (λ (k : ℕ). take k (drop 3 (drop (next_gate version text before) bytes))) told
          ∙ ap (λ (l : List ℕ). take (length (body_bytes version next.entry)) l) (sym (drop-drop 2 1 (drop (next_gate version text before) bytes)))
          ∙ starts_second (big_bytes 2 (length (body_bytes version next.entry))) (body_bytes version next.entry) (drop 1 (drop (next_gate version text before) bytes)) opens.content

      no_damage : (at : ℕ) → DamagedRecord version bytes before (next_gate version text before) at → ⊥
      no_damage at damaged = search (rules, told, within, length-record, is_body)

  -- two histories behind one text, over the same bytes
  fronts_ahead : (bytes text : List ℕ) (a b : List NamedEntry) → Front version bytes text a → Front version bytes text b
      → (a ≡ b) ⊎ (Ahead version a b (drop (1 + length (heading version text)) bytes) ⊎ Ahead version b a (drop (1 + length (heading version text)) bytes))
  fronts_ahead bytes text a b first second =
      one_ahead version a b (drop (1 + length (heading version text)) bytes) first.fit second.fit first.records second.records

  -- ---- one place

  row_few : (bytes : List ℕ) (before : List NamedEntry) (gate at : ℕ) → DamagedRecord version bytes before gate at → length before ≤ 100000
  row_few bytes before gate at damaged = ⊎_elim (λ full. omega (arith, full.1)) (λ broken. omega (arith, broken.0)) damaged.row

  one_row : (bytes : List ℕ) (before : List NamedEntry) (gate at other : ℕ) → DamagedRecord version bytes before gate at → DamagedRecord version bytes before gate other → at ≡ other
  one_row bytes before gate at other first second = search rules

  one_record_place : (bytes text : List ℕ) (a b : List NamedEntry) (at other : ℕ) → Front version bytes text a → Front version bytes text b → DamagedRecord version bytes a (next_gate version text a) at
      → DamagedRecord version bytes b (next_gate version text b) other → at ≡ other
  one_record_place bytes text a b at other a_front b_front a_damaged b_damaged = elim (fronts_ahead bytes text a b a_front b_front) [
    | inl same ↦ one_row bytes a (next_gate version text a) at other a_damaged (subst (λ (h : List NamedEntry). DamagedRecord version bytes h (next_gate version text h) other) (sym same) b_damaged)
    | inr (inl next) ↦ absurd (no_damage bytes text a a_front (open_within (next_gate version text a) bytes a_damaged.open_gate)
        (row_few bytes a (next_gate version text a) at a_damaged) b next other b_damaged)
    | inr (inr next) ↦ absurd (no_damage bytes text b b_front (open_within (next_gate version text b) bytes b_damaged.open_gate)
        (row_few bytes b (next_gate version text b) other b_damaged) a next at a_damaged)
  ]

  -- behind an open master gate the records alone can be damaged
  records_only : (text : List ℕ) (before : List NamedEntry) (bytes : List ℕ) (at : ℕ) → Front version bytes text before
      → DamagedRecord version bytes before (next_gate version text before) at → (1048576 < text_length bytes) ⊎ (length bytes ≤ 13 + text_length bytes) → ⊥
  records_only text before bytes at front damaged = not_cut bytes text before front (open_within (next_gate version text before) bytes damaged.open_gate)

  -- ---- where a journal stands, no record is damaged

  module _ (bytes text : List ℕ) (history : List NamedEntry) (stands : StandsAs version bytes text history) where
    within : next_gate version text history < length bytes
    within = closed_within (next_gate version text history) bytes stands.closed

    no_record : (before : List NamedEntry) (at : ℕ) → Front version bytes text before → DamagedRecord version bytes before (next_gate version text before) at → ⊥
    no_record before at front damaged = elim (fronts_ahead bytes text history before stands.front front) [
      | inl same ↦ open_and_closed (drop (next_gate version text history) bytes)
          (subst (λ (h : List NamedEntry). IsTrue (is_open (drop (next_gate version text h) bytes))) (sym same) damaged.open_gate) stands.closed
      | inr (inl next) ↦ no_damage bytes text history stands.front within stands.few before next at damaged
      | inr (inr next) ↦ open_and_closed (drop (next_gate version text history) bytes)
          (subst IsTrue (ap is_open (drop-drop (records_size version history) (1 + length (heading version text)) bytes)) (next.opens).gate) stands.closed
    ]

-- ---- where a journal stands, nothing is damaged

-- behind a magic no byte of it differs
no_difference : (bytes : List ℕ) → take 7 (drop 1 bytes) ≡ magic → (i : ℕ) → i < 7 → slice_index bytes (1 + i) ≢ slice_index magic i → ⊥
no_difference bytes same i below differs = differs (right_byte bytes 7 i same below)

pub undamaged_as : (version : Version) (bytes text : List ℕ) (history : List NamedEntry) → StandsAs version bytes text history → (at : ℕ) → Damage.Damaged bytes at → ⊥
undamaged_as version bytes text history stands at (magic_differs i below before differs) =
    no_difference bytes (has_version version text bytes stands.front.opens).0 i below differs
undamaged_as version bytes text history stands at (version_differs same none) = none version (has_version version text bytes stands.front.opens).1
undamaged_as version bytes text history stands at (text_is_cut other has cut) =
    not_cut version bytes text history stands.front (closed_within (next_gate version text history) bytes stands.closed) cut
undamaged_as version bytes text history stands at (record_is other text' before place front damaged) =
    let same = one_version other version text' text bytes front.opens stands.front.opens in
    let front' = subst (λ (v : Version). Front v bytes text' before) same front in
    let damaged' = subst (λ (v : Version). DamagedRecord v bytes before (next_gate v text' before) place) same damaged in
    let texts : text' ≡ text = one_heading version text' text bytes front'.text_fits stands.front.text_fits front'.opens stands.front.opens in
    no_record version bytes text history stands before place (subst (λ (t : List ℕ). Front version bytes t before) texts front')
    (subst (λ (t : List ℕ). DamagedRecord version bytes before (next_gate version t before) place) texts damaged')

pub undamaged : (bytes text : List ℕ) (history : List Entry) → Stands bytes text history → (at : ℕ) → Damage.Damaged bytes at → ⊥
undamaged bytes text history stands = undamaged_as stands.version bytes text stands.named stands.stands

-- ---- one place

-- of two versions there is one
other_record : (version other : Version) (bytes text text' : List ℕ) (a b : List NamedEntry) (at place : ℕ) → Front version bytes text a
    → DamagedRecord version bytes a (next_gate version text a) at → Front other bytes text' b → DamagedRecord other bytes b (next_gate other text' b) place → at ≡ place
other_record version other bytes text text' a b at place front damaged front' damaged' =
    let same = one_version other version text' text bytes front'.opens front.opens in
    let there = subst (λ (v : Version). Front v bytes text' b) same front' in
    let broken = subst (λ (v : Version). DamagedRecord v bytes b (next_gate v text' b) place) same damaged' in
    let texts : text' ≡ text = one_heading version text' text bytes there.text_fits front.text_fits there.opens front.opens in
    one_record_place version bytes text a b at place front (subst (λ (t : List ℕ). Front version bytes t b) texts there) damaged
    (subst (λ (t : List ℕ). DamagedRecord version bytes b (next_gate version t b) place) texts broken)

pub one_place : (bytes : List ℕ) (at other : ℕ) → Damage.Damaged bytes at → Damage.Damaged bytes other → at ≡ other
one_place bytes at other (magic_differs i below before differs) (magic_differs j j_below j_before j_differs) = search (rules, cases_lt, right_byte)
one_place bytes at other (magic_differs i below before differs) (version_differs same none) = absurd (no_difference bytes same i below differs)
one_place bytes at other (magic_differs i below before differs) (text_is_cut version has cut) = absurd (no_difference bytes (has.0) i below differs)
one_place bytes at other (magic_differs i below before differs) (record_is version text records place front damaged) =
    absurd (no_difference bytes (has_version version text bytes front.opens).0 i below differs)
one_place bytes at other (version_differs same none) (magic_differs i below before differs) = absurd (no_difference bytes same i below differs)
one_place bytes at other (version_differs same none) (version_differs again too) = refl
one_place bytes at other (version_differs same none) (text_is_cut version has cut) = absurd (none version (has.1))
one_place bytes at other (version_differs same none) (record_is version text records place front damaged) = absurd (none version (has_version version text bytes front.opens).1)
one_place bytes at other (text_is_cut version has cut) (magic_differs i below before differs) = absurd (no_difference bytes (has.0) i below differs)
one_place bytes at other (text_is_cut version has cut) (version_differs same none) = absurd (none version (has.1))
one_place bytes at other (text_is_cut version has cut) (text_is_cut again has_again too) = refl
one_place bytes at other (text_is_cut version has cut) (record_is again text records place front damaged) =
    absurd (records_only again text records bytes place front damaged cut)
one_place bytes at other (record_is version text records place front damaged) (magic_differs i below before differs) =
    absurd (no_difference bytes (has_version version text bytes front.opens).0 i below differs)
one_place bytes at other (record_is version text records place front damaged) (version_differs same none) = absurd (none version (has_version version text bytes front.opens).1)
one_place bytes at other (record_is version text records place front damaged) (text_is_cut again has cut) =
    absurd (records_only version text records bytes place front damaged cut)
one_place bytes at other (record_is version text records place front damaged) (record_is version' text' records' place' front' damaged') =
    other_record version version' bytes text text' records records' place place' front damaged front' damaged'
