-- Bytes are of at most one version, and stand for at most one text and one history.
use Rattle.std.proofs.Common.{rules, ◌≡◌, ◌≤◌, ◌<◌, ◌+◌, ◌^◌, ◌⊎◌, inl, inr, ℕ, List, [], ◌∷◌, ◌++◌, Option, length, take, drop, refl, sym, ◌∙◌, ap, subst, arith, length-append, IsTrue}
use Rattle.std.proofs.lemmas.List.{append-nil, drop_at, drop-drop, drop-take, get_or-drop}
use Rattle.std.proofs.lemmas.Bool.{and_parts}
use Rattle.std.specs.Prelude.{slice_index}
use Rattle.std.specs.Io.{StartsWith}
use Rattle.std.specs.List.{list_all}
use Rattle.byteorder.specs.Endian.{big_bytes, big_number}
use Rattle.byteorder.specs.Numbers.{big_from-take, length-bytes_high_first, big_number-reads_back}
use Rattle.px_event.specs.declared.entry.Entry.{Entry}
use Rattle.px_event.specs.declared.named.NamedEntry.{NamedEntry}
use Rattle.px_event.proofs.Appends.{begins_with}
use Rattle.px_journal.specs.Layout.{magic, digit, HasVersion, heading, body_bytes, record_bytes, entries, interfaces, is_fit, is_open, is_closed, Opens, Records, records_size, StandsAs, Stands, AreNamesOf}
use Rattle.px_journal.specs.declared.version.Version.{Version}
use Rattle.px_journal.proofs.Bodies.{one_body, body_short}
use Rattle.px_journal.proofs.Digits.{one_digit}

-- what stands at the front of a list
module _ (a b bytes : List ℕ) (starts : StartsWith bytes (a ++ b)) where
  pub starts_first : StartsWith bytes a
  starts_first = begins_with a b (a ++ b) bytes refl starts

  pub starts_second : StartsWith (drop (length a) bytes) b
  starts_second =
      sym (drop-take (length a) (length b) bytes)
      ∙ ap (λ (n : ℕ). drop (length a) (take n bytes)) (sym (length-append a b))
      ∙ ap (λ (l : List ℕ). drop (length a) l) starts
      ∙ drop_at a b (length a) refl

-- the number that is spelled at the front
pub spelled : (n x : ℕ) (bytes : List ℕ) → x < 256 ^ n → StartsWith bytes (big_bytes n x) → big_number n bytes ≡ x
spelled n x bytes fits starts =
    let long = length-bytes_high_first n x in
    sym (big_from-take 0 n n bytes (omega arith))
    ∙ ap (λ (k : ℕ). big_number n (take k bytes)) (sym long)
    ∙ ap (λ (l : List ℕ). big_number n l) (starts ∙ sym (append-nil (big_bytes n x)))
    ∙ big_number-reads_back n x [] fits

-- what is spelled behind its length is one text
one_text : (n : ℕ) (x y bytes : List ℕ) → length x < 256 ^ n → length y < 256 ^ n → StartsWith bytes (big_bytes n (length x) ++ x)
    → StartsWith bytes (big_bytes n (length y) ++ y) → x ≡ y
one_text n x y bytes x_fits y_fits x_starts y_starts =
    let x_long = length-bytes_high_first n (length x) in
    let y_long = length-bytes_high_first n (length y) in
    let long : length x ≡ length y =
    sym (spelled n (length x) bytes x_fits (starts_first (big_bytes n (length x)) x bytes x_starts))
    ∙ spelled n (length y) bytes y_fits (starts_first (big_bytes n (length y)) y bytes y_starts) in
    sym (starts_second (big_bytes n (length x)) x bytes x_starts)
    ∙ ap (λ (k : ℕ). take k (drop (length (big_bytes n (length x))) bytes)) long
    ∙ ap (λ (k : ℕ). take (length y) (drop k bytes)) (x_long ∙ sym y_long)
    ∙ starts_second (big_bytes n (length y)) y bytes y_starts

first_byte : (byte : ℕ) (later bytes : List ℕ) → StartsWith bytes (byte ∷ later) → slice_index bytes 0 ≡ byte
first_byte byte later [] starts = absurd cc
first_byte byte later (first ∷ rest) starts = ap (λ (l : List ℕ). slice_index l 0) starts

pub open_and_closed : {P : Type 0} (bytes : List ℕ) → IsTrue (is_open bytes) → IsTrue (is_closed bytes) → P
open_and_closed [] opened closed = absurd cc
open_and_closed (gate ∷ rest) opened closed = absurd (grind (arith, opened, closed))

module _ (version : Version) where
  pub one_record : (a b : NamedEntry) (bytes : List ℕ) → IsTrue (is_fit version a) → IsTrue (is_fit version b) → Opens (record_bytes version a) bytes
      → Opens (record_bytes version b) bytes → a ≡ b
  one_record a b bytes a_fit b_fit a_opens b_opens =
      one_body version a b a_fit b_fit (one_text 2 (body_bytes version a) (body_bytes version b) (drop 1 bytes) (omega (arith, body_short version a a_fit)) (omega (arith, body_short version b b_fit))
      a_opens.content b_opens.content)

  -- the parts of a heading
  pub version_starts : (text bytes : List ℕ) → Opens (heading version text) bytes → StartsWith (drop 7 (drop 1 bytes)) (digit version ∷ (big_bytes 4 (length text) ++ text))
  version_starts text bytes opens = starts_second magic (digit version ∷ (big_bytes 4 (length text) ++ text)) (drop 1 bytes) opens.content

  pub text_starts : (text bytes : List ℕ) → Opens (heading version text) bytes → StartsWith (drop 1 (drop 7 (drop 1 bytes))) (big_bytes 4 (length text) ++ text)
  text_starts text bytes opens = starts_second (digit version ∷ []) (big_bytes 4 (length text) ++ text) (drop 7 (drop 1 bytes)) (version_starts text bytes opens)

  pub has_version : (text bytes : List ℕ) → Opens (heading version text) bytes → HasVersion version bytes
  has_version text bytes opens = search (rules, starts_first, get_or-drop, first_byte, version_starts)

  pub one_heading : (a b bytes : List ℕ) → length a ≤ 1048576 → length b ≤ 1048576 → Opens (heading version a) bytes → Opens (heading version b) bytes → a ≡ b
  one_heading a b bytes a_fits b_fits a_opens b_opens =
      one_text 4 a b (drop 1 (drop 7 (drop 1 bytes))) (omega (arith, a_fits)) (omega (arith, b_fits))
      (text_starts a bytes a_opens) (text_starts b bytes b_opens)

  -- ---- a history goes on behind a part of it

  pub record Ahead (history before : List NamedEntry) (bytes : List ℕ) : Type 0 where
    pub entry : NamedEntry
    pub fit : IsTrue (is_fit version entry)
    pub opens : Opens (record_bytes version entry) (drop (records_size version before) bytes)
    pub shorter : length before < length history
    pub within : records_size version before + 1 + length (record_bytes version entry) ≤ records_size version history

  -- where nothing stands before
  first_ahead : (entry : NamedEntry) (later : List NamedEntry) (bytes : List ℕ) → IsTrue (list_all (is_fit version) (entry ∷ later)) → Records version (entry ∷ later) bytes
      → Ahead (entry ∷ later) [] bytes
  first_ahead entry later bytes fit records = record {
    entry = entry;
    fit = (and_parts _ _ fit).0;
    opens = records.0;
    shorter = omega arith;
    within = omega arith;
  }

  -- one record more in front of both
  ahead_behind : (h b : NamedEntry) (history before : List NamedEntry) (bytes : List ℕ) → h ≡ b → Ahead history before (drop (1 + length (record_bytes version h)) bytes)
      → Ahead (h ∷ history) (b ∷ before) bytes
  ahead_behind h b history before bytes same later = record {
    entry = later.entry;
    fit = later.fit;
    opens = subst (Opens (record_bytes version later.entry))
        (ap (λ (e : NamedEntry). drop (records_size version before) (drop (1 + length (record_bytes version e)) bytes)) same
        ∙ drop-drop (records_size version before) (1 + length (record_bytes version b)) bytes) later.opens;
    shorter = omega (arith, later.shorter);
    within = omega (arith, later.within, ap (λ (e : NamedEntry). length (record_bytes version e)) same);
  }

  -- of two histories at the front of the same bytes, one is a part of the other
  pub one_ahead : (a b : List NamedEntry) (bytes : List ℕ) → IsTrue (list_all (is_fit version) a) → IsTrue (list_all (is_fit version) b) → Records version a bytes → Records version b bytes
      → (a ≡ b) ⊎ (Ahead a b bytes ⊎ Ahead b a bytes)
  one_ahead [] [] bytes a_fit b_fit a_records b_records = inl refl
  one_ahead [] (b ∷ later_b) bytes a_fit b_fit a_records b_records = inr (inr (first_ahead b later_b bytes b_fit b_records))
  one_ahead (a ∷ later_a) [] bytes a_fit b_fit a_records b_records = inr (inl (first_ahead a later_a bytes a_fit a_records))
  one_ahead (a ∷ later_a) (b ∷ later_b) bytes a_fit b_fit a_records b_records =
      let a_parts = and_parts _ _ a_fit in
      let b_parts = and_parts _ _ b_fit in
      let same : a ≡ b = one_record a b bytes (a_parts.0) (b_parts.0) (a_records.0) (b_records.0) in
      let rest = drop (1 + length (record_bytes version a)) bytes in
      let b_rest = subst (λ (e : NamedEntry). Records version later_b (drop (1 + length (record_bytes version e)) bytes)) (sym same) (b_records.1) in
      elim (one_ahead later_a later_b rest (a_parts.1) (b_parts.1) (a_records.1) b_rest) [
        | inl equal ↦ inl (ap (λ (e : NamedEntry). e ∷ later_a) same ∙ ap (λ (l : List NamedEntry). b ∷ l) equal)
        | inr (inl longer) ↦ inr (inl (ahead_behind a b later_a later_b bytes same longer))
        | inr (inr longer) ↦ inr (inr (ahead_behind b a later_b later_a bytes (sym same)
            (subst (λ (e : NamedEntry). Ahead later_b later_a (drop (1 + length (record_bytes version e)) bytes)) same longer)))
      ]

  -- so they are one where a closed gate stands behind each
  pub one_history : (a b : List NamedEntry) (bytes : List ℕ) → IsTrue (list_all (is_fit version) a) → IsTrue (list_all (is_fit version) b) → Records version a bytes → Records version b bytes
      → IsTrue (is_closed (drop (records_size version a) bytes)) → IsTrue (is_closed (drop (records_size version b) bytes)) → a ≡ b
  one_history a b bytes a_fit b_fit a_records b_records a_closed b_closed = elim (one_ahead a b bytes a_fit b_fit a_records b_records) [
    | inl same ↦ same
    | inr (inl longer) ↦ open_and_closed (drop (records_size version b) bytes) (longer.opens).gate b_closed
    | inr (inr longer) ↦ open_and_closed (drop (records_size version a) bytes) (longer.opens).gate a_closed
  ]

-- in one version
module _ (version : Version) (bytes text_a text_b : List ℕ) (a b : List NamedEntry) (a_stands : StandsAs version bytes text_a a) (b_stands : StandsAs version bytes text_b b) where
  one_text_as : text_a ≡ text_b
  one_text_as = one_heading version text_a text_b bytes a_stands.front.text_fits b_stands.front.text_fits a_stands.front.opens b_stands.front.opens

  one_history_as : a ≡ b
  one_history_as =
      search (rules, one_text_as, one_history, drop-drop)

-- bytes have one version at most, which is that of what they stand for
pub one_told : (v w : Version) (bytes : List ℕ) → HasVersion v bytes → HasVersion w bytes → v ≡ w
one_told v w bytes first second = one_digit v w (sym first.1 ∙ second.1)

pub stands_told : (v : Version) (bytes text : List ℕ) (named : List NamedEntry) → StandsAs v bytes text named → HasVersion v bytes
stands_told v bytes text named stands = has_version v text bytes stands.front.opens

-- an open master gate and two headings behind it are of one version
pub one_version : (v w : Version) (a b bytes : List ℕ) → Opens (heading v a) bytes → Opens (heading w b) bytes → v ≡ w
one_version v w a b bytes v_opens w_opens = one_told v w bytes (has_version v a bytes v_opens) (has_version w b bytes w_opens)

-- ONE MEANING: one version, one text, and one list of entries with their names
pub one_meaning : (v w : Version) (bytes text other : List ℕ) (a b : List NamedEntry) → StandsAs v bytes text a → StandsAs w bytes other b
    → (v ≡ w) × (text ≡ other) × (a ≡ b)
one_meaning v w bytes text other a b first second =
    search (rules, one_version, one_text_as, one_history_as)

module _ (bytes text_a text_b : List ℕ) (a b : List Entry) (a_stands : Stands bytes text_a a) (b_stands : Stands bytes text_b b) where
  pub one_meaning_text : text_a ≡ text_b
  one_meaning_text = (one_meaning a_stands.version b_stands.version bytes text_a text_b a_stands.named b_stands.named a_stands.stands b_stands.stands).1

  pub one_meaning_history : a ≡ b
  one_meaning_history =
      let same = (one_meaning a_stands.version b_stands.version bytes text_a text_b a_stands.named b_stands.named a_stands.stands b_stands.stands).2 in
      sym a_stands.entries_are ∙ ap entries same ∙ b_stands.entries_are

pub one_list_of_names : (bytes : List ℕ) (a b : List (Option (List ℕ))) → AreNamesOf bytes a → AreNamesOf bytes b → a ≡ b
one_list_of_names bytes a b first second =
    let same = (one_meaning first.version second.version bytes first.text second.text first.named second.named first.stands second.stands).2 in
    sym first.names_are ∙ ap interfaces same ∙ second.names_are
