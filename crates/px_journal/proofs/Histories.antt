-- What each image since some moment begins with, an append doesn't take away; and how far the gates can stand.
use Rattle.std.proofs.Common.{rules, ◌≡◌, ◌≤◌, ◌+◌, ◌*◌, ◌⊎◌, ⊎_elim, ℕ, List, [], ◌∷◌, ◌++◌, length, sym, ◌∙◌, ap, subst, arith, append_assoc, length-append, map, IsTrue}
use Rattle.std.proofs.lemmas.List.{length-map, map-append}
use Rattle.std.proofs.lemmas.Bool.{and_parts}
use Rattle.std.specs.List.{list_all}
use Rattle.byteorder.specs.Endian.{big_bytes}
use Rattle.byteorder.specs.Numbers.{length-bytes_high_first}
use Rattle.px_event.specs.declared.entry.Entry.{Entry}
use Rattle.px_event.specs.declared.named.NamedEntry.{NamedEntry}
use Rattle.px_ports.specs.Moment.{Images}
use Rattle.px_ports.specs.declared.moment.Moment.{Moment}
use Rattle.px_journal.specs.Crash.{WithOrWithout, WithOrWithoutAs, LeavesOnly, KeepsHistories, KeepsNames, KeptSince, KeepsSinceAs}
use Rattle.px_journal.specs.Layout.{magic, digit, body_bytes, entries, is_fit, heading, record_bytes, records_size, next_gate, Stands, StandsAs}
use Rattle.px_journal.specs.declared.version.Version.{Version}
use Rattle.px_journal.proofs.Bodies.{body_short}
use Rattle.px_journal.proofs.Fronts.{next_gate-push}
use Rattle.px_journal.proofs.Meaning.{one_meaning, one_meaning_text, one_meaning_history}
use Rattle.px_journal.proofs.Moments.{told_since, left_before_or_after}

-- of lists that bytes stand for, at most one text and one list for the same bytes
module _ {X : Type 0} (Stand : List ℕ → List ℕ → List X → Type 0)
    (one : (bytes text other : List ℕ) (list others : List X) → Stand bytes text list → Stand bytes other others → (text ≡ other) × (list ≡ others)) where
  keeps : (images : Images) (old new : List Moment) (told text : List ℕ) (list : List X) (next : X) → images old told → Stand told text list
      → LeavesOnly images (λ image. Stand image text list ⊎ Stand image text (list ++ next ∷ [])) old new
      → (t : ℕ) → t ≤ length old → (text' : List ℕ) (front : List X) → KeptSince Stand images t text' front old → KeptSince Stand images t text' front new
  keeps images old new told text list next left stands leaves t early text' front before image since = ⊎_elim
      (λ was. before image was)
      (λ is.
      let now = before told (told_since images old told t early left) in
      let same = one told text text' list (front ++ now.0) stands (now.1) in
      ⊎_elim
      (λ without. (now.0, subst (λ (x : List ℕ). Stand image x (front ++ now.0)) (same.0) (subst (Stand image text) (same.1) without)))
      (λ with. (
        now.0 ++ next ∷ [],
        subst (λ (x : List ℕ). Stand image x (front ++ (now.0 ++ next ∷ []))) (same.0)
            (subst (Stand image text) (ap (λ (l : List X). l ++ next ∷ []) (same.1) ∙ append_assoc front (now.0) (next ∷ [])) with),
      ))
      (leaves.each image is))
      (left_before_or_after images old new t image leaves.grows since)

pub keeps_histories : (images : Images) (old new : List Moment) (told text : List ℕ) (history : List Entry) (entry : Entry) → images old told → Stands told text history
    → LeavesOnly images (WithOrWithout text history entry) old new → KeepsHistories images old new
keeps_histories = keeps Stands (λ bytes text other history others first second.
    (one_meaning_text bytes text other history others first second, one_meaning_history bytes text other history others first second))

pub keeps_names : (version : Version) (images : Images) (old new : List Moment) (told text : List ℕ) (named : List NamedEntry) (next : NamedEntry) → images old told
    → StandsAs version told text named → LeavesOnly images (WithOrWithoutAs version text named next) old new → KeepsNames images old new
keeps_names version images old new told text named next left stands leaves t early other text' front before =
    let now = before told (told_since images old told t early left) in
    let versions : version ≡ other = (one_meaning version other told text text' named (front ++ now.0) stands (now.1)).0 in
    subst (λ (v : Version). KeepsSinceAs v images t text' front old → KeepsSinceAs v images t text' front new) versions
    (keeps (StandsAs version) (λ bytes text other list others first second. let same = one_meaning version version bytes text other list others first second in (same.1, same.2))
    images old new told text named next left stands leaves t early text' front) before

-- as many entries as records
pub entries_count : (named : List NamedEntry) (history : List Entry) → entries named ≡ history → length named ≡ length history
entries_count named history are = sym (length-map named (λ (n : NamedEntry). n.entry)) ∙ ap length are

-- one thing more of each entry
pub map-push : {X : Type 0} (part : NamedEntry → X) (named : List NamedEntry) (next : NamedEntry) (parts : List X) → map part named ≡ parts
    → map part (named ++ next ∷ []) ≡ parts ++ part next ∷ []
map-push part named next parts are = map-append part named (next ∷ []) ∙ ap (λ l. l ++ part next ∷ []) are

-- with the names or without
pub without_names : (version : Version) (text : List ℕ) (named : List NamedEntry) (next : NamedEntry) (history : List Entry) (image : List ℕ) → entries named ≡ history
    → WithOrWithoutAs version text named next image → WithOrWithout text history next.entry image
without_names version text named next history image are = search (rules, map-push)

module _ (version : Version) where
  pub length-record : (entry : NamedEntry) → length (record_bytes version entry) ≡ 2 + length (body_bytes version entry)
  length-record entry = omega (arith, length-append (big_bytes 2 (length (body_bytes version entry))) (body_bytes version entry), length-bytes_high_first 2 (length (body_bytes version entry)))

  pub length-heading : (text : List ℕ) → length (heading version text) ≡ 12 + length text
  length-heading text = omega (arith, length-append magic (digit version ∷ (big_bytes 4 (length text) ++ text)), length-append (big_bytes 4 (length text)) text, length-bytes_high_first 4 (length text))

  records_small : (history : List NamedEntry) → IsTrue (list_all (is_fit version) history) → records_size version history ≤ 9385 * length history
  records_small [] fit = omega arith
  records_small (entry ∷ later) fit =
      let parts = and_parts (is_fit version entry) (list_all (is_fit version) later) fit in
      omega (arith, records_small later (parts.1), length-record entry, body_short version entry (parts.0))

  pub next_gate_small : (text : List ℕ) (history : List NamedEntry) → length text ≤ 1048576 → IsTrue (list_all (is_fit version) history) → length history ≤ 100000
      → next_gate version text history ≤ 939548589
  next_gate_small text history text_fits fit few = omega (arith, length-heading text, records_small history fit)

  -- the next gate stands behind a record and its gate
  pub next_place : (text : List ℕ) (history : List NamedEntry) (entry : NamedEntry) (gate : ℕ) (bytes : List ℕ) → gate ≡ next_gate version text history
      → bytes ≡ record_bytes version entry ++ 0 ∷ [] → gate + length bytes ≡ next_gate version text (history ++ entry ∷ [])
  next_place text history entry gate bytes gate_is bytes_are =
      omega (arith, gate_is, ap length bytes_are, length-append (record_bytes version entry) (0 ∷ []), next_gate-push version text history entry)
