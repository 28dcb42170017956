-- THE LAYOUT OF A JOURNAL, over the whole list of its bytes. A gate is one byte, and closed exactly where it is 0. There
-- are two versions: in the second each entry stands with the name of its interface.
use Rattle.std.specs.Prelude.{◌≡◌, ◌≤◌, ℕ, ◌+◌, Bool, false, not, ◌==◌, nat_lt, ◌&&◌, ◌||◌, Option, is_none, List, [], ◌∷◌, ◌++◌, length, map, take, drop, slice_index, IsTrue, ⊤}
use Rattle.std.specs.List.{list_all}
use Rattle.byteorder.specs.Endian.{big_bytes}
use Rattle.px_event.specs.Bytes.{entry_bytes, named_bytes}
use Rattle.px_event.specs.Fit.{is_fit_entry, is_fit_named}
use Rattle.px_event.specs.declared.entry.Entry.{Entry}
use Rattle.px_event.specs.declared.named.NamedEntry.{NamedEntry}
use Rattle.px_journal.specs.declared.version.Version.{Version}
use Rattle.px_journal.specs.declared.version.Version.TheVariants as versions

-- `PLXJRNL`, and behind it the version: `1` or `2`
abbrev pub magic : List ℕ
magic = 80 ∷ 76 ∷ 88 ∷ 74 ∷ 82 ∷ 78 ∷ 76 ∷ []

abbrev pub digit : Version → ℕ
digit versions.One = 49
digit versions.Two = 50

-- THE BYTES HAVE A VERSION: it stands behind the master gate and the magic
abbrev pub HasVersion : Version → List ℕ → Type 0
HasVersion version bytes = (take 7 (drop 1 bytes) ≡ magic) × (slice_index bytes 8 ≡ digit version)

-- the body of a record: the bytes of its entry, in the second version with the name of its interface
abbrev pub body_bytes : Version → NamedEntry → List ℕ
body_bytes versions.One named = entry_bytes named.entry
body_bytes versions.Two named = named_bytes named.name named.entry

-- what a record may hold: a fit entry, which in the first version has no name
abbrev pub is_fit : Version → NamedEntry → Bool
is_fit versions.One named = is_none named.name && is_fit_entry named.entry
is_fit versions.Two named = is_fit_named named

-- the entries of a journal, and the names of their interfaces
abbrev pub entries : List NamedEntry → List Entry
entries = map (λ named. named.entry)

abbrev pub interfaces : List NamedEntry → List (Option (List ℕ))
interfaces = map (λ named. named.name)

-- at the front stands a gate, and it is open
abbrev pub is_open : List ℕ → Bool
is_open [] = false
is_open (gate ∷ rest) = not (gate == 0)

-- at the front stands a gate, and it is closed
abbrev pub is_closed : List ℕ → Bool
is_closed [] = false
is_closed (gate ∷ rest) = gate == 0

-- at the front stands an open gate with these bytes behind it
pub record Opens (behind bytes : List ℕ) : Type 0 where
  pub gate : IsTrue (is_open bytes)
  pub content : take (length behind) (drop 1 bytes) ≡ behind

-- the bytes are no journal: they are fewer than 13, or the master gate is closed
abbrev pub is_nothing : List ℕ → Bool
is_nothing bytes = nat_lt (length bytes) 13 || is_closed bytes

module _ (version : Version) where
  -- behind the master gate: the magic, the version, the length of the plan's text in four bytes, and the text
  abbrev pub heading : List ℕ → List ℕ
  heading text = magic ++ (digit version ∷ (big_bytes 4 (length text) ++ text))

  -- behind the gate of a record: the length of its body in two bytes, and the body
  abbrev pub record_bytes : NamedEntry → List ℕ
  record_bytes named = big_bytes 2 (length (body_bytes version named)) ++ body_bytes version named

  -- at the front stand open records of these entries, one behind the other
  abbrev pub Records : List NamedEntry → List ℕ → Type 0
  Records [] bytes = ⊤
  Records (named ∷ later) bytes =
      Opens (record_bytes named) bytes × Records later (drop (1 + length (record_bytes named)) bytes)

  -- how many bytes such records have, with their gates
  abbrev pub records_size : List NamedEntry → ℕ
  records_size [] = 0
  records_size (named ∷ later) = 1 + length (record_bytes named) + records_size later

  -- the place behind the text and the records, where the next gate stands
  abbrev pub next_gate : List ℕ → List NamedEntry → ℕ
  next_gate text named = 1 + length (heading text) + records_size named

  -- an open master gate, the text of a plan, and open records of fit entries
  pub record Front (bytes text : List ℕ) (named : List NamedEntry) : Type 0 where
    pub opens : Opens (heading text) bytes
    pub records : Records named (drop (1 + length (heading text)) bytes)
    pub text_fits : length text ≤ 1048576
    pub fit : IsTrue (list_all (is_fit version) named)

  -- THE BYTES STAND FOR A TEXT AND ENTRIES WITH THEIR NAMES, in this version. Behind the last record stands a closed
  -- gate, and then any bytes.
  pub record StandsAs (bytes text : List ℕ) (named : List NamedEntry) : Type 0 where
    pub front : Front bytes text named
    pub closed : IsTrue (is_closed (drop (next_gate text named) bytes))
    pub few : length named ≤ 100000

-- THE BYTES STAND FOR A TEXT AND A HISTORY, in one version or the other
pub record Stands (bytes text : List ℕ) (history : List Entry) : Type 0 where
  pub version : Version
  pub named : List NamedEntry
  pub stands : StandsAs version bytes text named
  pub entries_are : entries named ≡ history

-- THE NAMES OF BYTES that stand for a history, one for each of its entries; in the first version none has one
pub record AreNamesOf (bytes : List ℕ) (names : List (Option (List ℕ))) : Type 0 where
  pub version : Version
  pub text : List ℕ
  pub named : List NamedEntry
  pub stands : StandsAs version bytes text named
  pub names_are : interfaces named ≡ names
