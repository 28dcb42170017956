-- Where the bytes of a journal are damaged: the first place of a list of places, in its order.
use Rattle.std.specs.Prelude.{◌≡◌, ◌≢◌, ◌<◌, ◌≤◌, ◌⊎◌, ℕ, ◌+◌, List, length, take, drop, slice_index, IsTrue}
use Rattle.byteorder.specs.Endian.{big_number}
use Rattle.px_event.specs.declared.named.NamedEntry.{NamedEntry}
use Rattle.px_journal.specs.Layout.{magic, digit, body_bytes, is_fit, is_open, next_gate, Front, HasVersion}
use Rattle.px_journal.specs.declared.version.Version.{Version}

-- the length that the heading tells, and that a record tells whose gate stands at the front
abbrev pub text_length : List ℕ → ℕ
text_length bytes = big_number 4 (drop 9 bytes)

abbrev pub body_length : List ℕ → ℕ
body_length bytes = big_number 2 (drop 1 bytes)

abbrev pub body : List ℕ → List ℕ
body bytes = take (body_length bytes) (drop 3 bytes)

-- no fit entry has these bytes as its body
abbrev pub IsNoBody : Version → List ℕ → Type 0
IsNoBody version bytes = (named : NamedEntry) → IsTrue (is_fit version named) → bytes ≢ body_bytes version named

module _ (version : Version) (bytes : List ℕ) where
  -- the record whose gate stands at this place is broken, at the first row that holds
  abbrev pub IsBroken : ℕ → ℕ → Type 0
  IsBroken gate at =
      -- its length or the next gate lies past the end
      ((at ≡ gate + 1) × (length bytes ≤ gate + 3 + body_length (drop gate bytes)))
      -- its body is no entry, or in the second version no entry with a name or without one
      ⊎ ((at ≡ gate + 3) × (gate + 3 + body_length (drop gate bytes) < length bytes)
      × IsNoBody version (body (drop gate bytes)))

  -- the record with an open gate at this place is damaged: before it stand as many as there may be, or it is broken
  pub record DamagedRecord (before : List NamedEntry) (gate at : ℕ) : Type 0 where
    pub open_gate : IsTrue (is_open (drop gate bytes))
    pub row : ((at ≡ gate) × (length before ≡ 100000)) ⊎ ((length before < 100000) × IsBroken gate at)

-- THE PLACE OF DAMAGE, by the first row that holds
pub data Damaged (bytes : List ℕ) : ℕ → Type 0 where
  -- a byte of the magic, from place 1 on
  magic_differs : (i : ℕ) → i < 7 → take i (drop 1 bytes) ≡ take i magic
      → slice_index bytes (1 + i) ≢ slice_index magic i → Damaged bytes (1 + i)
  -- the version is neither 1 nor 2
  version_differs : take 7 (drop 1 bytes) ≡ magic
      → ((version : Version) → slice_index bytes 8 ≢ digit version) → Damaged bytes 8
  -- the text is too long, or the gate behind it lies past the end
  text_is_cut : (version : Version) → HasVersion version bytes
      → (1048576 < text_length bytes) ⊎ (length bytes ≤ 13 + text_length bytes) → Damaged bytes 9
  -- the first record that is damaged
  record_is : (version : Version) (text : List ℕ) (before : List NamedEntry) (at : ℕ) → Front version bytes text before
      → DamagedRecord version bytes before (next_gate version text before) at → Damaged bytes at
