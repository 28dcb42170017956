-- The bodies of records, in either version: what is read of them, and how long they are.
use Rattle.std.proofs.Common.{rules, ◌≡◌, ◌≤◌, inl, inr, ℕ, true, List, [], ◌∷◌, length, Option, Some, None, refl, subst, arith}
use Rattle.std.specs.Prelude.{◌&&◌, ◌==◌, is_none}
use Rattle.std.specs.Option.{option_map}
use Rattle.std.proofs.lemmas.Bool.{and_parts, and_from, cases_Bool}
use Rattle.px_value.proofs.General.{option_map_some}
use Rattle.px_event.specs.Fit.{is_fit_entry, is_interface, is_report_name}
use Rattle.px_event.specs.Names.{name_of, are_names}
use Rattle.px_event.specs.Reading.{decoded, decoded_named}
use Rattle.px_event.specs.declared.entry.Entry.{Entry}
use Rattle.px_event.specs.declared.named.NamedEntry.{NamedEntry}
use Rattle.px_event.specs.declared.names.ThreadName.{ThreadName}
use Rattle.px_event.proofs.Entries.{decoded_takes, decoded_again, entry_short}
use Rattle.px_event.proofs.Fields.{IsBytes}
use Rattle.px_event.proofs.Interfaces.{named_decoded_takes, named_decoded_again, named_short}
use Rattle.px_event.proofs.Wholes.{one_spelled}
use Rattle.px_journal.specs.Journal.{name_given}
use Rattle.px_journal.specs.Layout.{body_bytes, is_fit}
use Rattle.px_journal.specs.declared.version.Version.{Version}
use Rattle.px_journal.specs.declared.version.Version.TheVariants as versions

-- ---- in the first version an entry has no name

abbrev pub unnamed : Entry → NamedEntry
unnamed entry = record { name = None; entry = entry }

unnamed_is : (name : Option (List ℕ)) (entry : Entry) → is_none name ≡ true → unnamed entry ≡ record { name = name; entry = entry }
unnamed_is None entry none = refl
unnamed_is (Some name) entry none = absurd cc

-- in either version the entry is fit
pub entry_fits : (version : Version) (named : NamedEntry) → is_fit version named ≡ true → is_fit_entry named.entry ≡ true
entry_fits versions.One named fit = (and_parts (is_none named.name) (is_fit_entry named.entry) fit).1
entry_fits versions.Two named fit = (and_parts (is_interface named.name) (is_fit_entry named.entry) fit).1

-- ---- what is read

abbrev pub body_of : Version → List ℕ → Option NamedEntry
body_of versions.One bytes = option_map unnamed (decoded bytes)
body_of versions.Two bytes = decoded_named bytes

pub body_takes : (version : Version) (bytes : List ℕ) (named : NamedEntry) → IsBytes bytes → body_of version bytes ≡ Some named
    → (is_fit version named ≡ true) × (bytes ≡ body_bytes version named)
body_takes versions.One bytes named fits e =
    let read = option_map_some unnamed (decoded bytes) named e in
    subst (λ (n : NamedEntry). (is_fit versions.One n ≡ true) × (bytes ≡ body_bytes versions.One n)) (read.2) (decoded_takes bytes (read.0) fits (read.1))
body_takes versions.Two bytes named fits e = named_decoded_takes bytes named fits e

pub body_again : (version : Version) (named : NamedEntry) → is_fit version named ≡ true → body_of version (body_bytes version named) ≡ Some named
body_again versions.One named fit =
    search (rules, and_parts, decoded_again, unnamed_is)
body_again versions.Two named fit = named_decoded_again named fit

-- no bytes are the body of two
pub one_body : (version : Version) (a b : NamedEntry) → is_fit version a ≡ true → is_fit version b ≡ true → body_bytes version a ≡ body_bytes version b → a ≡ b
one_body version = one_spelled (body_of version) (body_bytes version) (is_fit version) (body_again version)

pub body_short : (version : Version) (named : NamedEntry) → is_fit version named ≡ true → length (body_bytes version named) ≤ 9382
body_short versions.One named fit = omega (arith, entry_short named.entry (and_parts (is_none named.name) (is_fit_entry named.entry) fit).1)
body_short versions.Two named fit = named_short named fit

-- ---- the name that an append gives

pub name_fits : (thread : ℕ) (names : List ThreadName) → are_names names ≡ true → is_interface (name_of thread names) ≡ true
name_fits thread [] are = refl
name_fits thread (row ∷ later) are =
    let outer = and_parts (is_report_name row.name && is_none (name_of row.thread later)) (are_names later) are in
    let inner = and_parts (is_report_name row.name) (is_none (name_of row.thread later)) (outer.0) in
    elim (cases_Bool (row.thread == thread)) [
      | inl same ↦ rw same (inner.0)
      | inr other ↦ rw other (name_fits thread later (outer.1))
    ]

pub given_fits : (version : Version) (names : List ThreadName) (entry : Entry) → are_names names ≡ true → is_fit_entry entry ≡ true
    → is_fit version (record { name = name_given version names entry.thread; entry = entry }) ≡ true
given_fits versions.One names entry are fit = fit
given_fits versions.Two names entry are fit =
    and_from (is_interface (name_of entry.thread names)) (is_fit_entry entry) (name_fits entry.thread names are) fit
