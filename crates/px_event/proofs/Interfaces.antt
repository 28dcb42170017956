-- An entry with the name of its interface that is read is the one that was spelled, and one that was spelled is read again.
use Rattle.std.proofs.Common.{◌≡◌, ℕ, ◌≤◌, true, List, [], ◌∷◌, ◌++◌, length, Option, Some, None, refl, ap, subst, ◌∙◌, append_assoc, arith}
use Rattle.std.specs.Prelude.{◌&&◌, IsTrue, Result, IfOk, IsErrOf}
use Rattle.std.proofs.lemmas.Bool.{and_parts, and_from}
use Rattle.std.proofs.lemmas.List.{length-append}
use Rattle.std.proofs.lemmas.Option.{same_Some}
use Rattle.std.proofs.lemmas.Str.{IsUtf8-nil, is_utf8-from_IsUtf8}
use Rattle.std.proofs.Math.Dec.{eqb-suc-zero}
use Rattle.byteorder.specs.Endian.{big_bytes}
use Rattle.px_event.specs.Fit.{entry_of, is_report_name, is_interface, is_fit_event, is_fit_named}
use Rattle.px_event.specs.Bytes.{text_bytes, event_bytes, interface_bytes, named_bytes}
use Rattle.px_event.specs.Reading.{Read, ◌>>=◌, only, text_at, event_at, source_at, interface_at, interface_behind, named_at, decoded_named, Gives}
use Rattle.px_event.specs.declared.event.Event.{Event}
use Rattle.px_event.specs.declared.fault.DecodeFault.{DecodeFault}
use Rattle.px_event.specs.declared.fault.DecodeFault.TheVariants.{Bad}
use Rattle.px_event.specs.declared.named.NamedEntry.{NamedEntry}
use Rattle.px_event.proofs.Spelled.{report_name_text}
use Rattle.px_event.proofs.Fields.{IsBytes, bind_some, after, only_some, only_passes, Takes, Takes-then, text_takes, text_again}
use Rattle.px_event.proofs.Entries.{name_below, is_source, source_bytes, source_takes, source_again, event_takes, event_again, event_short}
use Rattle.px_event.proofs.Wholes.{all_takes, all_again, answers, answers_bad, one_spelled}

abbrev Interface : Type 0
Interface = Option (List ℕ)

-- ---- the name

abbrev IsTaken : List ℕ → Interface × List ℕ → Type 0
IsTaken bytes read = Takes bytes (interface_bytes read.0) read.1 × (is_interface read.0 ≡ true)

abbrev unnamed : List ℕ → Interface × List ℕ
unnamed rest = (None, rest)

abbrev named_by : List ℕ × List ℕ → Interface × List ℕ
named_by name = (Some name.0, name.1)

abbrev name_read : List ℕ × List ℕ → Read Interface
name_read name = Some (named_by name)

behind_takes : (bytes text rest : List ℕ) (read : Interface × List ℕ) → Takes bytes (text_bytes text) rest → interface_behind (text, rest) ≡ Some read → IsTaken bytes read
behind_takes bytes [] rest read taken e = subst (IsTaken bytes) (same_Some (unnamed rest) read e) (taken, refl)
behind_takes bytes (c ∷ cs) rest read taken e =
    let given : (only is_report_name (c ∷ cs, rest) >>= name_read) ≡ Some read = rw eqb-suc-zero at e in
    let n = bind_some (only is_report_name (c ∷ cs, rest)) name_read read given in
    let o = only_some is_report_name (c ∷ cs, rest) n.0 n.1 in
    subst (IsTaken bytes) (same_Some (named_by n.0) read n.2)
    (subst (λ (p : List ℕ × List ℕ). Takes bytes (text_bytes p.0) p.1 × (is_report_name p.0 ≡ true)) o.1 (taken, o.0))

interface_takes : (bytes : List ℕ) (read : Interface × List ℕ) → IsBytes bytes → interface_at bytes ≡ Some read → IsTaken bytes read
unfolding interface_at
interface_takes bytes read fits e =
    let t = bind_some (text_at bytes) interface_behind read e in
    behind_takes bytes t.0.0 t.0.1 read (text_takes bytes t.0.0 t.0.1 fits t.1).0 t.2

interface_again : (name : Interface) (rest : List ℕ) → is_interface name ≡ true → interface_at (interface_bytes name ++ rest) ≡ Some (name, rest)
unfolding interface_at
interface_again None rest fit = after (text_at (text_bytes [] ++ rest)) interface_behind ([], rest) _ (text_again [] rest (omega arith) (is_utf8-from_IsUtf8 [] IsUtf8-nil)) refl
interface_again (Some []) rest fit = absurd cc
interface_again (Some (c ∷ cs)) rest fit =
    let name = c ∷ cs in
    let short = name_below name fit in
    after (text_at (text_bytes name ++ rest)) interface_behind (name, rest) _ (text_again name rest (omega arith) (report_name_text name fit))
    (rw eqb-suc-zero (after (only is_report_name (name, rest)) name_read (name, rest) _ (only_passes is_report_name (name, rest) fit) refl))

-- ---- entries with their names

abbrev named_of : ℕ × ℕ → Interface → Event → NamedEntry
named_of source name event = record { name = name; entry = entry_of source.0 source.1 event }

abbrev named_read : ℕ × ℕ → Interface → Event × List ℕ → Read NamedEntry
named_read source name event = Some (named_of source name event.0, event.1)

abbrev event_then : ℕ × ℕ → Interface × List ℕ → Read NamedEntry
event_then source name = event_at name.1 >>= named_read source name.0

abbrev name_then : (ℕ × ℕ) × List ℕ → Read NamedEntry
name_then source = interface_at source.1 >>= event_then source.0

abbrev spelled : NamedEntry → List ℕ
spelled named = named_bytes named.name named.entry

named_takes : (bytes : List ℕ) (read : NamedEntry × List ℕ) → IsBytes bytes → named_at bytes ≡ Some read → Takes bytes (spelled read.0) read.1 × (is_fit_named read.0 ≡ true)
unfolding named_at
named_takes bytes read fits e =
    let s = bind_some (source_at bytes) name_then read e in
    let st = source_takes bytes s.0 fits s.1 in
    let n = bind_some (interface_at s.0.1) (event_then s.0.0) read s.2 in
    let nt = interface_takes s.0.1 n.0 st.0.rest_fits n.1 in
    let v = bind_some (event_at n.0.1) (named_read s.0.0 n.0.0) read n.2 in
    let vt = event_takes n.0.1 v.0 nt.0.rest_fits v.1 in
    let behind = Takes-then s.0.1 (interface_bytes n.0.0) n.0.1 (event_bytes v.0.0) v.0.1 nt.0 vt.0 in
    let whole = Takes-then bytes (source_bytes s.0.0) s.0.1 (interface_bytes n.0.0 ++ event_bytes v.0.0) v.0.1 st.0 behind in
    let fit : is_fit_named (named_of s.0.0 n.0.0 v.0.0) ≡ true =
    and_from (is_interface n.0.0) (is_source s.0.0 && is_fit_event v.0.0) nt.1 (and_from (is_source s.0.0) (is_fit_event v.0.0) st.1 vt.1) in
    subst (λ (p : NamedEntry × List ℕ). Takes bytes (spelled p.0) p.1 × (is_fit_named p.0 ≡ true)) (same_Some (named_of s.0.0 n.0.0 v.0.0, v.0.1) read v.2) (whole, fit)

named_again : (named : NamedEntry) (rest : List ℕ) → is_fit_named named ≡ true → named_at (spelled named ++ rest) ≡ Some (named, rest)
unfolding named_at
named_again named rest fit =
    let entry = named.entry in
    let source : ℕ × ℕ = (entry.thread, entry.line) in
    let both = and_parts (is_interface named.name) (is_source source && is_fit_event entry.event) fit in
    let last = and_parts (is_source source) (is_fit_event entry.event) both.1 in
    let event = event_bytes entry.event ++ rest in
    let name = interface_bytes named.name ++ event in
    let parts : spelled named ++ rest ≡ source_bytes source ++ name =
    append_assoc (source_bytes source) (interface_bytes named.name ++ event_bytes entry.event) rest
    ∙ ap (λ (l : List ℕ). source_bytes source ++ l) (append_assoc (interface_bytes named.name) (event_bytes entry.event) rest) in
    ap (λ (l : List ℕ). source_at l >>= name_then) parts
    ∙ after (source_at (source_bytes source ++ name)) name_then (source, name) _ (source_again source name last.0)
    (after (interface_at name) (event_then source) (named.name, event) _ (interface_again named.name event both.0)
    (after (event_at event) (named_read source named.name) (entry.event, rest) _ (event_again entry.event rest last.1) refl))

-- ---- the whole

pub named_decoded_takes : (bytes : List ℕ) (named : NamedEntry) → IsBytes bytes → decoded_named bytes ≡ Some named → (is_fit_named named ≡ true) × (bytes ≡ spelled named)
unfolding decoded_named
named_decoded_takes = all_takes named_at spelled is_fit_named named_takes

pub named_decoded_again : (named : NamedEntry) → is_fit_named named ≡ true → decoded_named (spelled named) ≡ Some named
unfolding decoded_named
named_decoded_again = all_again named_at spelled is_fit_named named_again

pub decodes : (bytes : List ℕ) (result : Result NamedEntry DecodeFault) → IsBytes bytes → Gives (λ (named : NamedEntry). named) (decoded_named bytes) result
    → IfOk result (λ named. IsTrue (is_fit_named named) × (bytes ≡ spelled named))
decodes = answers decoded_named spelled is_fit_named named_decoded_takes

pub refuses : (bytes : List ℕ) (result : Result NamedEntry DecodeFault) → Gives (λ (named : NamedEntry). named) (decoded_named bytes) result → IsErrOf result Bad
    → (named : NamedEntry) → IsTrue (is_fit_named named) → bytes ≡ spelled named → ⊥
refuses = answers_bad decoded_named spelled is_fit_named named_decoded_again

pub one_named : (a b : NamedEntry) → is_fit_named a ≡ true → is_fit_named b ≡ true → spelled a ≡ spelled b → a ≡ b
one_named = one_spelled decoded_named spelled is_fit_named named_decoded_again

-- ---- how long they are

interface_short : (name : Interface) → is_interface name ≡ true → length (interface_bytes name) ≤ 66
interface_short None fit = omega arith
interface_short (Some name) fit =
    let short = name_below name fit in
    omega (arith, length-append (big_bytes 2 (length name)) name)

pub named_short : (named : NamedEntry) → is_fit_named named ≡ true → length (spelled named) ≤ 9382
named_short named fit =
    let entry = named.entry in
    let source : ℕ × ℕ = (entry.thread, entry.line) in
    let both = and_parts (is_interface named.name) (is_source source && is_fit_event entry.event) fit in
    let last = and_parts (is_source source) (is_fit_event entry.event) both.1 in
    let event = event_short entry.event last.1 in
    let name = interface_short named.name both.0 in
    omega (arith, length-append (interface_bytes named.name) (event_bytes entry.event))
