-- Each tolerance has latched a value in each report, whatever is reported and taken back.
use Rattle.std.proofs.Common.{◌≡◌, ℕ, zero, suc, ◌-◌, Bool, true, false, List, [], ◌∷◌, ◌++◌, length, map, slice_get, Option, Some, None, IfSome, is_some, nat_eq, All, ap, sym, subst, ◌∙◌, if◌then◌else◌}
use Rattle.std.specs.Borrow.{Bor}
use Rattle.std.specs.List.{list_any}
use Rattle.std.specs.Map.{keys_of, lookup, values_of}
use Rattle.std.specs.Option.{option_copied}
use Rattle.std.proofs.lemmas.List.{map-id, take-map}
use Rattle.std.proofs.lemmas.List.Elements.{All-cons, All-get_or, All-head, All-nil, All-push, All-tail, All-take}
use Rattle.std.proofs.lemmas.Map.Made.{is_some-lookup}
use Rattle.std.proofs.lemmas.Map.Views.{IfSome-lookup_from_All}
use Rattle.std.proofs.lemmas.Option.{get_or_from_slice_get, slice_get_within}
use Rattle.std.proofs.lemmas.Simd.{map-map}
use Rattle.indexmap.specs.IndexMap.{IndexMap, insert_entry, set_value_at}
use Rattle.indexmap.proofs.MapLemmas.{Missing-position}
use Rattle.px_value.specs.declared.value.Value.{Value}
use Rattle.px_value.proofs.General.{is_some_mapped}
use Rattle.px_sem.specs.Events.{first_report, latched_then, next_report}
use Rattle.px_sem.specs.World.{LookState, Report, is_same_state, latched_at}
use Rattle.px_lookup.specs.declared.reports.Change.{Change}
use Rattle.px_lookup.specs.declared.reports.Change.TheVariants as changes
use Rattle.px_lookup.specs.Undoing.{HadLatchedEach, IsChange, LatchEach, place_of, undone}
use Rattle.px_lookup.proofs.Reporting.{set_value_at-back, take-insert_entry}

first_each : (tolerances : List ℕ) (given : Value) → keys_of (map (λ tolerance. (tolerance, given)) tolerances) ≡ tolerances
first_each tolerances given =
    map-map (λ (kept : ℕ × Value). kept.0) (λ (tolerance : ℕ). (tolerance, given)) tolerances ∙ map-id tolerances

next_each : (latched : List (ℕ × Value)) (given : Value) → keys_of (map (latched_then given) latched) ≡ keys_of latched
next_each latched given = map-map (λ (kept : ℕ × Value). kept.0) (latched_then given) latched

next_latches : (tolerances : List ℕ) (report : Report) (given : Value) → LatchEach tolerances report
    → LatchEach tolerances (next_report report given)
next_latches tolerances report given latches = next_each report.latched given ∙ latches

module _ (P : Report → Type 0) where
  inserted_all : (state : LookState) (report : Report) (es : List (LookState × Report)) → All P (values_of es) → P report
      → All P (values_of (insert_entry is_same_state es state report))
  inserted_all state report [] all holds = All-cons P report [] holds (All-nil P)
  inserted_all state report (e ∷ es) all holds =
      by (is_same_state state e.0) (inserted_all state report es (All-tail P e.1 (values_of es) all) holds)
    where
      by : (same : Bool) → All P (values_of (insert_entry is_same_state es state report))
          → All P (values_of (if same then (e.0, report) ∷ es else e ∷ insert_entry is_same_state es state report))
      by true rest = All-cons P report (values_of es) holds (All-tail P e.1 (values_of es) all)
      by false rest = All-cons P e.1 (values_of (insert_entry is_same_state es state report)) (All-head P e.1 (values_of es) all) rest

  set_all : (es : List (LookState × Report)) (at : ℕ) (old : Report) → All P (values_of es) → P old
      → All P (values_of (set_value_at es at old))
  set_all [] at old all holds = All-nil P
  set_all (e ∷ es) zero old all holds = All-cons P old (values_of es) holds (All-tail P e.1 (values_of es) all)
  set_all (e ∷ es) (suc at) old all holds =
      All-cons P e.1 (values_of (set_value_at es at old)) (All-head P e.1 (values_of es) all)
      (set_all es at old (All-tail P e.1 (values_of es) all) holds)

pub undone_latches : (tolerances : List ℕ) (change : Change) (es : List (LookState × Report))
    → All (LatchEach tolerances) (values_of es) → HadLatchedEach tolerances change
    → All (LatchEach tolerances) (values_of (undone change es))
undone_latches tolerances (changes.Replaced at old) es all had = set_all (LatchEach tolerances) es at old all had
undone_latches tolerances changes.Added es all had =
    subst (All (LatchEach tolerances)) (take-map (λ (e : LookState × Report). e.1) (length es - 1) es) (All-take (LatchEach tolerances) (length es - 1) (values_of es) all)

-- a report that took the place of one
pub replaced_change : (tolerances : List ℕ) (given : Value) (es : List (LookState × Report)) (at : ℕ) (old : Report)
    → slice_get (values_of es) at ≡ Some old
    → IsChange tolerances es (set_value_at es at (next_report old given)) (changes.Replaced at old)
replaced_change tolerances given es at old is = record {
  back = set_value_at-back es at (next_report old given) old is;
  latching = λ all.
      set_all (LatchEach tolerances) es at (next_report old given) all (next_latches tolerances old given (had all));
  had = had;
}
  where
    had : All (LatchEach tolerances) (values_of es) → LatchEach tolerances old
    had all = subst (LatchEach tolerances) (get_or_from_slice_get (values_of es) at old old is)
        (All-get_or (LatchEach tolerances) (values_of es) at old (slice_get_within (values_of es) at old is) all)

-- the first report of a state
pub added_change : {S : Type 0} (tolerances : List ℕ) (state : LookState) (given : Value) (m : IndexMap LookState Report S)
    → place_of state m.entries ≡ None
    → IsChange tolerances m.entries (insert_entry is_same_state m.entries state (first_report tolerances given)) changes.Added
added_change tolerances state given m nowhere = record {
  back = take-insert_entry is_same_state m state (first_report tolerances given)
      (Missing-position (is_same_state state) m.entries nowhere).value;
  latching = λ all. inserted_all (LatchEach tolerances) state (first_report tolerances given) m.entries all
      (first_each tolerances given);
  had = λ _. tt;
}

-- the changes so far, and one more where it is kept
pub noted_all : (P : Change → Type 0) (is_kept : Bool) (changes noted : List Change) (change : Change)
    → noted ≡ (if is_kept then changes ++ change ∷ [] else changes) → All P changes → P change → All P noted
noted_all P true changes noted change is all holds = subst (All P) (sym is) (All-push P changes change all holds)
noted_all P false changes noted change is all holds = subst (All P) (sym is) all

-- in a report that is found
pub found_latches : (tolerances : List ℕ) (state : LookState) (es : List (LookState × Report)) (found : Option Report)
    → All (LatchEach tolerances) (values_of es) → found ≡ lookup (is_same_state state) es → IfSome found (LatchEach tolerances)
found_latches tolerances state es found all is =
    subst (λ found. IfSome found (LatchEach tolerances)) (sym is)
    (IfSome-lookup_from_All (LatchEach tolerances) (is_same_state state) es all)

pub copied_some : {X : Type 0} (lent : Option (Bor X)) → is_some lent ≡ is_some (option_copied lent)
copied_some {X} lent = is_some_mapped (λ (x : Bor X). x.now) lent

pub latched_some : (tolerances : List ℕ) (report : Report) (tolerance : ℕ) → LatchEach tolerances report
    → is_some (latched_at report tolerance) ≡ list_any (nat_eq tolerance) tolerances
latched_some tolerances report tolerance latches =
    is_some-lookup (nat_eq tolerance) report.latched ∙ ap (list_any (nat_eq tolerance)) latches
