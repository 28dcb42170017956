-- What a report does to the reports, and how changes are taken back.
use Rattle.std.proofs.Common.{◌≡◌, ℕ, zero, suc, ◌-◌, ◌≤◌, Bool, true, false, cond, List, [], ◌∷◌, ◌++◌}
use Rattle.std.proofs.Common.{length, position, slice_get, take, refl, ap, sym, ◌∙◌, arith, Option, Some, None, if◌then◌else◌, length-append}
use Rattle.std.specs.List.{IsDistinct}
use Rattle.std.specs.Map.{keys_of, lookup, values_of}
use Rattle.std.specs.Option.{option_map}
use Rattle.std.proofs.lemmas.Option.{slice_get-map}
use Rattle.std.proofs.Math.Seq.{take-append_seam}
use Rattle.indexmap.specs.IndexMap.{IndexMap, get, insert_entry, set_value_at}
use Rattle.indexmap.proofs.CallerLemmas.{insert_entry-new}
use Rattle.indexmap.proofs.MapLemmas.{Found-position, Missing-position, index-first, insert_entry-first}
use Rattle.indexmap.proofs.RemoveLemmas.{own_first}
use Rattle.px_value.specs.declared.value.Value.{Value}
use Rattle.px_sem.specs.World.{LookState, Report, is_same_state, report_at}
use Rattle.px_sem.specs.Events.{first_report, next_report, reported}
use Rattle.px_lookup.specs.declared.reports.Change.{Change}
use Rattle.px_lookup.specs.Undoing.{place_of, undone, undone_each}
use Rattle.px_lookup.specs.contracts.look_state.LookStateEq.TheImpl.Laws as same_states

-- Either way round: the map asks of the state that is looked up, and the semantics of the one that was reported.
is_same_state-symm : (a b : LookState) → is_same_state a b ≡ is_same_state b a
is_same_state-symm = same_states.laws-law.symm

pub lookup-report_at : (state : LookState) (xs : List (LookState × Report))
    → lookup (is_same_state state) xs ≡ report_at xs state
lookup-report_at state xs i = lookup (λ key. is_same_state-symm state key i) xs

-- the report of a state after one more, or its first
abbrev report_after : List ℕ → Option Report → Value → Report
report_after tolerances None given = first_report tolerances given
report_after tolerances (Some report) given = next_report report given

insert_entry-reported : (tolerances : List ℕ) (state : LookState) (given : Value) (xs : List (LookState × Report))
    → insert_entry is_same_state xs state (report_after tolerances (report_at xs state) given)
    ≡ reported tolerances state given xs
insert_entry-reported tolerances state given [] = refl
insert_entry-reported tolerances state given (x ∷ xs) =
    (λ i. if is_same_state-symm state x.0 i then (x.0, now) ∷ xs else x ∷ insert_entry is_same_state xs state now)
    ∙ by (is_same_state x.0 state) (insert_entry-reported tolerances state given xs)
  where
    after : Option Report → Report
    after old = report_after tolerances old given

    now : Report
    now = after (report_at (x ∷ xs) state)

    by : (same : Bool) → insert_entry is_same_state xs state (after (report_at xs state)) ≡ reported tolerances state given xs
        → (if same then (x.0, after (cond same (Some x.1) (report_at xs state))) ∷ xs
        else x ∷ insert_entry is_same_state xs state (after (cond same (Some x.1) (report_at xs state))))
        ≡ (if same then (x.0, next_report x.1 given) ∷ xs else x ∷ reported tolerances state given xs)
    by true rest = refl
    by false rest = ap (λ ys. x ∷ ys) rest

-- where the state stands, one more report takes the place of the one before
pub replaced-reported : (tolerances : List ℕ) (state : LookState) (given : Value) (xs : List (LookState × Report)) (at : ℕ)
    (old : Report) → place_of state xs ≡ Some at → slice_get (values_of xs) at ≡ Some old
    → set_value_at xs at (next_report old given) ≡ reported tolerances state given xs
replaced-reported tolerances state given xs at old stands is =
    let found = Found-position (is_same_state state) xs at stands in
    sym (insert_entry-first is_same_state state (next_report old given) xs at found.first)
    ∙ ap (λ found. insert_entry is_same_state xs state (report_after tolerances found given))
    (sym is ∙ sym found.value ∙ lookup-report_at state xs)
    ∙ insert_entry-reported tolerances state given xs

-- where it does not, its first one goes behind all others
pub added-reported : (tolerances : List ℕ) (state : LookState) (given : Value) (xs : List (LookState × Report))
    → place_of state xs ≡ None
    → insert_entry is_same_state xs state (first_report tolerances given) ≡ reported tolerances state given xs
added-reported tolerances state given xs nowhere =
    ap (λ found. insert_entry is_same_state xs state (report_after tolerances found given))
    (sym (Missing-position (is_same_state state) xs nowhere).value ∙ lookup-report_at state xs)
    ∙ insert_entry-reported tolerances state given xs

-- a state is where one that is the same stands
pub stands_there : (state key : LookState) (report : Report) (xs : List (LookState × Report)) (at : ℕ)
    → IsDistinct is_same_state (keys_of xs) → slice_get xs at ≡ Some (key, report) → is_same_state state key ≡ true
    → place_of state xs ≡ Some at
stands_there state key report xs at distinct there same =
    (λ i. position (λ other. same_states.laws-law.congr state key other same i) (keys_of xs))
    ∙ index-first (is_same_state key) xs at (own_first is_same_state same_states.laws-law xs at key report distinct there)

-- its report is the one that stands there
pub report_there : (state key : LookState) (report : Report) (xs : List (LookState × Report)) (at : ℕ)
    → IsDistinct is_same_state (keys_of xs) → slice_get xs at ≡ Some (key, report) → is_same_state key state ≡ true
    → Some report ≡ report_at xs state
report_there state key report xs at distinct there same =
    let stands = stands_there state key report xs at distinct there (is_same_state-symm state key ∙ same) in
    sym (slice_get-map (λ (entry : LookState × Report). entry.1) xs at ∙ ap (option_map (λ (entry : LookState × Report). entry.1)) there)
    ∙ sym (Found-position (is_same_state state) xs at stands).value ∙ lookup-report_at state xs

module _ {K X : Type 0} where
  -- an old value put back where a new one took its place
  pub set_value_at-back : (xs : List (K × X)) (at : ℕ) (v old : X) → slice_get (values_of xs) at ≡ Some old
      → set_value_at (set_value_at xs at v) at old ≡ xs
  set_value_at-back [] at v old is = refl
  set_value_at-back (x ∷ xs) zero v old is = let same : old ≡ x.1 = cc in ap (λ w. (x.0, w) ∷ xs) same
  set_value_at-back (x ∷ xs) (suc at) v old is = ap (λ ys. x ∷ ys) (set_value_at-back xs at v old is)

  -- there is nothing to write behind the last entry
  pub set_value_at-behind : (xs : List (K × X)) (i : ℕ) (v : X) → length xs ≤ i → set_value_at xs i v ≡ xs
  set_value_at-behind [] i v h = refl
  set_value_at-behind (x ∷ xs) zero v h = absurd (omega arith)
  set_value_at-behind (x ∷ xs) (suc i) v h = ap (λ ys. x ∷ ys) (set_value_at-behind xs i v (omega arith))

  -- a new entry taken back
  pub take-insert_entry : {S : Type 0} (eq : K → K → Bool) (m : IndexMap K X S) (k : K) (v : X) → get eq m k ≡ None
      → take (length (insert_entry eq m.entries k v) - 1) (insert_entry eq m.entries k v) ≡ m.entries
  take-insert_entry eq m k v none =
      let added = m.entries ++ (k, v) ∷ [] in
      let long : length added - 1 ≡ length m.entries = omega (arith, length-append m.entries ((k, v) ∷ [])) in
      ap (λ xs. take (length xs - 1) xs) (insert_entry-new eq m k v none)
      ∙ ap (λ n. take n added) long ∙ take-append_seam m.entries ((k, v) ∷ [])

-- ---- changes taken back

-- one change more is undone first
pub undone-push : (changes : List Change) (change : Change) (reports : List (LookState × Report))
    → undone_each (changes ++ change ∷ []) reports ≡ undone_each changes (undone change reports)
undone-push [] change reports = refl
undone-push (first ∷ changes) change reports = ap (undone first) (undone-push changes change reports)

-- the mark stays as a report is noted
pub kept_mark : (is_marked : Bool) (changes noted : List Change) (change : Change) (before after : List (LookState × Report))
    → noted ≡ (if is_marked then changes ++ change ∷ [] else changes) → undone change after ≡ before
    → (if is_marked then Some (undone_each noted after) else None)
    ≡ (if is_marked then Some (undone_each changes before) else None)
kept_mark true changes noted change before after is back =
    ap Some (ap (λ noted. undone_each noted after) is ∙ undone-push changes change after ∙ ap (undone_each changes) back)
kept_mark false changes noted change before after is back = refl
