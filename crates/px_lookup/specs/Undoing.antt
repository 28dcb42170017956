-- How reports keep those of the mark: by what each report since has changed.
use Rattle.std.specs.Prelude.{◌≡◌, ℕ, ◌-◌, false, List, [], ◌∷◌, length, position, take, slice_get, Option, Some, None, All, if◌then◌else◌}
use Rattle.std.specs.Map.{keys_of, values_of}
use Rattle.std.specs.Option.{ForSome}
use Rattle.indexmap.specs.IndexMap.{set_value_at}
use Rattle.px_sem.specs.World.{LookState, Report, is_same_state, latched_at}
use Rattle.px_lookup.specs.declared.reports.Change.{Change}
use Rattle.px_lookup.specs.declared.reports.Change.TheVariants as changes
use Rattle.px_lookup.specs.declared.reports.Reports.TheInside.{Inside}
use Rattle.px_lookup.specs.Reports.{ReportsData}

-- where a state stands, if it was reported
abbrev pub place_of : LookState → List (LookState × Report) → Option ℕ
place_of state reports = position (is_same_state state) (keys_of reports)

-- the reports before a change of them
abbrev pub undone : Change → List (LookState × Report) → List (LookState × Report)
undone (changes.Replaced at old) reports = set_value_at reports at old
undone changes.Added reports = take (length reports - 1) reports

-- the reports before these changes, of which the last is undone first
abbrev pub undone_each : List Change → List (LookState × Report) → List (LookState × Report)
undone_each [] reports = reports
undone_each (change ∷ later) reports = undone change (undone_each later reports)

-- what a tolerance had latched before a change is what it has latched in the report that now stands there
abbrev pub IsAsLatched : List (LookState × Report) → ℕ → Change → Type 0
IsAsLatched reports tolerance (changes.Replaced at old) =
    ForSome (slice_get reports at) (λ entry. latched_at old tolerance ≡ latched_at entry.1 tolerance)
IsAsLatched reports tolerance changes.Added = ⊥

abbrev pub reports_data : Inside → ReportsData
reports_data r = record {
  tolerances = r.tolerances.items;
  reports = r.values.entries;
  marked = if r.is_marked then Some (undone_each r.changes.items r.values.entries) else None;
}

-- each of these tolerances has latched a value in a report, and no other
abbrev pub LatchEach : List ℕ → Report → Type 0
LatchEach tolerances report = keys_of report.latched ≡ tolerances

-- each has in the one that a change replaced
abbrev pub HadLatchedEach : List ℕ → Change → Type 0
HadLatchedEach tolerances (changes.Replaced at old) = LatchEach tolerances old
HadLatchedEach tolerances changes.Added = Unit {0}

-- One report made the new list of the old one: the change leads back, and where each tolerance had latched a value of each
-- state it still has, and had in the report that was replaced.
pub record IsChange (tolerances : List ℕ) (old new : List (LookState × Report)) (change : Change) : Type 0 where
  pub back : undone change new ≡ old
  pub latching : All (LatchEach tolerances) (values_of old) → All (LatchEach tolerances) (values_of new)
  pub had : All (LatchEach tolerances) (values_of old) → HadLatchedEach tolerances change

-- nothing is kept where no mark stands, and each tolerance has latched a value of each state, now and before each change
pub record IsKept (r : Inside) : Type 0 where
  pub nothing : r.is_marked ≡ false → r.changes.items ≡ []
  pub latching : All (LatchEach r.tolerances.items) (values_of r.values.entries)
  pub before : All (HadLatchedEach r.tolerances.items) r.changes.items
