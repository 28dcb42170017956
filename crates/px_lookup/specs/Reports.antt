-- What reports are to contracts, and what an event does to them.
use Rattle.std.specs.Prelude.{◌≡◌, ℕ, List, [], Option, Some, None}
use Rattle.std.specs.Option.{unwrap_or}
use Rattle.px_event.specs.declared.event.Event.{Event}
use Rattle.px_event.specs.declared.event.Event.TheVariants as events
use Rattle.px_sem.specs.Events.{reported}
use Rattle.px_sem.specs.World.{LookState, Report, latched_report}

-- The tolerances, and what was reported of each state, in the order in which the states were first reported; and that list
-- at the mark, or none where no mark stands.
pub record ReportsData : Type 0 where
  pub tolerances : List ℕ
  pub reports : List (LookState × Report)
  pub marked : Option (List (LookState × Report))

-- the reports after an event, which is one of them or says nothing of them
abbrev pub reports_after : List ℕ → Event → List (LookState × Report) → List (LookState × Report)
reports_after tolerances (events.Report name args value) reports =
    reported tolerances (record { name = name; args = args }) value reports
reports_after tolerances (events.Handle node handle) reports = reports
reports_after tolerances (events.Return node value) reports = reports
reports_after tolerances (events.AbortDone node) reports = reports
reports_after tolerances (events.Acknowledged node) reports = reports

-- an event is taken, and the mark stays
abbrev pub taken : Event → ReportsData → ReportsData
taken event held = record {
  tolerances = held.tolerances;
  reports = reports_after held.tolerances event held.reports;
  marked = held.marked;
}

-- no mark stands
abbrev pub unmarked : List ℕ → List (LookState × Report) → ReportsData
unmarked tolerances reports = record { tolerances = tolerances; reports = reports; marked = None }

-- these reports are marked
abbrev pub with_mark : ReportsData → ReportsData
with_mark held = record { tolerances = held.tolerances; reports = held.reports; marked = Some held.reports }

-- back at the mark
abbrev pub rolled_back : ReportsData → ReportsData
rolled_back held = unmarked held.tolerances (unwrap_or held.marked held.reports)

-- the present reports, without the mark
abbrev pub committed : ReportsData → ReportsData
committed held = unmarked held.tolerances held.reports

-- since the mark the value that a tolerance has latched is the same in each state
abbrev pub HasStayed : ReportsData → ℕ → Type 0
HasStayed held tolerance = (state : LookState)
    → latched_report (unwrap_or held.marked []) state tolerance ≡ latched_report held.reports state tolerance
