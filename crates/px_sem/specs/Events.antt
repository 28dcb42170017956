-- What an event does to a quiet world, before any micro step.
use Rattle.std.specs.Prelude.{ℕ, ◌-ℤ◌, unsigned_abs, nat_le, Bool, true, false, ◌&&◌, ◌||◌, List, [], ◌∷◌, map, Option, Some, None, if◌then◌else◌}
use Rattle.std.specs.List.{zip}
use Rattle.std.specs.Option.{option_map}
use Rattle.px_value.specs.declared.enums.Handle.{Handle}
use Rattle.px_value.specs.declared.value.Value.{Value}
use Rattle.px_value.specs.declared.value.Value.TheVariants as values
use Rattle.px_core.specs.Plan.{Site, BodyData, Command, Update, TargetData, VariableData, is_same, site_at}
use Rattle.px_core.specs.Expr.{Term}
use Rattle.px_event.specs.declared.event.Event.{Event}
use Rattle.px_event.specs.declared.event.Event.TheVariants as events
use Rattle.px_sem.specs.World.{World, NodeRecord, Action, Commanded, Updated, AbortDone, Place, Whole, Element, LookState, Report, is_same_state, record_at, state_at}
use Rattle.px_sem.specs.Conflicts.{target_of}
use Rattle.px_sem.specs.Guards.{is_active, is_executing, is_failing, is_finishing}
use Rattle.px_sem.specs.Effects.{Write, write_at, written}
use Rattle.px_sem.specs.Tolerances.{tolerances}

-- the first report of a state, which each tolerance latches
abbrev pub first_report : List ℕ → Value → Report
first_report tolerances given = record { last = given; latched = map (λ tolerance. (tolerance, given)) tolerances }

-- a value takes the place of a latched one where one of them is no Integer, or where they differ by at least the tolerance
abbrev pub is_latched : ℕ → Value → Value → Bool
is_latched tolerance (values.Integer old) (values.Integer given) = nat_le tolerance (unsigned_abs (old -ℤ given))
is_latched tolerance old given = true

-- what a tolerance keeps after one more report
abbrev pub latched_then : Value → ℕ × Value → ℕ × Value
latched_then given kept = (kept.0, if is_latched kept.0 kept.1 given then given else kept.1)

-- the report of a state after one more, whose value is the last one, and is latched or not by each tolerance
abbrev pub next_report : Report → Value → Report
next_report report given = record { last = given; latched = map (latched_then given) report.latched }

-- a value reported of a state, in the place of the state's report or after all others
abbrev pub reported : List ℕ → LookState → Value → List (LookState × Report) → List (LookState × Report)
reported tolerances state given [] = (state, first_report tolerances given) ∷ []
reported tolerances state given (report ∷ reports) =
    if is_same_state report.0 state then (report.0, next_report report.1 given) ∷ reports
    else report ∷ reported tolerances state given reports

-- records of nodes by their paths, with another record at one path
abbrev pub with_entry : List ℕ → NodeRecord → List (List ℕ × NodeRecord) → List (List ℕ × NodeRecord)
with_entry path r nodes = map (λ entry. (entry.0, if is_same entry.0 path then r else entry.1)) nodes

-- the world with another record of one node
abbrev pub with_record : World → List ℕ → NodeRecord → World
with_record world path r = record world { nodes = with_entry path r world.nodes }

-- the world with another action of one node
abbrev pub with_action : World → List ℕ → Action → World
with_action world path action = with_record world path (record (record_at world path) { action = action })

-- what a variable holds, with what it held before, where there is this write
abbrev pub written_by : Write → VariableData × List Value → List Value
written_by write variable = if is_same variable.0.name write.name then written variable.1 (Some write) else variable.1

-- the world with one variable written, where there is a write
abbrev pub with_write : List Site → World → Option Write → World
with_write plan world None = world
with_write plan world (Some write) =
    with_record world write.owner (record r { variables = map (written_by write) (zip variables r.variables) })
  where
    r : NodeRecord
    r = record_at world write.owner

    variables : List VariableData
    variables = (site_at plan write.owner).head.variables

-- what is said of a command
abbrev pub with_handle : Handle → Action → Action
with_handle handle (Commanded index old abort) = Commanded index (Some handle) abort
with_handle handle action = action

abbrev pub with_abort_done : Action → Action
with_abort_done (Commanded index handle abort) = Commanded index handle AbortDone
with_abort_done action = action

-- the place of a command's result: a scalar as a whole, and of an array the element whose index was taken as the
-- command was sent; none where the array did not have it
abbrev pub result_place : TargetData → Action → Option Place
result_place target (Commanded index handle abort) = at target.index
  where
    at : Option Term → Option Place
    at None = Some Whole
    at (Some term) = option_map Element index
result_place target _ = None

-- what a command returned, as a write to its result
abbrev pub returned : List Site → Option TargetData → Action → Value → Option Write
returned plan None _ given = None
returned plan (Some target) action given = option_map (write_at plan target given) (result_place target action)

-- ---- the table of events

abbrev pub body_at : List Site → List ℕ → BodyData
body_at plan path = (site_at plan path).head.body

abbrev pub action_at : World → List ℕ → Action
action_at world path = (record_at world path).action

-- what a body is
abbrev pub is_command : BodyData → Bool
is_command (Command name args result) = true
is_command body = false

abbrev pub has_result : BodyData → Bool
has_result (Command name args (Some target)) = true
has_result body = false

abbrev pub is_update : BodyData → Bool
is_update (Update pairs) = true
is_update body = false

-- where an event counts: never for a node that the plan does not have
abbrev pub counts : List Site → World → Event → Bool
counts plan world (events.Report name args given) = true
counts plan world (events.Handle node handle) = is_command (body_at plan node) && is_active (state_at world node)
counts plan world (events.Return node given) =
    has_result (body_at plan node) && (is_executing (state_at world node) || is_finishing (state_at world node))
counts plan world (events.AbortDone node) = is_command (body_at plan node) && is_failing (state_at world node)
counts plan world (events.Acknowledged node) =
    is_update (body_at plan node) && (is_executing (state_at world node) || is_failing (state_at world node))

-- what an event that counts changes
abbrev pub changed : List Site → World → Event → World
changed plan world (events.Report name args given) =
    record world { reports = reported (tolerances plan) (record { name = name; args = args }) given world.reports }
changed plan world (events.Handle node handle) = with_action world node (with_handle handle (action_at world node))
changed plan world (events.Return node given) =
    with_write plan world (returned plan (target_of (body_at plan node)) (action_at world node) given)
changed plan world (events.AbortDone node) = with_action world node (with_abort_done (action_at world node))
changed plan world (events.Acknowledged node) = with_action world node (Updated true)

-- the world after an event: one that does not count changes nothing
abbrev pub take : List Site → World → Event → World
take plan world event = if counts plan world event then changed plan world event else world
