-- The summary of a soak: four lines that tell of a log in place of its text.
use Rattle.std.specs.Prelude.{ℕ, ◌+◌, ℤ, pos, not, List, [], ◌∷◌, ◌++◌, length, Option, Some, None, codes, decimal}
use Rattle.std.specs.Fmt.{signed_decimal}
use Rattle.std.specs.List.{count_by}
use Rattle.std.specs.Option.{option_map_or, unwrap_or}
use Rattle.px_core.specs.Plan.{Site}
use Rattle.px_event.specs.declared.entry.Entry.{Entry}
use Rattle.px_event.specs.declared.event.Event.{Event}
use Rattle.px_sem.specs.World.{World, integer_at}
use Rattle.px_sem.specs.Log.{Log, events_of, accepted, is_accepted}
use Rattle.px_sem.specs.Run.{started, posted, settled_world, run}

-- how many of a log's entries were not accepted
abbrev pub refused_count : Log → ℕ
refused_count log = count_by (λ logged. not (is_accepted logged.reply)) log

-- ---- micro steps

-- those of a world that has settled
abbrev pub steps_in : Option (World × ℕ) → ℕ
steps_in settled = option_map_or (λ settled. settled.1) settled 0

-- those of events from a world on
unfoldable pub steps_on : List Site → Option World → List Event → ℕ
steps_on plan None events = 0
steps_on plan (Some world) [] = 0
steps_on plan (Some world) (event ∷ events) =
    steps_in (posted plan world event) + steps_on plan (settled_world (posted plan world event)) events

-- those of event 0 and of all events behind it
abbrev pub steps_of : List Site → List Event → ℕ
steps_of plan events = steps_in (started plan) + steps_on plan (settled_world (started plan)) events

-- ---- the sum

-- the Integer that the variable `sum` of the node `Soak` holds in a world, or 0 where it holds none
abbrev pub sum_in : List Site → World → ℤ
sum_in plan world = unwrap_or (integer_at plan world (codes "Soak") (codes "sum")) (pos 0)

-- the same behind events
abbrev pub sum_behind : List Site → List Event → ℤ
sum_behind plan events = option_map_or (sum_in plan) (run plan events) (pos 0)

-- ---- the lines

abbrev pub four_lines : ℕ → ℕ → ℕ → ℤ → List ℕ
four_lines events refused steps sum =
    codes "soak events " ++ (decimal events ++ (codes "\nsoak refused " ++ (decimal refused ++ (codes "\nsoak steps " ++ (decimal steps
    ++ (codes "\nsoak sum " ++ (signed_decimal sum ++ codes "\n")))))))

-- of a history and a log that it ends with
abbrev pub summary_lines : List Site → List Entry → Log → List ℕ
summary_lines plan history log =
    four_lines (length history) (refused_count log) (steps_of plan (events_of history)) (sum_behind plan (events_of history))

-- THE SUMMARY of a log that goes on from a history
abbrev pub summary : List Site → List Entry → Log → List ℕ
summary plan first log = summary_lines plan (first ++ accepted log) log
