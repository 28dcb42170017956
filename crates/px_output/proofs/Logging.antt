-- The text of a log, part by part: the trace of its history, the line of each post, and how the plan stands; and the line of
-- a stalled thread.
use Rattle.std.proofs.Common.{◌≡◌, ℕ, List, ◌++◌, Option, Some, IsSome, Result, ap, subst, sym, ◌∙◌}
use Rattle.px_value.proofs.General.{told_of}
use Rattle.px_core.specs.Plan.{Site}
use Rattle.px_event.specs.declared.entry.Entry.{Entry}
use Rattle.px_script.specs.declared.stall.Stall.{Stall}
use Rattle.px_sem.specs.World.{World, standing_of}
use Rattle.px_sem.specs.Log.{Log, events_of, accepted}
use Rattle.px_sem.specs.Run.{run}
use Rattle.px_sem.specs.Text.{trace, log_lines, standing_text, text_of, stall_line}
use Rattle.px_sem.proofs.Texts.{text_of_is}
use Rattle.px_output.specs.declared.printer.PrintFault.{PrintFault}
use Rattle.px_output.specs.Printing.{Prints}
use Rattle.px_output.specs.View.{View}

abbrev pub log_text : List Site → List Entry → Log → World → List ℕ
log_text plan history log world = trace plan history ++ (log_lines log ++ standing_text (standing_of plan world))

-- the text of the log, from that of the world after the history
pub prints_text : (plan : List Site) (history : List Entry) (log : Log) (old new : View) (p q : List ℕ) (r : Result Unit PrintFault)
    → IsSome (run plan (events_of history))
    → ((world : World) → run plan (events_of history) ≡ Some world → Prints old p new q (log_text plan history log world) r)
    → (before : List Entry) → history ≡ before ++ accepted log → Prints old p new q (text_of plan before log) r
prints_text plan history log old new p q r some prints before whole =
    let (world, is) = told_of (run plan (events_of history)) some in
    let runs : run plan (events_of (before ++ accepted log)) ≡ Some world = sym (ap (λ h. run plan (events_of h)) whole) ∙ is in
    rw (text_of_is plan before log world runs)
    (subst (λ h. Prints old p new q (log_text plan h log world) r) whole (prints world is))

-- the world after the history is the only one
pub world_is : (plan nodes : List Site) (history : List Entry) (at world : World) → nodes ≡ plan
    → run nodes (events_of history) ≡ Some at → run plan (events_of history) ≡ Some world → at ≡ world
world_is plan nodes history at world n one two =
    let both : ◌≡◌ {A = Option World} (Some at) (Some world) = sym one ∙ ap (λ nodes. run nodes (events_of history)) n ∙ two in cc

-- the trace from a fresh stepper
pub trace_prints : (nodes plan : List Site) (history : List Entry) (old new : View) (p q : List ℕ) (r : Result Unit PrintFault) → nodes ≡ plan
    → Prints old p new q (trace nodes history) r → Prints old p new q (trace plan history) r
trace_prints nodes plan history old new p q r n prints = subst (λ n. Prints old p new q (trace n history) r) n prints

-- ---- the line of a stalled thread

abbrev pub wait_line : Stall → List ℕ
wait_line stall = stall_line stall.thread stall.line stall.cond
