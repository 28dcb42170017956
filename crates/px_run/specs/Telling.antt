-- What is printed of a session whose lines are all passed: the text of its log, or its summary.
use Rattle.std.specs.Prelude.{ℕ, List}
use Rattle.px_core.specs.Plan.{Site}
use Rattle.px_event.specs.declared.entry.Entry.{Entry}
use Rattle.px_output.specs.Summary.{summary}
use Rattle.px_sem.specs.Log.{Log}
use Rattle.px_sem.specs.Text.{text_of}
use Rattle.px_ending.specs.Ending.{Ending}
use Rattle.px_run.specs.declared.finishing.Telling.{Telling}
use Rattle.px_run.specs.declared.finishing.Telling.TheVariants as tellings

abbrev pub told_text : Telling → List Site → List Entry → Log → List ℕ
told_text tellings.Text plan first log = text_of plan first log
told_text tellings.Summary plan first log = summary plan first log

abbrev pub told_ending : Telling → List Site → List Entry → Log → Ending
told_ending telling plan first log = record { status = 0; text = told_text telling plan first log }
