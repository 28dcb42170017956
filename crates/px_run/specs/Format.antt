-- WHAT `format` CALLS FOR: the layout of the tree that the text of a plan spells.
use Rattle.std.specs.Prelude.{ℕ, List}
use Rattle.px_compile.specs.Compiled.{IsSpelled}
use Rattle.px_output.specs.View.{View}
use Rattle.px_print.specs.Layout.{layout}
use Rattle.px_syntax.specs.Plan.{PlanTree}
use Rattle.px_run.specs.Course.{Course, Untouched, Due, EndsIn, AfterFile}
use Rattle.px_ending.specs.Ending.{Ending}
use Rattle.px_run.specs.Reading.{with_text}
use Rattle.px_run.specs.Kinds.{plan_file}

-- the layout of a tree
abbrev pub layout_ending : PlanTree → Ending
layout_ending tree = record { status = 0; text = layout tree }

-- the text spells a tree, and its layout is due
abbrev pub LaysOut : List ℕ → Course → Due → Type 0
LaysOut text course due = (tree : PlanTree) × IsSpelled text tree × EndsIn Untouched (layout_ending tree) course due

abbrev pub FormatCalls : List ℕ → View → View → Course → Due → Type 0
FormatCalls plan before now = AfterFile (with_text plan_file) before now plan Untouched (λ source. LaysOut source.0)
