-- The kinds of files that commands read: plans and scripts.
use Rattle.std.specs.Prelude.{◌≡◌, ◌≢◌, ℕ, List}
use Rattle.px_core.specs.Plan.{Site, Tree}
use Rattle.px_syntax.specs.declared.fault.PlanFault.{PlanFault}
use Rattle.px_syntax.specs.declared.fault.PlanFault.TheVariants.{NoMemory}
use Rattle.px_compile.specs.Compiled.{IsCompiled, IsRefused}
use Rattle.px_script.specs.declared.script.Script.{Script}
use Rattle.px_script.specs.Script.{Threads, Fault, script}
use Rattle.px_ending.specs.Ending.{plan_too_long, plan_at_fault, script_too_long, script_at_fault}
use Rattle.px_run.specs.Reading.{FileKind}

-- which bytes spell which plan, and how bytes that spell none are refused: for the first fault that a stage finds
abbrev pub plan_file : FileKind Tree
plan_file = record {
  limit = 1048576;
  too_long = plan_too_long;
  Spells = IsCompiled;
  Refuses = λ bytes ending. (fault : PlanFault) × (fault ≢ NoMemory) × IsRefused bytes fault × (ending ≡ plan_at_fault fault);
}

-- which bytes spell which script over a plan, and how bytes that spell none are refused: for their first faulty line
abbrev pub script_file : List Site → FileKind Script
script_file plan = record {
  limit = 16777216;
  too_long = script_too_long;
  Spells = λ bytes read. script plan bytes ≡ Threads read.threads read.names;
  Refuses = λ bytes ending. (number kind : ℕ) × (script plan bytes ≡ Fault number kind) × (ending ≡ script_at_fault number kind);
}
