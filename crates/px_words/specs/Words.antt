-- The command words: what they ask for.
use Rattle.std.specs.Prelude.{ℕ, Bool, true, false, List, [], ◌∷◌, Option, Some, None, codes, if◌then◌else◌}
use Rattle.std.specs.Option.{option_and_then, option_flatten}
use Rattle.px_core.specs.Plan.{is_same}
use Rattle.px_words.specs.Limited.{Limited, IsLimit, count_of, limited}
use Rattle.px_words.specs.Operands.{operands, of_one, of_two, of_three}
use Rattle.px_words.specs.Seed.{seed_of}

-- what the program can do
pub data Command : Type 0 where
  TraceStart : (plan : List ℕ) → Command
  DryRun : (plan script : List ℕ) → Command
  Check : (plan : List ℕ) → Command
  Format : (plan : List ℕ) → Command
  Run : (plan script journal : List ℕ) (limit : ℕ) → Command
  Resume : (script journal : List ℕ) (limit : ℕ) → Command
  Trace : (journal : List ℕ) → Command
  Soak : (count seed : ℕ) (journal : List ℕ) → Command
  Names : (journal : List ℕ) → Command

-- the operands PLAN, SCRIPT and JOURNAL of a command, where it has them
abbrev pub plan_operand : Command → Option (List ℕ)
plan_operand (TraceStart plan) = Some plan
plan_operand (DryRun plan script) = Some plan
plan_operand (Check plan) = Some plan
plan_operand (Format plan) = Some plan
plan_operand (Run plan script journal limit) = Some plan
plan_operand (Resume script journal limit) = None
plan_operand (Trace journal) = None
plan_operand (Soak count seed journal) = None
plan_operand (Names journal) = None

abbrev pub script_operand : Command → Option (List ℕ)
script_operand (TraceStart plan) = None
script_operand (DryRun plan script) = Some script
script_operand (Check plan) = None
script_operand (Format plan) = None
script_operand (Run plan script journal limit) = Some script
script_operand (Resume script journal limit) = Some script
script_operand (Trace journal) = None
script_operand (Soak count seed journal) = None
script_operand (Names journal) = None

abbrev pub journal_operand : Command → Option (List ℕ)
journal_operand (TraceStart plan) = None
journal_operand (DryRun plan script) = None
journal_operand (Check plan) = None
journal_operand (Format plan) = None
journal_operand (Run plan script journal limit) = Some journal
journal_operand (Resume script journal limit) = Some journal
journal_operand (Trace journal) = Some journal
journal_operand (Soak count seed journal) = Some journal
journal_operand (Names journal) = Some journal

-- whether a command takes up a journal that stands
abbrev pub takes_up : Command → Bool
takes_up (TraceStart plan) = false
takes_up (DryRun plan script) = false
takes_up (Check plan) = false
takes_up (Format plan) = false
takes_up (Run plan script journal limit) = false
takes_up (Resume script journal limit) = true
takes_up (Trace journal) = true
takes_up (Soak count seed journal) = false
takes_up (Names journal) = true

-- the limit of a command, or the number of its lines, where it has one, is one that a history may have
abbrev pub HasFitLimit : Command → Type 0
HasFitLimit (TraceStart plan) = Unit {0}
HasFitLimit (DryRun plan script) = Unit {0}
HasFitLimit (Check plan) = Unit {0}
HasFitLimit (Format plan) = Unit {0}
HasFitLimit (Run plan script journal limit) = IsLimit limit
HasFitLimit (Resume script journal limit) = IsLimit limit
HasFitLimit (Trace journal) = Unit {0}
HasFitLimit (Soak count seed journal) = IsLimit count
HasFitLimit (Names journal) = Unit {0}

-- whether a command runs its plan
abbrev pub runs_plan : Command → Bool
runs_plan (TraceStart plan) = true
runs_plan (DryRun plan script) = true
runs_plan (Check plan) = false
runs_plan (Format plan) = false
runs_plan (Run plan script journal limit) = true
runs_plan (Resume script journal limit) = true
runs_plan (Trace journal) = true
runs_plan (Soak count seed journal) = true
runs_plan (Names journal) = false

-- PLAN SCRIPT JOURNAL, and SCRIPT JOURNAL, with a limit
abbrev pub run_of : Limited → Option Command
run_of read = of_three (λ plan script journal. Run plan script journal read.limit) read.operands

abbrev pub resume_of : Limited → Option Command
resume_of read = of_two (λ script journal. Resume script journal read.limit) read.operands

-- COUNT SEED JOURNAL
abbrev pub soak_by : Option ℕ → Option ℕ → List ℕ → Option Command
soak_by (Some count) (Some seed) journal = Some (Soak count seed journal)
soak_by (Some count) None journal = None
soak_by None seed journal = None

abbrev pub soak_of : List (List ℕ) → Option Command
soak_of words = option_flatten (of_three (λ count seed journal. soak_by (count_of count) (seed_of seed) journal) words)

-- the command of the words, or none
abbrev pub command : List (List ℕ) → Option Command
command [] = None
command (name ∷ words) =
    if is_same name (codes "trace-start") then option_and_then (of_one TraceStart) (operands words)
    else if is_same name (codes "dry-run") then option_and_then (of_two DryRun) (operands words)
    else if is_same name (codes "check") then option_and_then (of_one Check) (operands words)
    else if is_same name (codes "format") then option_and_then (of_one Format) (operands words)
    else if is_same name (codes "run") then option_and_then run_of (limited words)
    else if is_same name (codes "resume") then option_and_then resume_of (limited words)
    else if is_same name (codes "trace") then option_and_then (of_one Trace) (operands words)
    else if is_same name (codes "soak") then option_and_then soak_of (operands words)
    else if is_same name (codes "names") then option_and_then (of_one Names) (operands words)
    else None
