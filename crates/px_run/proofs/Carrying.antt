-- What each command has come to, as one of the program's.
use Rattle.std.proofs.Common.{◌≡◌, inl, inr, ℕ, List, [], Option, Some, None, Result, Err, refl, sym, ap, ◌∙◌}
use Rattle.std.specs.Option.{option_map}
use Rattle.px_output.specs.View.{View}
use Rattle.px_output.proofs.Printed.{emits_nothing}
use Rattle.px_ports.specs.declared.disk.Disk
use Rattle.px_session.specs.Session.{IsBoundAtMost}
use Rattle.px_session.proofs.Sessions.{untouched_at_once}
use Rattle.px_words.specs.Asked.{asked}
use Rattle.px_words.specs.declared.command.Command.{Command as Asked}
use Rattle.px_words.specs.Words.{Command, TraceStart, DryRun, Check, Format, Run, Resume, Trace, Names, Soak, journal_operand}
use Rattle.px_run.specs.Course.{Course, Untouched, Due, EndsIn, AfterFile}
use Rattle.px_ending.specs.Ending.{usage}
use Rattle.px_run.specs.Finishing.{Carries}
use Rattle.px_run.specs.Format.{FormatCalls}
use Rattle.px_run.specs.Journaled.{AfterJournal, NamesCalls}
use Rattle.px_run.specs.Names.{NamesCarries}
use Rattle.px_run.specs.Resume.{ResumeCarries}
use Rattle.px_run.specs.Run.{RunCarries}
use Rattle.px_run.specs.Soak.{SoakCalls, SoakCarries}
use Rattle.px_run.specs.Top.{Performed}
use Rattle.px_run.specs.Trace.{TraceCarries}
use Rattle.px_run.specs.Headline.{TraceStartCalls, DryRunCalls, CheckCalls, CommandCallsFor, IsBoundFor}
use Rattle.px_run.specs.Stops.{Performs}
use Rattle.px_ending.specs.declared.status.End.{End}
use Rattle.px_ending.specs.declared.refusal.Refusal.TheVariants as refusals
use Rattle.px_run.specs.declared.stop.Stop.{Stop}
use Rattle.px_run.specs.declared.stop.Stop.TheVariants as stops
use Rattle.px_run.specs.declared.finishing.Carried.{Carried}
use Rattle.px_run.proofs.Performing.{performs_more}

-- what the words ask for, by the command that was found
pub asks_for : {words : Option Command} {found : Option Asked} {here named : Asked} → option_map asked found ≡ words → found ≡ Some here → here ≡ named
    → words ≡ Some (asked named)
asks_for reads is same = sym reads ∙ (ap (option_map asked) is ∙ ap (λ (f : Asked). Some (asked f)) same)

module _ {D : Type 0} (members : Disk.Ghosts D) (before now : View) (disk : D) (unbound : members.bound_to disk ≡ None) where
  -- ---- a command without a journal, which makes no call of the disk

  plainly : (asked : Option Command) (Calls : Due → Type 0) (r : Result End Stop)
      → ((due : Due) → Calls due → CommandCallsFor members asked before now disk disk Untouched due) → Performs before now Calls r
      → Performed members asked before now disk (record { result = r; disk = disk })
  plainly asked Calls r widen performs = record {
    course = Untouched;
    performs = performs_more before now Calls (CommandCallsFor members asked before now disk disk Untouched) r widen performs;
    leaves = λ tells. untouched_at_once members disk;
    bound = inl unbound;
    back = record { tells = refl; kept = λ other. refl };
  }

  pub usage_performed : (words : Option Command) → words ≡ None → now.emitted ≡ before.emitted
      → Performed members words before now disk (record { result = Err (stops.Refused refusals.Usage); disk = disk })
  usage_performed words is same =
      rw is (plainly None (EndsIn Untouched usage Untouched) (Err (stops.Refused refusals.Usage)) (λ due calls. (refl, calls)) ((refl, refl), same))

  pub trace_start_performed : (words : Option Command) (plan : List ℕ) (r : Result End Stop) → words ≡ Some (TraceStart plan)
      → Performs before now (TraceStartCalls plan before now Untouched) r → Performed members words before now disk (record { result = r; disk = disk })
  trace_start_performed words plan r is performs =
      rw is (plainly (Some (TraceStart plan)) (TraceStartCalls plan before now Untouched) r (λ due calls. (refl, calls)) performs)

  pub dry_run_performed : (words : Option Command) (plan script : List ℕ) (r : Result End Stop) → words ≡ Some (DryRun plan script)
      → Performs before now (DryRunCalls plan script before now Untouched) r → Performed members words before now disk (record { result = r; disk = disk })
  dry_run_performed words plan script r is performs =
      rw is (plainly (Some (DryRun plan script)) (DryRunCalls plan script before now Untouched) r (λ due calls. (refl, calls)) performs)

  pub check_performed : (words : Option Command) (plan : List ℕ) (r : Result End Stop) → words ≡ Some (Check plan)
      → Performs before now (CheckCalls plan before now Untouched) r → Performed members words before now disk (record { result = r; disk = disk })
  check_performed words plan r is performs =
      rw is (plainly (Some (Check plan)) (CheckCalls plan before now Untouched) r (λ due calls. (refl, calls)) performs)

  pub format_performed : (words : Option Command) (plan : List ℕ) (r : Result End Stop) → words ≡ Some (Format plan)
      → Performs before now (FormatCalls plan before now Untouched) r → Performed members words before now disk (record { result = r; disk = disk })
  format_performed words plan r is performs =
      rw is (plainly (Some (Format plan)) (FormatCalls plan before now Untouched) r (λ due calls. (refl, calls)) performs)

-- memory is wanting while the words are read: whatever they ask for, nothing was done
pub early_performed : {D : Type 0} (members : Disk.Ghosts D) (before : View) (disk : D) → members.bound_to disk ≡ None → (words : Option Command)
    → Performed members words before before disk (record { result = Err stops.NoMemory; disk = disk })
early_performed members before disk unbound words =
    plainly members before before disk unbound words (CommandCallsFor members words before before disk disk Untouched) (Err stops.NoMemory) (λ due calls. calls) (by words)
  where
    by : (asked : Option Command) → Performs before before (CommandCallsFor members asked before before disk disk Untouched) (Err stops.NoMemory)
    by None = inl (usage, (refl, (refl, refl)), ([], usage.text, refl, emits_nothing before.emitted))
    by (Some (TraceStart plan)) = inr ((refl, AfterFile.no_memory), refl)
    by (Some (DryRun plan script)) = inr ((refl, AfterFile.no_memory), refl)
    by (Some (Check plan)) = inr ((refl, AfterFile.no_memory), refl)
    by (Some (Format plan)) = inr ((refl, AfterFile.no_memory), refl)
    by (Some (Run plan script journal limit)) = inr (AfterFile.no_memory, refl)
    by (Some (Resume script journal limit)) = inr (AfterJournal.not_read refl, refl)
    by (Some (Trace journal)) = inr (AfterJournal.not_read refl, refl)
    by (Some (Names journal)) = inr (NamesCalls.not_read refl, refl)
    by (Some (Soak count seed journal)) = inr (SoakCalls.no_memory, refl)

-- ---- a command with a journal

module _ {D : Type 0} (members : Disk.Ghosts D) (before now : View) (disk : D) (carried : Carried D) where
  bound_for : (asked : Command) (journal : List ℕ) → journal_operand asked ≡ Some journal → IsBoundAtMost members journal carried.disk → IsBoundFor members (Some asked) carried.disk
  bound_for asked journal is (inl bound) = inr (journal, is, bound)
  bound_for asked journal is (inr unbound) = inl unbound

  -- it is performed, where what it performs is what the command calls for
  carried_out : {Calls : D → Course → Due → Type 0} (words : Option Command) (asked : Command) (journal : List ℕ) → words ≡ Some asked
      → journal_operand asked ≡ Some journal → (c : Carries members journal Calls before now disk carried)
      → Performs before now (CommandCallsFor members (Some asked) before now disk carried.disk c.course) carried.result
      → Performed members words before now disk carried
  carried_out words asked journal is operand c performs = rw is (record {
    course = c.course;
    performs = performs;
    leaves = c.leaves;
    bound = bound_for asked journal operand c.bound;
    back = c.back;
  })

  pub run_performed : (words : Option Command) (plan script journal : List ℕ) (limit : ℕ) → words ≡ Some (Run plan script journal limit)
      → RunCarries members plan script journal limit before now disk carried → Performed members words before now disk carried
  run_performed words plan script journal limit is c = carried_out words (Run plan script journal limit) journal is refl c c.performs

  pub resume_performed : (words : Option Command) (script journal : List ℕ) (limit : ℕ) → words ≡ Some (Resume script journal limit)
      → ResumeCarries members script journal limit before now disk carried → Performed members words before now disk carried
  resume_performed words script journal limit is c = carried_out words (Resume script journal limit) journal is refl c c.performs

  pub trace_performed : (words : Option Command) (journal : List ℕ) → words ≡ Some (Trace journal)
      → TraceCarries members journal before now disk carried → Performed members words before now disk carried
  trace_performed words journal is c = carried_out words (Trace journal) journal is refl c c.performs

  pub names_performed : (words : Option Command) (journal : List ℕ) → words ≡ Some (Names journal)
      → NamesCarries members journal before now disk carried → Performed members words before now disk carried
  names_performed words journal is c = carried_out words (Names journal) journal is refl c c.performs

  pub soak_performed : (words : Option Command) (count seed : ℕ) (journal : List ℕ) → words ≡ Some (Soak count seed journal)
      → SoakCarries members count seed journal before now disk carried → Performed members words before now disk carried
  soak_performed words count seed journal is c = carried_out words (Soak count seed journal) journal is refl c c.performs
