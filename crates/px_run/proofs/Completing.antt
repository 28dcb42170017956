-- From the headline to completeness, and to refusals.
use Rattle.std.proofs.Common.{◌≡◌, ℕ, false, ◌⊎◌, inl, inr, List, [], Option, Some, None, IsSome, IsTrue, IsFalse, refl, ap, subst, sym, ◌∙◌}
use Rattle.std.specs.Option.{option_map, option_and_then}
use Rattle.std.proofs.lemmas.Bool.{both_ways}
use Rattle.px_value.proofs.General.{none_or_some}
use Rattle.px_compile.specs.Compiled.{IsCompiled}
use Rattle.px_compile.proofs.Refusals.{one_plan}
use Rattle.px_core.specs.Plan.{Site, Tree, sites}
use Rattle.px_event.specs.declared.entry.Entry.{Entry}
use Rattle.px_journal.specs.Layout.{is_nothing, entries, Stands}
use Rattle.px_journal.proofs.Appending.{same_told}
use Rattle.px_output.specs.View.{View, Faulted}
use Rattle.px_ports.specs.Host.{Files, Rose}
use Rattle.px_ports.specs.declared.disk.Disk
use Rattle.px_script.specs.Remainder.{rest}
use Rattle.px_script.specs.Soak.{soak_threads}
use Rattle.px_script.proofs.Soaks.{soak_never_stalls}
use Rattle.px_script.specs.declared.script.Script.{Script}
use Rattle.px_script.specs.declared.todo.Todo.{Todo}
use Rattle.px_sem.specs.Log.{events_of}
use Rattle.px_sem.specs.Run.{run, started}
use Rattle.px_sem.specs.World.{World}
use Rattle.px_session.specs.Session.{Session}
use Rattle.px_words.specs.Limited.{event_limit}
use Rattle.px_words.specs.Words.{Command, TraceStart, DryRun, Check, Format, Run, Resume, Trace, Names, Soak, plan_operand, script_operand, journal_operand, takes_up, runs_plan, command}
use Rattle.px_run.specs.Causes.{HasPlan, HasScript, HasJournal, TakesUpJournal, IsSoak, AsksForRun, FailsToRead, status_behind, IsSound, IsComplete, RefusesFiles}
use Rattle.px_run.specs.Course.{Course, Untouched, TakenUp, Due, EndsIn, AfterFile}
use Rattle.px_ending.specs.Ending.{Ending, of_start, start_ending, nodes_ending, session_ending, runaway_at_start}
use Rattle.px_run.specs.Reading.{FileKind, with_text, Holds, HoldsNone}
use Rattle.px_run.specs.Format.{LaysOut, layout_ending}
use Rattle.px_run.specs.Headline.{CommandCallsFor, Headline}
use Rattle.px_run.specs.Journaled.{DueBehind, NewCalls, RunCallsBy, HasNoJournal, JournalRefuses, AfterJournal, NamesCalls}
use Rattle.px_run.specs.Kinds.{plan_file, script_file}
use Rattle.px_run.specs.Soak.{soak_plan, soak_lines, SoakCalls}
use Rattle.px_run.specs.declared.finishing.Telling.{Telling}
use Rattle.px_run.specs.declared.finishing.Telling.TheVariants as tellings
use Rattle.px_run.proofs.Causing.{dry_run_status, soak_journal, of_status}
use Rattle.px_run.proofs.Excluding.{some_or_none, same_text, same_first, same_tree, never_none, never_refused, one_status}
use Rattle.px_run.proofs.FileKinds.{IsKind, plan_kind, script_kind, text_kind, holds_text, held, none_held}
use Rattle.px_run.proofs.Finished.{where_behind}
use Rattle.px_run.proofs.SeenFiles.{WhereDue}

-- where no fault of the sink was counted, the status is that of the ending, or 10
sound_status : {D : Type 0} (members : Disk.Ghosts D) (words : List (List ℕ)) (before now : View) (old new : D) (Expected : ℕ → Type 0) (status : ℕ)
    → Headline members words before now old new status → ¬ Faulted before now
    → ((course : Course) (ending : Ending) → CommandCallsFor members (command words) before now old new course (Some ending) → Expected ending.status)
    → (status ≡ 10) ⊎ Expected status
sound_status members words before now old new Expected status headline sound is =
    of_status members words before now old new (λ s. (s ≡ 10) ⊎ Expected s) status (λ course ending calls emits. inr (is course ending calls))
    (λ fault. absurd (sound fault)) (inl refl) headline

-- carried out, or stalled
abbrev pub OrStalled : ℕ → ℕ → Type 0
OrStalled expected status = (status ≡ expected) ⊎ (status ≡ 11)

-- an ending that is due is the one that is named
ending_is : (course so_far : Course) (ending named : Ending) → EndsIn so_far named course (Some ending) → ending.status ≡ named.status
ending_is course so_far ending named (same, is) = let e : ending ≡ named = cc in ap (λ x. x.status) e

module _ {D : Type 0} (members : Disk.Ghosts D) (words : List (List ℕ)) (before now : View) (old new : D) where
  abbrev Calls : Option Command → Course → Ending → Type 0
  Calls asked course ending = CommandCallsFor members asked before now old new course (Some ending)

  reopens_or_not : TakesUpJournal words → option_map takes_up (command words) ≡ Some false → ⊥
  reopens_or_not reopens not = let both = sym reopens ∙ not in cc

  -- ---- sessions whose disk doesn't fail

  module _ (steady : ¬ Rose (members.faults old) (members.faults new)) where
    session_sound : (telling : Telling) (plan : List Site) (left : List Todo) (session : Session) (due : Due) → DueBehind members telling plan left session old new due
        → WhereDue (λ ending. OrStalled 0 ending.status) due
    session_sound telling plan left session due =
        where_behind members telling plan left session old new (λ ending. OrStalled 0 ending.status) due (inl refl) (λ stalls stalled. inr refl)
        (λ rose. absurd (steady rose))

    -- over a new journal, on a disk that was nothing: what is so behind its session
    new_sound : (Expected : Ending → Type 0) (telling : Telling) (plan : List Site) (text : List ℕ) (limit : ℕ) (script : Script) (course : Course) (due : Due)
        (bytes : List ℕ) → members.content old ≡ Some bytes → IsTrue (is_nothing bytes)
        → ((session : Session) (due : Due) → DueBehind members telling plan (rest script.threads []) session old new due → WhereDue Expected due)
        → NewCalls members telling plan text limit script old new course due → WhereDue Expected due
    new_sound Expected telling plan text limit script _ _ bytes content nothing sound (NewCalls.exists told) =
        absurd (both_ways (is_nothing bytes) (told bytes content) nothing)
    new_sound Expected telling plan text limit script _ _ bytes content nothing sound (NewCalls.half_made rose) = absurd (steady rose)
    new_sound Expected telling plan text limit script _ _ bytes content nothing sound (NewCalls.made session due was (so, behind)) = sound session due behind
    new_sound Expected telling plan text limit script _ _ bytes content nothing sound NewCalls.no_memory = tt

    -- or on one that was something
    new_refused : (telling : Telling) (plan : List Site) (text : List ℕ) (limit : ℕ) (script : Script) (course : Course) (due : Due) (bytes : List ℕ)
        → members.content old ≡ Some bytes → IsFalse (is_nothing bytes) → NewCalls members telling plan text limit script old new course due
        → WhereDue (λ ending. ending.status ≡ 5) due
    new_refused telling plan text limit script _ _ bytes content something (NewCalls.exists told) = refl
    new_refused telling plan text limit script _ _ bytes content something (NewCalls.half_made rose) = absurd (steady rose)
    new_refused telling plan text limit script _ _ bytes content something (NewCalls.made session due was (so, behind)) =
        absurd (both_ways (is_nothing bytes) something (was bytes content))
    new_refused telling plan text limit script _ _ bytes content something NewCalls.no_memory = tt

    -- behind the session of a soak
    soak_session_sound : (plan : List Site) (count seed : ℕ) (session : Session) (due : Due)
        → DueBehind members tellings.Summary plan (rest (soak_threads count seed) []) session old new due → WhereDue (λ ending. ending.status ≡ 0) due
    soak_session_sound plan count seed session due =
        where_behind members tellings.Summary plan (rest (soak_threads count seed) []) session old new (λ ending. ending.status ≡ 0) due refl
        (λ stalls stalled. absurd (soak_never_stalls plan session.first session.log count seed stalls stalled)) (λ rose. absurd (steady rose))

  -- the start of a plan behind a journal that doesn't fail
  start_refused : HasJournal words → IsSound members words old new (λ bytes. IsFalse (is_nothing bytes)) → (telling : Telling) (plan : List Site) (text : List ℕ)
      (limit : ℕ) (script : Script) (course : Course) (ending : Ending) (found : Option (World × ℕ)) → IsSome found
      → RunCallsBy members telling plan text limit script old new course (Some ending) found → ending.status ≡ 5
  start_refused has_journal journal telling plan text limit script course ending None some ends = absurd (none_or_some {X = World × ℕ} None refl some)
  start_refused has_journal journal telling plan text limit script course ending (Some settled) some calls =
      let ((bytes, content, something), steady) = journal has_journal in
      new_refused steady telling plan text limit script course (Some ending) bytes content something calls

  -- ---- a soak whose plan compiles

  module _ (asked : IsSoak words) (tree : Tree) (compiled : IsCompiled soak_plan tree) where
    -- its start, and what comes of it
    soak_behind : (course : Course) (due : Due) → CommandCallsFor members (command words) before now old new course due
        → WhereDue (λ ending. RunCallsBy members tellings.Summary (sites tree) soak_plan event_limit (soak_lines asked.0 asked.1) old new course (Some ending)
        (started (sites tree))) due
    soak_behind course due calls =
        by course due (subst (λ a. CommandCallsFor members a before now old new course due) asked.3 calls)
      where
        by : (c : Course) (d : Due) → SoakCalls members asked.0 asked.1 old new c d
            → WhereDue (λ ending. RunCallsBy members tellings.Summary (sites tree) soak_plan event_limit (soak_lines asked.0 asked.1) old new c (Some ending)
            (started (sites tree))) d
        by _ _ (SoakCalls.starts other c None spells calls) = tt
        by _ _ (SoakCalls.starts other c (Some ending) spells calls) =
            subst (λ t. RunCallsBy members tellings.Summary (sites t) soak_plan event_limit (soak_lines asked.0 asked.1) old new c (Some ending) (started (sites t)))
            (one_plan soak_plan other tree spells compiled) calls
        by _ _ SoakCalls.no_memory = tt

    soak_status : IsSound members words old new (λ bytes. IsTrue (is_nothing bytes)) → (course : Course) (ending : Ending) (found : Option (World × ℕ))
        → RunCallsBy members tellings.Summary (sites tree) soak_plan event_limit (soak_lines asked.0 asked.1) old new course (Some ending) found
        → ending.status ≡ (of_start (sites tree) found).status
    soak_status journal course ending None ends = ending_is course Untouched ending runaway_at_start ends
    soak_status journal course ending (Some settled) calls =
        let ((bytes, content, nothing), steady) = journal (soak_journal words asked) in
        new_sound steady (λ ending. ending.status ≡ 0) tellings.Summary (sites tree) soak_plan event_limit (soak_lines asked.0 asked.1) course (Some ending)
        bytes content nothing (soak_session_sound steady (sites tree) asked.0 asked.1) calls

    soak_runs_away : started (sites tree) ≡ None → (course : Course) (ending : Ending)
        → RunCallsBy members tellings.Summary (sites tree) soak_plan event_limit (soak_lines asked.0 asked.1) old new course (Some ending) (started (sites tree))
        → ending.status ≡ 6
    soak_runs_away none course ending calls =
        ending_is course Untouched ending runaway_at_start
        (subst (λ found. RunCallsBy members tellings.Summary (sites tree) soak_plan event_limit (soak_lines asked.0 asked.1) old new course (Some ending) found)
        none calls)

  module _ (files : Files) (told : before.files ≡ Some files) where
    -- ---- a script that the host holds, or that is none

    module _ (plan : List Site) (readable : ¬ FailsToRead HasScript words before now) (so_far : Course) (Next : Script → Course → Due → Type 0)
        (name : List ℕ) (asks : HasScript words name) (course : Course) (ending : Ending)
        (after : AfterFile (script_file plan) before now name so_far Next course (Some ending)) where
      behind_script : (spelled : Script) → Holds (script_file plan) files name spelled → Next spelled course (Some ending)
      behind_script spelled holds =
          held Script (script_file plan) 4 before now files name (script_kind plan) told (λ rose. readable (name, asks, rose)) so_far Next spelled course
          (Some ending) holds after

      without_script : (other : List ℕ) → HasScript words other → HoldsNone (script_file plan) files other → ending.status ≡ 4
      without_script other also none =
          none_held Script (script_file plan) 4 before now files name (script_kind plan) told (λ rose. readable (name, asks, rose)) so_far Next course
          (Some ending) (subst (λ n. HoldsNone (script_file plan) files n) (same_told (option_and_then script_operand (command words)) other name also asks) none) after

    -- ---- a plan that the host holds, or that is none

    module _ (plan : List ℕ) (has : HasPlan words plan) (readable : ¬ FailsToRead HasPlan words before now) where
      module _ (A : Type 0) (kind : FileKind A) (is_kind : IsKind A kind 3) (Next : A → Course → Due → Type 0) (other : List ℕ) (asks : HasPlan words other)
          (course : Course) (ending : Ending) (after : AfterFile kind before now other Untouched Next course (Some ending)) where
        here : AfterFile kind before now plan Untouched Next course (Some ending)
        here = subst (λ n. AfterFile kind before now n Untouched Next course (Some ending)) (same_told (option_and_then plan_operand (command words)) other plan asks has) after

        behind_plan : (part : A) → Holds kind files plan part → Next part course (Some ending)
        behind_plan part holds =
            held A kind 3 before now files plan is_kind told (λ rose. readable (plan, has, rose)) Untouched Next part course (Some ending) holds here

        without_plan : HoldsNone kind files plan → ending.status ≡ 3
        without_plan none =
            none_held A kind 3 before now files plan is_kind told (λ rose. readable (plan, has, rose)) Untouched Next course (Some ending) none here

      text_of_kind : IsKind (List ℕ × Tree) (with_text plan_file) 3
      text_of_kind = text_kind Tree plan_file 3 plan_kind

      plan_refused_by : HoldsNone plan_file files plan → (asked : Option Command) (course : Course) (ending : Ending) → command words ≡ asked
          → Calls asked course ending → ending.status ≡ 3
      plan_refused_by none None course ending is calls = absurd (some_or_none plan has (ap (option_and_then plan_operand) is))
      plan_refused_by none (Some (TraceStart other)) course ending is (same, calls) =
          without_plan Tree plan_file plan_kind _ other (ap (option_and_then plan_operand) is) course ending calls none
      plan_refused_by none (Some (DryRun other script)) course ending is (same, calls) =
          without_plan Tree plan_file plan_kind _ other (ap (option_and_then plan_operand) is) course ending calls none
      plan_refused_by none (Some (Check other)) course ending is (same, calls) =
          without_plan Tree plan_file plan_kind _ other (ap (option_and_then plan_operand) is) course ending calls none
      plan_refused_by none (Some (Format other)) course ending is (same, calls) =
          without_plan (List ℕ × Tree) (with_text plan_file) text_of_kind _ other (ap (option_and_then plan_operand) is) course ending calls none
      plan_refused_by none (Some (Run other script journal limit)) course ending is calls =
          without_plan (List ℕ × Tree) (with_text plan_file) text_of_kind _ other (ap (option_and_then plan_operand) is) course ending calls none
      plan_refused_by none (Some (Resume script journal limit)) course ending is calls = absurd (some_or_none plan has (ap (option_and_then plan_operand) is))
      plan_refused_by none (Some (Trace journal)) course ending is calls = absurd (some_or_none plan has (ap (option_and_then plan_operand) is))
      plan_refused_by none (Some (Names journal)) course ending is calls = absurd (some_or_none plan has (ap (option_and_then plan_operand) is))
      plan_refused_by none (Some (Soak count seed journal)) course ending is calls = absurd (some_or_none plan has (ap (option_and_then plan_operand) is))

      module _ (tree : Tree) (holds : Holds plan_file files plan tree) (script_readable : ¬ FailsToRead HasScript words before now) where
        abbrev source : List ℕ × Tree
        source = (holds.0, tree)

        source_holds : Holds (with_text plan_file) files plan source
        source_holds = holds_text Tree plan_file files plan tree holds

        -- a script that is none
        script_refused_by : (name : List ℕ) → HasScript words name → HoldsNone (script_file (sites tree)) files name → (asked : Option Command)
            (course : Course) (ending : Ending) → command words ≡ asked → Calls asked course ending → ending.status ≡ 4
        script_refused_by name asks none None course ending is calls = absurd (some_or_none name asks (ap (option_and_then script_operand) is))
        script_refused_by name asks none (Some (TraceStart other)) course ending is calls =
            absurd (some_or_none name asks (ap (option_and_then script_operand) is))
        script_refused_by name asks none (Some (DryRun other script)) course ending is (same, calls) =
            without_script (sites tree) script_readable Untouched _ script (ap (option_and_then script_operand) is) course ending
            (behind_plan Tree plan_file plan_kind _ other (ap (option_and_then plan_operand) is) course ending calls tree holds) name asks none
        script_refused_by name asks none (Some (Check other)) course ending is calls =
            absurd (some_or_none name asks (ap (option_and_then script_operand) is))
        script_refused_by name asks none (Some (Format other)) course ending is calls =
            absurd (some_or_none name asks (ap (option_and_then script_operand) is))
        script_refused_by name asks none (Some (Run other script journal limit)) course ending is calls =
            without_script (sites tree) script_readable Untouched _ script (ap (option_and_then script_operand) is) course ending
            (behind_plan (List ℕ × Tree) (with_text plan_file) text_of_kind _ other (ap (option_and_then plan_operand) is) course ending calls source source_holds)
            name asks none
        script_refused_by name asks none (Some (Resume script journal limit)) course ending is calls =
            absurd (some_or_none plan has (ap (option_and_then plan_operand) is))
        script_refused_by name asks none (Some (Trace journal)) course ending is calls =
            absurd (some_or_none plan has (ap (option_and_then plan_operand) is))
        script_refused_by name asks none (Some (Names journal)) course ending is calls =
            absurd (some_or_none name asks (ap (option_and_then script_operand) is))
        script_refused_by name asks none (Some (Soak count seed journal)) course ending is calls =
            absurd (some_or_none name asks (ap (option_and_then script_operand) is))

        module _ (scripts : (name : List ℕ) → HasScript words name → (held : Script) × Holds (script_file (sites tree)) files name held) where
          -- the calls of a run behind its files
          run_behind : (other script journal : List ℕ) (limit : ℕ) (course : Course) (ending : Ending) → HasPlan words other → (asks : HasScript words script)
              → Calls (Some (Run other script journal limit)) course ending
              → RunCallsBy members tellings.Text (sites tree) holds.0 limit (scripts script asks).0 old new course (Some ending) (started (sites tree))
          run_behind other script journal limit course ending asked asks calls =
              behind_script (sites tree) script_readable Untouched _ script asks course ending
              (behind_plan (List ℕ × Tree) (with_text plan_file) text_of_kind _ other asked course ending calls source source_holds)
              (scripts script asks).0 (scripts script asks).1

          module _ (journal : IsSound members words old new (λ bytes. IsTrue (is_nothing bytes))) where
            -- the start of a plan behind a disk that is nothing and doesn't fail
            start_sound : HasJournal words → (text : List ℕ) (limit : ℕ) (script : Script) (course : Course) (ending : Ending) (found : Option (World × ℕ))
                → RunCallsBy members tellings.Text (sites tree) text limit script old new course (Some ending) found
                → OrStalled (of_start (sites tree) found).status ending.status
            start_sound has_journal text limit script course ending None ends = inl (ending_is course Untouched ending runaway_at_start ends)
            start_sound has_journal text limit script course ending (Some settled) calls =
                let ((bytes, content, nothing), steady) = journal has_journal in
                new_sound steady (λ ending. OrStalled 0 ending.status) tellings.Text (sites tree) text limit script course (Some ending) bytes content nothing
                (session_sound steady tellings.Text (sites tree) (rest script.threads [])) calls

            complete_by : (asked : Option Command) (course : Course) (ending : Ending) → command words ≡ asked → Calls asked course ending
                → OrStalled (status_behind asked tree) ending.status
            complete_by None course ending is calls = absurd (some_or_none plan has (ap (option_and_then plan_operand) is))
            complete_by (Some (TraceStart other)) course ending is (same, calls) =
                inl (ending_is course Untouched ending (start_ending tree)
                (behind_plan Tree plan_file plan_kind _ other (ap (option_and_then plan_operand) is) course ending calls tree holds))
            complete_by (Some (DryRun other script)) course ending is (same, calls) =
                let asks : HasScript words script = ap (option_and_then script_operand) is in
                inl (dry_run_status tree (scripts script asks).0.threads course (Some ending)
                (behind_script (sites tree) script_readable Untouched _ script asks course ending
                (behind_plan Tree plan_file plan_kind _ other (ap (option_and_then plan_operand) is) course ending calls tree holds)
                (scripts script asks).0 (scripts script asks).1))
            complete_by (Some (Check other)) course ending is (same, calls) =
                inl (ending_is course Untouched ending (nodes_ending tree)
                (behind_plan Tree plan_file plan_kind _ other (ap (option_and_then plan_operand) is) course ending calls tree holds))
            complete_by (Some (Format other)) course ending is (same, calls) =
                let (laid, spelled, ends) = behind_plan (List ℕ × Tree) (with_text plan_file) text_of_kind (λ source. LaysOut source.0) other
                (ap (option_and_then plan_operand) is) course ending calls source source_holds in
                inl (ending_is course Untouched ending (layout_ending laid) ends)
            complete_by (Some (Run other script name limit)) course ending is calls =
                let asks : HasScript words script = ap (option_and_then script_operand) is in
                start_sound (name, ap (option_and_then journal_operand) is) holds.0 limit (scripts script asks).0 course ending (started (sites tree))
                (run_behind other script name limit course ending (ap (option_and_then plan_operand) is) asks calls)
            complete_by (Some (Resume script name limit)) course ending is calls = absurd (some_or_none plan has (ap (option_and_then plan_operand) is))
            complete_by (Some (Trace name)) course ending is calls = absurd (some_or_none plan has (ap (option_and_then plan_operand) is))
            complete_by (Some (Names name)) course ending is calls = absurd (some_or_none plan has (ap (option_and_then plan_operand) is))
            complete_by (Some (Soak count seed name)) course ending is calls = absurd (some_or_none plan has (ap (option_and_then plan_operand) is))

          -- a start that doesn't settle
          runs_away_by : AsksForRun words → started (sites tree) ≡ None → (asked : Option Command) (course : Course) (ending : Ending) → command words ≡ asked
              → Calls asked course ending → ending.status ≡ 6
          runs_away_by runs none None course ending is calls = absurd (some_or_none plan has (ap (option_and_then plan_operand) is))
          runs_away_by runs none (Some (TraceStart other)) course ending is (same, calls) =
              ending_is course Untouched ending (start_ending tree)
              (behind_plan Tree plan_file plan_kind _ other (ap (option_and_then plan_operand) is) course ending calls tree holds)
              ∙ ap (λ found. (of_start (sites tree) found).status) none
          runs_away_by runs none (Some (DryRun other script)) course ending is (same, calls) =
              let asks : HasScript words script = ap (option_and_then script_operand) is in
              dry_run_status tree (scripts script asks).0.threads course (Some ending)
              (behind_script (sites tree) script_readable Untouched _ script asks course ending
              (behind_plan Tree plan_file plan_kind _ other (ap (option_and_then plan_operand) is) course ending calls tree holds)
              (scripts script asks).0 (scripts script asks).1)
              ∙ ap (λ found. (of_start (sites tree) found).status) none
          runs_away_by runs none (Some (Check other)) course ending is calls = absurd (let both = sym runs ∙ ap (option_map runs_plan) is in cc)
          runs_away_by runs none (Some (Format other)) course ending is calls = absurd (let both = sym runs ∙ ap (option_map runs_plan) is in cc)
          runs_away_by runs none (Some (Run other script name limit)) course ending is calls =
              let asks : HasScript words script = ap (option_and_then script_operand) is in
              ending_is course Untouched ending runaway_at_start
              (subst (λ found. RunCallsBy members tellings.Text (sites tree) holds.0 limit (scripts script asks).0 old new course (Some ending) found) none
              (run_behind other script name limit course ending (ap (option_and_then plan_operand) is) asks calls))
          runs_away_by runs none (Some (Resume script name limit)) course ending is calls = absurd (some_or_none plan has (ap (option_and_then plan_operand) is))
          runs_away_by runs none (Some (Trace name)) course ending is calls = absurd (some_or_none plan has (ap (option_and_then plan_operand) is))
          runs_away_by runs none (Some (Names name)) course ending is calls = absurd (some_or_none plan has (ap (option_and_then plan_operand) is))
          runs_away_by runs none (Some (Soak count seed name)) course ending is calls = absurd (some_or_none plan has (ap (option_and_then plan_operand) is))

          module _ (has_journal : HasJournal words) (starts : IsSome (started (sites tree)))
              (journal : IsSound members words old new (λ bytes. IsFalse (is_nothing bytes))) where
            exists_by : (asked : Option Command) (course : Course) (ending : Ending) → command words ≡ asked → Calls asked course ending → ending.status ≡ 5
            exists_by None course ending is calls = absurd (some_or_none plan has (ap (option_and_then plan_operand) is))
            exists_by (Some (TraceStart other)) course ending is calls = absurd (some_or_none has_journal.0 has_journal.1 (ap (option_and_then journal_operand) is))
            exists_by (Some (DryRun other script)) course ending is calls = absurd (some_or_none has_journal.0 has_journal.1 (ap (option_and_then journal_operand) is))
            exists_by (Some (Check other)) course ending is calls = absurd (some_or_none has_journal.0 has_journal.1 (ap (option_and_then journal_operand) is))
            exists_by (Some (Format other)) course ending is calls = absurd (some_or_none has_journal.0 has_journal.1 (ap (option_and_then journal_operand) is))
            exists_by (Some (Run other script name limit)) course ending is calls =
                let asks : HasScript words script = ap (option_and_then script_operand) is in
                start_refused has_journal journal tellings.Text (sites tree) holds.0 limit (scripts script asks).0 course ending (started (sites tree)) starts
                (run_behind other script name limit course ending (ap (option_and_then plan_operand) is) asks calls)
            exists_by (Some (Resume script name limit)) course ending is calls = absurd (some_or_none plan has (ap (option_and_then plan_operand) is))
            exists_by (Some (Trace name)) course ending is calls = absurd (some_or_none plan has (ap (option_and_then plan_operand) is))
            exists_by (Some (Names name)) course ending is calls = absurd (some_or_none plan has (ap (option_and_then plan_operand) is))
            exists_by (Some (Soak count seed name)) course ending is calls = absurd (some_or_none plan has (ap (option_and_then plan_operand) is))

  -- ---- a journal

  -- whose names are told
  module _ (bytes : List ℕ) (content : members.content old ≡ Some bytes) (steady : ¬ Rose (members.faults old) (members.faults new)) where
    names_sound : (text : List ℕ) (first : List Entry) → Stands bytes text first → (course : Course) (due : Due) → NamesCalls members old new course due
        → WhereDue (λ ending. ending.status ≡ 0) due
    names_sound text first stands _ _ (NamesCalls.not_read same) = tt
    names_sound text first stands _ _ NamesCalls.no_memory = tt
    names_sound text first stands _ _ (NamesCalls.disk_fails rose) = absurd (steady rose)
    names_sound text first stands _ _ (NamesCalls.no_journal_there ending none) = absurd (never_none members old bytes text first content stands ending none)
    names_sound text first stands _ _ (NamesCalls.named other found told) = refl

    -- or can't be
    names_refused : (why : Ending) → HasNoJournal members old why → (course : Course) (due : Due) → NamesCalls members old new course due
        → WhereDue (λ ending. ending.status ≡ why.status) due
    names_refused why none _ _ (NamesCalls.not_read same) = tt
    names_refused why none _ _ NamesCalls.no_memory = tt
    names_refused why none _ _ (NamesCalls.disk_fails rose) = absurd (steady rose)
    names_refused why none _ _ (NamesCalls.no_journal_there ending also) = one_status members old bytes why ending content (inl none) (inl also)
    names_refused why none _ _ (NamesCalls.named text found told) =
        let (version, stands) = told bytes content in
        absurd (never_none members old bytes text (entries found) content (record { version = version; named = found; stands = stands; entries_are = refl }) why none)

  module _ (reopens : TakesUpJournal words) (has_journal : HasJournal words) (bytes : List ℕ)
      (content : members.content old ≡ Some bytes) (steady : ¬ Rose (members.faults old) (members.faults new)) where
    -- that is taken up
    module _ (text : List ℕ) (first : List Entry) (tree : Tree) (stands : Stands bytes text first) (compiled : IsCompiled text tree)
        (runs : IsSome (run (sites tree) (events_of first))) where
      taken_up : (Next : List ℕ → List Entry → Tree → Course → Due → Type 0) (course : Course) (due : Due) → AfterJournal members old new Next course due
          → WhereDue (λ ending. Next text first tree course (Some ending)) due
      taken_up Next _ _ (AfterJournal.not_read same) = tt
      taken_up Next _ _ AfterJournal.no_memory = tt
      taken_up Next _ _ (AfterJournal.disk_fails rose) = absurd (steady rose)
      taken_up Next _ _ (AfterJournal.no_journal_there ending none) =
          absurd (never_refused members old bytes text first tree content stands compiled ending runs (inl none))
      taken_up Next _ _ (AfterJournal.not_run other others ending so cannot) =
          absurd (never_refused members old bytes text first tree content stands compiled ending runs (inr (other, others, so, cannot)))
      taken_up Next _ _ (AfterJournal.opened other others found course None so spells settles next) = tt
      taken_up Next _ _ (AfterJournal.opened other others found course (Some ending) so spells settles next) =
          subst (λ t. Next text first t course (Some ending)) (same_tree members old bytes text first tree content stands compiled other others found so spells)
          (subst (λ h. Next text h found course (Some ending)) (same_first members old bytes text first tree content stands compiled other others so)
          (subst (λ b. Next b others found course (Some ending)) (same_text members old bytes text first tree content stands compiled other others so) next))

      taken_up_by : ((name : List ℕ) → HasScript words name
          → (files : Files) × (before.files ≡ Some files) × ((held : Script) × Holds (script_file (sites tree)) files name held))
          → ¬ FailsToRead HasScript words before now → (asked : Option Command) (course : Course) (ending : Ending) → command words ≡ asked
          → Calls asked course ending → OrStalled 0 ending.status
      taken_up_by scripts readable None course ending is calls = absurd (some_or_none has_journal.0 has_journal.1 (ap (option_and_then journal_operand) is))
      taken_up_by scripts readable (Some (TraceStart plan)) course ending is calls = absurd (reopens_or_not reopens (ap (option_map takes_up) is))
      taken_up_by scripts readable (Some (DryRun plan script)) course ending is calls = absurd (reopens_or_not reopens (ap (option_map takes_up) is))
      taken_up_by scripts readable (Some (Check plan)) course ending is calls = absurd (reopens_or_not reopens (ap (option_map takes_up) is))
      taken_up_by scripts readable (Some (Format plan)) course ending is calls = absurd (reopens_or_not reopens (ap (option_map takes_up) is))
      taken_up_by scripts readable (Some (Run plan script name limit)) course ending is calls =
          absurd (reopens_or_not reopens (ap (option_map takes_up) is))
      taken_up_by scripts readable (Some (Resume script name limit)) course ending is calls =
          let asks : HasScript words script = ap (option_and_then script_operand) is in
          let (files, told, (spelled, holds)) = scripts script asks in
          let (session, naming, gone_on, found, (so, behind)) =
          behind_script files told (sites tree) readable (TakenUp text first) _ script asks course ending (taken_up _ course (Some ending) calls) spelled holds in
          session_sound steady _ (sites tree) (rest spelled.threads first) session (Some ending) behind
      taken_up_by scripts readable (Some (Trace name)) course ending is calls =
          inl (ending_is course (TakenUp text first) ending (session_ending (sites tree) first []) (taken_up _ course (Some ending) calls))
      taken_up_by scripts readable (Some (Names name)) course ending is calls = inl (names_sound bytes content steady text first stands course (Some ending) calls)
      taken_up_by scripts readable (Some (Soak count seed name)) course ending is calls = absurd (reopens_or_not reopens (ap (option_map takes_up) is))

      -- behind which the script is none
      script_refused_behind : (name : List ℕ) (files : Files) → HasScript words name → before.files ≡ Some files
          → HoldsNone (script_file (sites tree)) files name → ¬ FailsToRead HasScript words before now → (asked : Option Command) (course : Course)
          (ending : Ending) → command words ≡ asked → Calls asked course ending → ending.status ≡ 4
      script_refused_behind name files asks told none readable None course ending is calls = absurd (some_or_none name asks (ap (option_and_then script_operand) is))
      script_refused_behind name files asks told none readable (Some (TraceStart plan)) course ending is calls =
          absurd (reopens_or_not reopens (ap (option_map takes_up) is))
      script_refused_behind name files asks told none readable (Some (DryRun plan script)) course ending is calls =
          absurd (reopens_or_not reopens (ap (option_map takes_up) is))
      script_refused_behind name files asks told none readable (Some (Check plan)) course ending is calls =
          absurd (reopens_or_not reopens (ap (option_map takes_up) is))
      script_refused_behind name files asks told none readable (Some (Format plan)) course ending is calls =
          absurd (reopens_or_not reopens (ap (option_map takes_up) is))
      script_refused_behind name files asks told none readable (Some (Run plan script journal limit)) course ending is calls =
          absurd (reopens_or_not reopens (ap (option_map takes_up) is))
      script_refused_behind name files asks told none readable (Some (Resume script journal limit)) course ending is calls =
          without_script files told (sites tree) readable (TakenUp text first) _ script (ap (option_and_then script_operand) is) course ending
          (taken_up _ course (Some ending) calls) name asks none
      script_refused_behind name files asks told none readable (Some (Trace journal)) course ending is calls =
          absurd (some_or_none name asks (ap (option_and_then script_operand) is))
      script_refused_behind name files asks told none readable (Some (Names journal)) course ending is calls =
          absurd (some_or_none name asks (ap (option_and_then script_operand) is))
      script_refused_behind name files asks told none readable (Some (Soak count seed journal)) course ending is calls =
          absurd (some_or_none name asks (ap (option_and_then script_operand) is))

    -- that is refused
    module _ (why : Ending) (refuses : JournalRefuses members old why) where
      never_taken_up : (Next : List ℕ → List Entry → Tree → Course → Due → Type 0) (course : Course) (due : Due) → AfterJournal members old new Next course due
          → WhereDue (λ ending. ending.status ≡ why.status) due
      never_taken_up Next _ _ (AfterJournal.not_read same) = tt
      never_taken_up Next _ _ AfterJournal.no_memory = tt
      never_taken_up Next _ _ (AfterJournal.disk_fails rose) = absurd (steady rose)
      never_taken_up Next _ _ (AfterJournal.no_journal_there ending none) = one_status members old bytes why ending content refuses (inl none)
      never_taken_up Next _ _ (AfterJournal.not_run text first ending so cannot) =
          one_status members old bytes why ending content refuses (inr (text, first, so, cannot))
      never_taken_up Next _ _ (AfterJournal.opened text first tree course due so compiled runs next) =
          absurd (never_refused members old bytes text first tree content (so bytes content) compiled why runs refuses)

      journal_refused_by : AsksForRun words → (asked : Option Command) (course : Course) (ending : Ending) → command words ≡ asked → Calls asked course ending
          → ending.status ≡ why.status
      journal_refused_by runs None course ending is calls = absurd (some_or_none has_journal.0 has_journal.1 (ap (option_and_then journal_operand) is))
      journal_refused_by runs (Some (TraceStart plan)) course ending is calls = absurd (reopens_or_not reopens (ap (option_map takes_up) is))
      journal_refused_by runs (Some (DryRun plan script)) course ending is calls = absurd (reopens_or_not reopens (ap (option_map takes_up) is))
      journal_refused_by runs (Some (Check plan)) course ending is calls = absurd (reopens_or_not reopens (ap (option_map takes_up) is))
      journal_refused_by runs (Some (Format plan)) course ending is calls = absurd (reopens_or_not reopens (ap (option_map takes_up) is))
      journal_refused_by runs (Some (Run plan script name limit)) course ending is calls = absurd (reopens_or_not reopens (ap (option_map takes_up) is))
      journal_refused_by runs (Some (Resume script name limit)) course ending is calls = never_taken_up _ course (Some ending) calls
      journal_refused_by runs (Some (Trace name)) course ending is calls = never_taken_up _ course (Some ending) calls
      journal_refused_by runs (Some (Names name)) course ending is calls = absurd (let both = sym runs ∙ ap (option_map runs_plan) is in cc)
      journal_refused_by runs (Some (Soak count seed name)) course ending is calls = absurd (reopens_or_not reopens (ap (option_map takes_up) is))

  module _ (status : ℕ) (headline : Headline members words before now old new status) where
    journal_complete : (text : List ℕ) (first : List Entry) (tree : Tree) → TakesUpJournal words → HasJournal words
        → IsCompiled text tree → IsSome (run (sites tree) (events_of first))
        → ((name : List ℕ) → HasScript words name
        → (files : Files) × (before.files ≡ Some files) × ((held : Script) × Holds (script_file (sites tree)) files name held))
        → IsSound members words old new (λ bytes. Stands bytes text first) → ¬ FailsToRead HasScript words before now → ¬ Faulted before now
        → (status ≡ 10) ⊎ OrStalled 0 status
    journal_complete text first tree reopens has_journal compiled runs scripts journal readable sound =
        let ((bytes, content, stands), steady) = journal has_journal in
        sound_status members words before now old new (OrStalled 0) status headline sound
        (λ course ending calls. taken_up_by reopens has_journal bytes content steady text first tree stands compiled runs scripts readable
        (command words) course ending refl calls)

    script_behind : (name : List ℕ) (files : Files) (text : List ℕ) (first : List Entry) (tree : Tree) → TakesUpJournal words
        → HasJournal words → HasScript words name → before.files ≡ Some files → IsCompiled text tree
        → IsSome (run (sites tree) (events_of first)) → HoldsNone (script_file (sites tree)) files name
        → IsSound members words old new (λ bytes. Stands bytes text first) → ¬ FailsToRead HasScript words before now → ¬ Faulted before now
        → (status ≡ 10) ⊎ (status ≡ 4)
    script_behind name files text first tree reopens has_journal asks told compiled runs none journal readable sound =
        let ((bytes, content, stands), steady) = journal has_journal in
        sound_status members words before now old new (λ s. s ≡ 4) status headline sound
        (λ course ending calls. script_refused_behind reopens has_journal bytes content steady text first tree stands compiled runs name files asks told none
        readable (command words) course ending refl calls)

    pub complete : IsComplete members words before now old new status
    complete = record {
      plan = λ plan files tree has told holds scripts journal readable script_readable sound.
          sound_status members words before now old new (OrStalled (status_behind (command words) tree)) status headline sound
          (λ course ending calls. complete_by files told plan has readable tree holds script_readable scripts journal (command words) course ending refl calls);
      soak = λ tree asked compiled journal sound.
          sound_status members words before now old new (λ s. s ≡ (start_ending tree).status) status headline sound
          (λ course ending calls. soak_status asked tree compiled journal course ending (started (sites tree))
          (soak_behind asked tree compiled course (Some ending) calls));
      names = λ name asked journal sound.
          let ((bytes, content, (text, first, stands)), steady) = journal (name, ap (option_and_then journal_operand) asked) in
          sound_status members words before now old new (λ s. s ≡ 0) status headline sound
          (λ course ending calls. names_sound bytes content steady text first stands course (Some ending)
          (subst (λ a. CommandCallsFor members a before now old new course (Some ending)) asked calls));
      journal = journal_complete;
    }

    pub refused : RefusesFiles members words before now old new status
    refused = record {
      plan = λ plan files has told none readable sound.
          sound_status members words before now old new (λ s. s ≡ 3) status headline sound
          (λ course ending calls. plan_refused_by files told plan has readable none (command words) course ending refl calls);
      script = λ plan name files tree has asks told holds none readable script_readable sound.
          sound_status members words before now old new (λ s. s ≡ 4) status headline sound
          (λ course ending calls. script_refused_by files told plan has readable tree holds script_readable name asks none (command words) course ending refl calls);
      runaway = λ plan files tree has runs told holds scripts none readable script_readable sound.
          sound_status members words before now old new (λ s. s ≡ 6) status headline sound
          (λ course ending calls. runs_away_by files told plan has readable tree holds script_readable scripts runs none (command words) course ending refl calls);
      soak_runaway = λ tree asked compiled none sound.
          sound_status members words before now old new (λ s. s ≡ 6) status headline sound
          (λ course ending calls. soak_runs_away asked tree compiled none course ending (soak_behind asked tree compiled course (Some ending) calls));
      exists = λ plan files tree has has_journal told holds scripts starts journal readable script_readable sound.
          sound_status members words before now old new (λ s. s ≡ 5) status headline sound
          (λ course ending calls. exists_by files told plan has readable tree holds script_readable scripts has_journal starts journal (command words) course ending refl calls);
      soak_exists = λ tree asked compiled starts journal sound.
          sound_status members words before now old new (λ s. s ≡ 5) status headline sound
          (λ course ending calls. start_refused (soak_journal words asked) journal tellings.Summary (sites tree) soak_plan event_limit (soak_lines asked.0 asked.1)
          course ending (started (sites tree)) starts (soak_behind asked tree compiled course (Some ending) calls));
      journal = λ why reopens runs has_journal refuses told steady sound.
          sound_status members words before now old new (λ s. s ≡ why.status) status headline sound
          (λ course ending calls. journal_refused_by reopens has_journal told.0 told.1 steady why refuses runs (command words) course ending refl calls);
      names = λ journal why asked none told steady sound.
          sound_status members words before now old new (λ s. s ≡ why.status) status headline sound
          (λ course ending calls. names_refused told.0 told.1 steady why none course (Some ending)
          (subst (λ a. CommandCallsFor members a before now old new course (Some ending)) asked calls));
      script_behind_journal = script_behind;
    }
