-- A session over a new journal, from the making of the journal and the end of the session.
use Rattle.std.proofs.Common.{◌≡◌, ◌⊎◌, inl, inr, ⊎_elim, ℕ, List, [], Some, None, IsSome, Err, length, refl, sym, ◌∙◌, ap, subst, arith, IsTrue}
use Rattle.std.specs.Option.{ForSome}
use Rattle.px_value.proofs.General.{told_of}
use Rattle.px_core.specs.Plan.{Site}
use Rattle.px_crew.proofs.Gathering.{follows_nothing}
use Rattle.px_event.specs.declared.entry.Entry.{Entry}
use Rattle.px_exec.proofs.Images.{leaves_now}
use Rattle.px_event.specs.declared.names.ThreadName.{ThreadName}
use Rattle.px_exec.specs.Executive.{Executive, plan_of, TellsBytes, WasNamed}
use Rattle.px_journal.proofs.Moments.{leaves_more}
use Rattle.px_journal.specs.Crash.{OldOrNew, LeavesOnly}
use Rattle.px_journal.specs.Journal.{IsReadyAs}
use Rattle.px_journal.specs.Layout.{is_nothing, Stands, StandsAs}
use Rattle.px_journal.specs.declared.fault.CreateWhy.{CreateWhy}
use Rattle.px_journal.specs.declared.fault.CreateWhy.TheVariants as creating
use Rattle.px_output.specs.View.{View}
use Rattle.px_ports.specs.Moment.{LeftSince}
use Rattle.px_ports.specs.declared.disk.Disk
use Rattle.px_script.specs.Remainder.{rest}
use Rattle.px_script.specs.declared.script.Script.{Script}
use Rattle.px_script.specs.declared.todo.Todo.{Todo}
use Rattle.px_sem.specs.Run.{run}
use Rattle.px_sem.specs.declared.stepper.Stepper
use Rattle.px_session.proofs.Created.{none_named}
use Rattle.px_session.proofs.Sessions.{first_front}
use Rattle.px_session.specs.Creating.{LeavesNew, Creates, IsCreateWhy, IsNotCreated, version_for}
use Rattle.px_session.specs.Session.{Session, unposted, IsEnd, IsFront, HasOneHistory, LeavesFronts}
use Rattle.px_run.specs.Course.{Untouched, HalfMade, IsUnnamed, Made, Due}
use Rattle.px_run.specs.Finishing.{Carries, Finishes}
use Rattle.px_run.specs.Journaled.{IsSession, DueBehind, NewCalls}
use Rattle.px_run.specs.Naming.{Naming, new_naming, LeavesNames}
use Rattle.px_run.specs.Stops.{stop_of_create}
use Rattle.px_run.specs.declared.stop.Stop.{Stop}
use Rattle.px_run.specs.declared.finishing.Carried.{Carried}
use Rattle.px_run.specs.declared.finishing.Telling.{Telling}
use Rattle.px_run.proofs.Finished.{due_behind_since, leaves_fronts, opening_stands}
use Rattle.px_run.proofs.Named.{leaves_names}
use Rattle.px_run.proofs.Performing.{performs_more}

-- ---- what a crash may leave

end_of_none : (text bytes : List ℕ) → IsEnd (unposted text []) bytes → Stands bytes text []
end_of_none text bytes (inl stands) = stands
end_of_none text bytes (inr stands) = stands

module _ {D : Type 0} (members : Disk.Ghosts D) where
  -- a journal was made up to a moment, and each image since then is a front
  fronts_behind : (session : Session) (text : List ℕ) (old mid new : D) → session.text ≡ text → session.first ≡ [] → IsSome (members.content old)
      → LeavesNew members text old mid → ((image : List ℕ) → members.images (members.moments mid) image → Stands image session.text session.first)
      → LeavesOnly members.images (IsFront session) (members.moments mid) (members.moments new)
      → LeavesFronts members (λ image. IsTrue (is_nothing image)) session old new
  fronts_behind session text old mid new same_text same_first tells making stands since =
      leaves_fronts members (λ image. IsTrue (is_nothing image)) session old mid new
      (leaves_more members.images (OldOrNew (members.images (members.moments old)) text) _ (members.moments old) (members.moments mid) of_making made)
      stands since
    where
      told : (bytes : List ℕ) × (members.content old ≡ Some bytes)
      told = told_of (members.content old) tells

      made : LeavesOnly members.images (OldOrNew (members.images (members.moments old)) text) (members.moments old) (members.moments mid)
      made = making.each told.0 told.1

      of_making : (image : List ℕ) → OldOrNew (members.images (members.moments old)) text image
          → members.images (members.moments old) image ⊎ (IsTrue (is_nothing image) ⊎ IsFront session image)
      of_making image (inl was) = inl was
      of_making image (inr (inl nothing)) = inr (inl nothing)
      of_making image (inr (inr stands)) = inr (inr (first_front session image (rw (same_text, same_first) stands)))

  -- memory ran out right behind the making
  fronts_of_none : (text : List ℕ) (old new : D) → TellsBytes members old → TellsBytes members new → LeavesNew members text old new
      → HasOneHistory members (unposted text []) new → LeavesFronts members (λ image. IsTrue (is_nothing image)) (unposted text []) old new
  fronts_of_none text old new told_then tells making now =
      let told = told_of (members.content new) tells in
      let stands : (image : List ℕ) → members.images (members.moments new) image → Stands image text [] =
      λ image left. end_of_none text image (now.left told.0 told.1 image left) in
      fronts_behind (unposted text []) text old new new refl refl told_then making stands
      (leaves_now members.images (members.moments new) (IsFront (unposted text [])) (λ image left. first_front (unposted text []) image (stands image left)))

  -- ---- the names that entries have then

  -- while the journal is made, it has no entry
  early_names : (session : Session) (text : List ℕ) (old new : D) → session.text ≡ text → TellsBytes members old → LeavesNew members text old new → (image : List ℕ)
      → LeftSince members.images (members.moments new) (length (members.moments old)) image → members.images (members.moments old) image ⊎ IsUnnamed session image
  early_names session text old new same tells making image left =
      let told = told_of (members.content old) tells in
      subst (λ (t : List ℕ). OldOrNew (members.images (members.moments old)) t image) (sym same) ((making.each told.0 told.1).each image left)

  -- memory ran out right behind the making
  names_of_none : (text : List ℕ) (names : List ThreadName) (old new : D) → TellsBytes members old → LeavesNew members text old new
      → ForSome (members.content new) (λ told. StandsAs (version_for names) told text [])
      → LeavesNames members (IsUnnamed (unposted text [])) (unposted text []) (new_naming names) old new
  names_of_none text names old new tells making stands = record {
    read = λ told here. record { more = []; rest = []; front = refl; stands = stands told here };
    each = record {
      grows = making.grows;
      each = λ image left. ⊎_elim (λ was. inl was) (λ is. inr (inl is)) (early_names (unposted text []) text old new refl tells making image left);
    };
  }

  -- ---- the two ends of a call

  module _ (telling : Telling) (plan : List Site) (text name : List ℕ) (limit : ℕ) (script : Script) (before now : View) (old : D)
      (all_left : rest script.threads [] ≡ script.threads) where
    abbrev threads : List Todo
    threads = script.threads

    abbrev naming : Naming
    naming = new_naming script.names

    -- a journal was made, and a session over it has ended
    pub made_runs : {S : Type 0} (runs : Stepper.Ghosts S) (stepper : S) (exec : Executive S D) (carried : Carried D) → (runs.state stepper).nodes ≡ plan
        → Creates members name text stepper limit script.names old exec → Finishes members runs telling text exec threads before now carried
        → Carries members name (λ new. NewCalls members telling plan text limit script old new) before now old carried
    made_runs {S} runs stepper exec carried nodes made finished = record {
      course = Made finished.session naming;
      performs = performs_more before now (DueBehind members telling (plan_of runs exec) threads finished.session exec.opening.journal.disk carried.disk)
          (NewCalls members telling plan text limit script old carried.disk (Made finished.session naming)) carried.result
          (λ due behind. NewCalls.made finished.session due made.was_nothing (session, behind_here due behind)) finished.performs;
      leaves = λ tells. ((finished.leaves (made.tells ∙ tells)).now, fronts tells, names tells);
      bound = inl (finished.goes.stays.bound ∙ made.bound);
      back = record {
        tells = finished.goes.tells ∙ made.tells;
        kept = λ other. finished.goes.faults.kept other ∙ made.faults;
      };
    }
      where
        plan_is : plan_of runs exec ≡ plan
        plan_is = ap (λ (s : S). (runs.state s).nodes) made.runs ∙ nodes

        session : IsSession plan text [] limit (rest threads []) finished.session
        session =
            subst (λ (t : List Todo). IsSession plan text [] limit t finished.session) (sym all_left)
            (subst (λ (p : List Site). IsSession p text [] limit threads finished.session) plan_is
            (subst (λ (h : List Entry). IsSession (plan_of runs exec) text h limit threads finished.session) made.opening.first
            (subst (λ (l : ℕ). IsSession (plan_of runs exec) text exec.opening.history l threads finished.session) made.opening.most finished.is_session)))

        behind_here : (due : Due) → DueBehind members telling (plan_of runs exec) threads finished.session exec.opening.journal.disk carried.disk due
            → DueBehind members telling plan (rest threads []) finished.session old carried.disk due
        behind_here due behind =
            subst (λ (t : List Todo). DueBehind members telling plan t finished.session old carried.disk due) (sym all_left)
            (subst (λ (p : List Site). DueBehind members telling p threads finished.session old carried.disk due) plan_is
            (due_behind_since members telling (plan_of runs exec) threads finished.session old exec.opening.journal.disk carried.disk due (omega (arith, made.faults)) behind))

        was_new : WasNamed members exec text []
        was_new =
            let none = none_named made.stands.named (made.stands.entries_are ∙ made.opening.first) in
            (subst (IsReadyAs members exec.opening.journal text) none made.stands.ready, sym made.opening.first)

        names : TellsBytes members old → LeavesNames members (IsUnnamed finished.session) finished.session naming old carried.disk
        names tells =
            leaves_names members finished.session naming (IsUnnamed finished.session) text old exec.opening.journal carried.disk session.same_text made.version made.gives
            made.leaves.grows (early_names finished.session text old exec.opening.journal.disk session.same_text tells made.leaves)
            (finished.names (made.tells ∙ tells) [] was_new)

        fronts : TellsBytes members old → LeavesFronts members (λ image. IsTrue (is_nothing image)) finished.session old carried.disk
        fronts tells =
            let leaves = finished.leaves (made.tells ∙ tells) in
            fronts_behind finished.session text old exec.opening.journal.disk carried.disk session.same_text session.same_first tells made.leaves
            (opening_stands members exec text finished.session session.same_text finished.is_session.same_first (made.tells ∙ tells) made.stands) leaves.since

    -- none was made, or memory ran out right behind the making
    not_made : (why : CreateWhy) (new : D) → IsSome (run plan []) → IsCreateWhy members text script.names old new why → IsNotCreated members name text script.names old (record { disk = new; why = why })
        → Carries members name (λ new. NewCalls members telling plan text limit script old new) before before old (record { result = Err (stop_of_create why); disk = new })
    not_made creating.Exists new starts whole fault = record {
      course = Untouched;
      performs = (NewCalls.exists whole, refl);
      leaves = λ tells. let told = told_of (members.content old) tells in fault.untouched told.0 told.1 (whole told.0 told.1);
      bound = fault.bound;
      back = record { tells = fault.tells; kept = λ other. fault.faults.kept (λ same. absurd (cc)) };
    }
    not_made creating.DiskFault new starts rose fault = record {
      course = HalfMade text;
      performs = (NewCalls.half_made rose, refl);
      leaves = λ tells. (fault.leaves, fault.untouched);
      bound = fault.bound;
      back = record { tells = fault.tells; kept = λ other. absurd (other refl) };
    }
    not_made creating.NoMemory new starts (inl still) fault = record {
      course = Untouched;
      performs = inr (NewCalls.no_memory, refl);
      leaves = λ tells. still;
      bound = fault.bound;
      back = record { tells = fault.tells; kept = λ other. fault.faults.kept (λ same. absurd (cc)) };
    }
    not_made creating.NoMemory new starts (inr (nothing, history, stands)) fault = record {
      course = Made (unposted text []) naming;
      performs = inr (NewCalls.made (unposted text []) None nothing (session, DueBehind.no_memory refl), refl);
      leaves = λ tells. (history, fronts_of_none text old new tells (fault.tells ∙ tells) fault.leaves history, names_of_none text script.names old new tells fault.leaves stands);
      bound = fault.bound;
      back = record { tells = fault.tells; kept = λ other. fault.faults.kept (λ same. absurd (cc)) };
    }
      where
        session : IsSession plan text [] limit (rest threads []) (unposted text [])
        session = record {
          same_text = refl;
          same_first = refl;
          legal = record { runs = starts; answers = tt };
          follows = follows_nothing plan [] [] (rest threads []) refl;
          due = tt;
          next = tt;
        }

    pub not_made_runs : (why : CreateWhy) (new : D) (stop : Stop) → IsSome (run plan []) → stop ≡ stop_of_create why
        → IsNotCreated members name text script.names old (record { disk = new; why = why })
        → Carries members name (λ new. NewCalls members telling plan text limit script old new) before before old (record { result = Err stop; disk = new })
    not_made_runs why new stop starts is fault =
        subst (λ (s : Stop). Carries members name (λ new. NewCalls members telling plan text limit script old new) before before old (record { result = Err s; disk = new }))
        (sym is) (not_made why new starts fault.why fault)
