-- A journal whose names are read: what `names` has come to then.
use Rattle.std.proofs.Common.{◌≡◌, ◌≢◌, inr, List, [], ℕ, Some, Result, Ok, Err, refl, sym, ◌∙◌, ap, subst}
use Rattle.px_journal.specs.Layout.{entries}
use Rattle.px_journal.specs.declared.fault.RecoverFault.{RecoverFault}
use Rattle.px_journal.specs.declared.fault.RecoverWhy.{RecoverWhy}
use Rattle.px_journal.specs.declared.fault.RecoverWhy.TheVariants as recovering
use Rattle.px_journal.specs.declared.journal.Recovered.{Recovered}
use Rattle.px_output.specs.Printing.{Prints}
use Rattle.px_output.specs.View.{View}
use Rattle.px_output.specs.declared.printer.PrintFault.{PrintFault}
use Rattle.px_ports.specs.declared.disk.Disk
use Rattle.px_session.specs.Session.{StandsFor}
use Rattle.px_session.specs.Reading.{IsRead, IsReadWhy, IsNotRead}
use Rattle.px_run.specs.Course.{Course, Synced, Unread, TakenUp}
use Rattle.px_ending.specs.Ending.{no_journal, journal_damaged, names_ending}
use Rattle.px_run.specs.Finishing.{ComesBack}
use Rattle.px_run.specs.Journaled.{HasNoJournal, NamesCalls}
use Rattle.px_run.specs.Names.{NamesCarries}
use Rattle.px_run.specs.Stops.{Performs, stop_of, stop_of_recover}
use Rattle.px_ending.specs.declared.status.End.{End}
use Rattle.px_ending.specs.declared.status.End.TheVariants as ends
use Rattle.px_run.specs.declared.stop.Stop.{Stop}
use Rattle.px_run.proofs.Performing.{printed, broken_off}
use Rattle.px_run.proofs.Resumed.{carries_taken_up}

module _ {D : Type 0} (members : Disk.Ghosts D) (journal : List ℕ) (old : D) where
  -- none was read
  pub none_read : (view : View) (fault : RecoverFault D) → IsNotRead members journal old fault
      → NamesCarries members journal view view old (record { result = Err (stop_of_recover fault.why); disk = fault.disk })
  none_read view fault unread = by fault.why refl
    where
      back : ComesBack members old (record { result = Err (stop_of_recover fault.why); disk = fault.disk })
      back = record {
        tells = unread.tells;
        kept = λ other. unread.faults.kept (λ is. other (ap (λ why. let r : Result End Stop = Err (stop_of_recover why) in r) is));
      }

      cause : (why : RecoverWhy) → fault.why ≡ why → IsReadWhy members old fault.disk why
      cause why is = subst (IsReadWhy members old fault.disk) is unread.why

      read_as : (why : RecoverWhy) → fault.why ≡ why → why ≢ recovering.DiskFault → Performs view view (NamesCalls members old fault.disk Synced) (Err (stop_of_recover why))
          → NamesCarries members journal view view old (record { result = Err (stop_of_recover fault.why); disk = fault.disk })
      read_as why is other performs =
          let right : fault.why ≢ recovering.DiskFault = λ e. other (sym is ∙ e) in
          record {
            course = Synced;
            performs = subst (λ (w : RecoverWhy). Performs view view (NamesCalls members old fault.disk Synced) (Err (stop_of_recover w))) (sym is) performs;
            leaves = λ tells. (record { content = unread.same right; unwritten = unread.unwritten }, unread.synced right);
            bound = unread.bound;
            back = back;
          }

      by : (why : RecoverWhy) → fault.why ≡ why → NamesCarries members journal view view old (record { result = Err (stop_of_recover fault.why); disk = fault.disk })
      by recovering.NoJournal is =
          read_as recovering.NoJournal is (λ e. cc) (NamesCalls.no_journal_there no_journal (HasNoJournal.nothing (cause recovering.NoJournal is)), refl)
      by (recovering.Damaged at) is =
          read_as (recovering.Damaged at) is (λ e. cc)
          (NamesCalls.no_journal_there (journal_damaged at) (HasNoJournal.damaged at (cause (recovering.Damaged at) is)), refl)
      by recovering.NoMemory is = read_as recovering.NoMemory is (λ e. cc) (inr (NamesCalls.no_memory, refl))
      by recovering.DiskFault is = record {
        course = Unread;
        performs = subst (λ (w : RecoverWhy). Performs view view (NamesCalls members old fault.disk Unread) (Err (stop_of_recover w))) (sym is)
            (NamesCalls.disk_fails (cause recovering.DiskFault is), refl);
        leaves = λ tells. unread.unwritten;
        bound = unread.bound;
        back = back;
      }

  -- its names are printed, or their text breaks off
  module _ (read : Recovered D) (r : IsRead members journal old read) (before now : View) (disk : D) (here : disk ≡ read.journal.disk) where
    abbrev course : Course
    course = TakenUp read.plan.items (entries r.found)

    due : NamesCalls members old disk course (Some (names_ending r.found))
    due = NamesCalls.named read.plan.items r.found (λ told is. (read.journal.version, r.stands told is))

    stands : StandsFor members read.journal.disk read.plan.items (entries r.found)
    stands told is = record { version = read.journal.version; named = r.found; stands = r.ready.stands told is; entries_are = refl }

    names_read : (result : Result End Stop) → Performs before now (NamesCalls members old disk course) result
        → NamesCarries members journal before now old (record { result = result; disk = disk })
    names_read result =
        carries_taken_up members journal (λ (new : D). NamesCalls members old new) read.plan.items (entries r.found) before now old read.journal.disk disk result
        r.untouched r.ready.synced stands r.bound r.faults here

    pub names_printed : Prints {T = Unit} before [] now [] (names_ending r.found).text (Ok tt)
        → NamesCarries members journal before now old (record { result = Ok ends.Done; disk = disk })
    names_printed prints =
        names_read (Ok ends.Done) (printed before now (NamesCalls members old disk course) ends.Done (names_ending r.found) due refl prints)

    pub names_broken_off : (fault : PrintFault) → Prints {T = Unit} before [] now [] (names_ending r.found).text (Err fault)
        → NamesCarries members journal before now old (record { result = Err (stop_of fault); disk = disk })
    names_broken_off fault prints =
        names_read (Err (stop_of fault)) (broken_off before now (NamesCalls members old disk course) (names_ending r.found) fault (Err (stop_of fault)) due refl prints)
