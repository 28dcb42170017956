-- A journal that is read, and a session that goes on, from the calls that take its journal up.
use Rattle.std.proofs.Common.{◌≡◌, inl, ℕ, List, IsSome, Result, Ok, Err, IfOk, IfErr, refl, sym, ◌∙◌, ap, subst, arith, IsFalse}
use Rattle.std.specs.Prelude.{is_some}
use Rattle.std.specs.Option.{ForSome}
use Rattle.px_compile.specs.Compiled.{IsCompiled}
use Rattle.px_core.specs.Fit.{IsFit}
use Rattle.px_core.specs.Plan.{Site, Tree, tree_of, sites}
use Rattle.px_event.specs.declared.entry.Entry.{Entry}
use Rattle.px_event.specs.declared.named.NamedEntry.{NamedEntry}
use Rattle.px_exec.specs.Executive.{plan_of}
use Rattle.px_exec.specs.Opening.{IsWhy, RunsAwayAt}
use Rattle.px_exec.specs.declared.fault.OpenWhy.{OpenWhy}
use Rattle.px_exec.specs.declared.fault.OpenWhy.TheVariants as opening
use Rattle.px_journal.specs.Damage.{Damaged}
use Rattle.px_journal.specs.Goes.{RisesWhere, Goes}
use Rattle.px_journal.specs.Journal.{IsReady, IsReadyAs, IsNotRecovered, IsSynced, IsUnwritten, IsUntouched, disk_recovered}
use Rattle.px_journal.specs.Layout.{entries, interfaces, is_nothing, Stands, StandsAs}
use Rattle.px_journal.specs.declared.fault.RecoverFault.{RecoverFault}
use Rattle.px_journal.specs.declared.fault.RecoverWhy.{RecoverWhy}
use Rattle.px_journal.specs.declared.fault.RecoverWhy.TheVariants as recovering
use Rattle.px_ports.specs.declared.disk.Disk
use Rattle.px_sem.specs.Log.{events_of}
use Rattle.px_sem.specs.Run.{run}
use Rattle.px_sem.specs.declared.stepper.Stepper
use Rattle.px_journal.specs.declared.journal.Journal.{Journal}
use Rattle.px_journal.specs.declared.journal.Recovered.{Recovered}
use Rattle.px_session.specs.Attaching.{IsAttached, IsNotAttached}
use Rattle.px_session.specs.Reading.{IsRead, IsReadWhy, IsNotRead}
use Rattle.px_session.specs.Reopening.{IsRunWhy, IsReopenWhy, IsNotReopened, Reopens}
use Rattle.px_session.specs.Session.{IsNothing, IsOpening, StandsFor}
use Rattle.px_session.specs.declared.reopening.Reopened.{Reopened}
use Rattle.px_journal.proofs.Going.{rises_none, rises_told}
use Rattle.px_session.proofs.Sessions.{untouched_on, unwritten_on}
use Rattle.px_session.specs.Fault.{of_recover, of_open}
use Rattle.px_session.specs.declared.fault.ReopenFault.{ReopenFault}
use Rattle.px_session.specs.declared.fault.ReopenWhy.{ReopenWhy}
use Rattle.px_session.specs.declared.fault.ReopenWhy.TheVariants as reopening

module _ {D : Type 0} (members : Disk.Ghosts D) (name : List ℕ) (old mid : D) where
  pub not_attached : IsNotAttached members name old mid → IsNotRead members name old (record { disk = mid; why = recovering.DiskFault })
  not_attached failed = record {
    why = failed.rose;
    unwritten = (failed.untouched).unwritten;
    same = λ other. (failed.untouched).content;
    synced = λ other. absurd (other refl);
    tells = ap is_some (failed.untouched).content;
    bound = failed.bound;
    faults = record { later = failed.faults; rose = λ is. failed.rose; kept = λ other. absurd (other refl) };
  }

  module _ (was : IsAttached members name old mid) where
    -- the journal was read
    pub is_read : (r : Result (Recovered D) (RecoverFault D))
        → IfOk r (λ read. (named : List NamedEntry) × IsReadyAs members read.journal read.plan.items named
        × (entries named ≡ read.history.items) × (interfaces named ≡ read.names.items))
        → (¬ IsNotRecovered r recovering.DiskFault → members.content (disk_recovered r) ≡ members.content mid)
        → IsUnwritten members mid (disk_recovered r) → Goes members (IsNotRecovered r recovering.DiskFault) mid (disk_recovered r)
        → IfOk r (IsRead members name old)
    is_read (Err fault) named same unwritten goes = tt
    is_read (Ok read) named same unwritten goes =
        let untouched = untouched_on members old mid read.journal.disk was.untouched (record { content = same (λ none. none); unwritten = unwritten }) in
        record {
          found = named.0;
          ready = named.1;
          history = named.2;
          names = named.3;
          stands = λ told here. (named.1).stands told (untouched.content ∙ here);
          untouched = untouched;
          bound = goes.stays.bound ∙ was.bound;
          faults = goes.faults.kept (λ none. none) ∙ was.faults;
        }

    -- it was not read
    pub not_read : (r : Result (Recovered D) (RecoverFault D))
        → (IsNotRecovered r recovering.NoJournal → IsNothing members mid)
        → ((at : ℕ) → IsNotRecovered r (recovering.Damaged at) → ForSome (members.content mid) (λ told. IsFalse (is_nothing told) × Damaged told at))
        → (¬ IsNotRecovered r recovering.DiskFault → members.content (disk_recovered r) ≡ members.content mid)
        → (¬ IsNotRecovered r recovering.DiskFault → IsSynced members (disk_recovered r))
        → IsUnwritten members mid (disk_recovered r) → Goes members (IsNotRecovered r recovering.DiskFault) mid (disk_recovered r)
        → IfErr r (IsNotRead members name old)
    not_read (Ok read) none damaged same synced unwritten goes = tt
    not_read (Err fault) none damaged same synced unwritten goes = record {
      why = by fault.why refl;
      unwritten = unwritten_on members old mid fault.disk (was.untouched).unwritten unwritten;
      same = λ other. same other ∙ (was.untouched).content;
      synced = synced;
      tells = goes.tells ∙ ap is_some (was.untouched).content;
      bound = inl (goes.stays.bound ∙ was.bound);
      faults = subst (λ (n : ℕ). RisesWhere (fault.why ≡ recovering.DiskFault) n (members.faults fault.disk)) was.faults goes.faults;
    }
      where
        by : (w : RecoverWhy) → fault.why ≡ w → IsReadWhy members old fault.disk w
        by recovering.NoJournal is = λ told here. none is told ((was.untouched).content ∙ here)
        by (recovering.Damaged at) is = λ told here. damaged at is told ((was.untouched).content ∙ here)
        by recovering.DiskFault is = let more = goes.faults.rose is in omega (arith, was.faults, more)
        by recovering.NoMemory is = tt

module _ {D : Type 0} (members : Disk.Ghosts D) (name : List ℕ) (old : D) where
  -- the journal was not read
  pub not_taken_up : (fault : RecoverFault D) (shown : ReopenWhy) → shown ≡ of_recover fault.why → IsNotRead members name old fault
      → IsNotReopened members name old (record { disk = fault.disk; why = shown })
  not_taken_up fault shown is unread = subst (λ (w : ReopenWhy). IsNotReopened members name old (record { disk = fault.disk; why = w })) (sym is) (record {
    why = cause fault.why unread.why;
    unwritten = unread.unwritten;
    same = λ other. unread.same (λ e. other (ap of_recover e));
    synced = λ other. unread.synced (λ e. other (ap of_recover e));
    tells = unread.tells;
    bound = unread.bound;
    faults = rises_told unread.faults (ap of_recover) (back fault.why);
  })
    where
      cause : (w : RecoverWhy) → IsReadWhy members old fault.disk w → IsReopenWhy members old fault.disk (of_recover w)
      cause recovering.NoJournal why = why
      cause (recovering.Damaged at) why = why
      cause recovering.DiskFault why = why
      cause recovering.NoMemory why = why

      back : (w : RecoverWhy) → of_recover w ≡ reopening.DiskFault → w ≡ recovering.DiskFault
      back recovering.NoJournal is = absurd (cc)
      back (recovering.Damaged at) is = absurd (cc)
      back recovering.DiskFault is = refl
      back recovering.NoMemory is = absurd (cc)

  module _ (read : Recovered D) (was : IsRead members name old read) where
    pub read_ready : IsReady members read.journal read.plan.items read.history.items
    read_ready = record { named = was.found; ready = was.ready; entries_are = was.history }

    before : StandsFor members old read.plan.items read.history.items
    before told here = record { version = read.journal.version; named = was.found; stands = was.stands told here; entries_are = was.history }

    -- it was read, and can't be run
    pub not_run : {T : Type 0} (r : Result T (ReopenFault D)) → IfErr r (λ fault. fault.disk ≡ read.journal.disk)
        → IfErr r (λ fault. IsRunWhy read.plan.items read.history.items fault.why) → IfErr r (IsNotReopened members name old)
    not_run (Ok done) here why = tt
    not_run (Err fault) here why = subst (λ (d : D). IsNotReopened members name old (record { disk = d; why = fault.why })) (sym here) (record {
      why = by fault.why why;
      unwritten = (was.untouched).unwritten;
      same = λ other. (was.untouched).content;
      synced = λ other. was.ready.synced;
      tells = ap is_some (was.untouched).content;
      bound = inl was.bound;
      faults = subst (RisesWhere (fault.why ≡ reopening.DiskFault) (members.faults old)) (sym was.faults)
          (rises_none (members.faults old) (λ is. absurd (subst (IsRunWhy read.plan.items read.history.items) is why)));
    })
      where
        by : (w : ReopenWhy) → IsRunWhy read.plan.items read.history.items w → IsReopenWhy members old read.journal.disk w
        by reopening.NoJournal cause = absurd cause
        by (reopening.Damaged at) cause = absurd cause
        by reopening.PlanRefused cause = (read.plan.items, read.history.items, before, cause)
        by reopening.RunawayAtStart cause = (read.plan.items, read.history.items, before, cause)
        by (reopening.Runaway at) cause = (read.plan.items, read.history.items, before, cause)
        by reopening.DiskFault cause = absurd cause
        by reopening.NoMemory cause = tt

    -- it was read, and its history was run
    pub taken_up : {S : Type 0} (runs : Stepper.Ghosts S) (limit : ℕ) (r : Result (Reopened S D) (ReopenFault D))
        → IfOk r (λ reopened. IsCompiled read.plan.items (tree_of reopened.plan)) → IfOk r (λ reopened. IsFit (tree_of reopened.plan))
        → IfOk r (λ reopened. plan_of runs reopened.exec ≡ sites (tree_of reopened.plan))
        → IfOk r (λ reopened. IsSome (run (sites (tree_of reopened.plan)) (events_of read.history.items)))
        → IfOk r (λ reopened. IsOpening read.journal read.history.items limit reopened.exec) → IfOk r (Reopens members runs name limit old)
    taken_up runs limit (Err fault) compiled fit nodes settles opening = tt
    taken_up runs limit (Ok reopened) compiled fit nodes settles opening = record {
      text = read.plan.items;
      ready = subst (λ (h : List Entry). IsReady members reopened.exec.opening.journal read.plan.items h) (sym opening.first)
          (subst (λ (j : Journal D). IsReady members j read.plan.items read.history.items) (sym opening.opened) read_ready);
      stands = λ told here. subst (λ (h : List Entry). Stands told read.plan.items h) (sym opening.first) (before told here);
      found = was.found;
      named = (subst (λ (j : Journal D). IsReadyAs members j read.plan.items was.found) (sym opening.opened) was.ready, was.history ∙ sym opening.first);
      stands_named = λ told here. subst (λ (j : Journal D). StandsAs j.version told read.plan.items was.found) (sym opening.opened) (was.stands told here);
      compiled = compiled;
      fit = fit;
      nodes = nodes;
      settles = subst (λ (h : List Entry). IsSome (run (sites (tree_of reopened.plan)) (events_of h))) (sym opening.first) settles;
      opening = record {
        opened = refl;
        untouched = opening.untouched ∙ sym opening.opened;
        first = refl;
        now = opening.now ∙ sym opening.first;
        most = opening.most;
        log = opening.log;
        failed = opening.failed;
      };
      untouched = subst (λ (j : Journal D). IsUntouched members old j.disk) (sym opening.opened) was.untouched;
      bound = ap (λ (j : Journal D). members.bound_to j.disk) opening.opened ∙ was.bound;
      faults = ap (λ (j : Journal D). members.faults j.disk) opening.opened ∙ was.faults;
    }

-- an event of the history runs away, or memory runs out
pub not_opened : (text : List ℕ) (history : List Entry) (tree : Tree) (nodes : List Site) (why : OpenWhy) (shown : ReopenWhy) → shown ≡ of_open why
    → IsCompiled text tree → nodes ≡ sites tree → IsWhy nodes history why → IsRunWhy text history shown
not_opened text history tree nodes (opening.Runaway at) shown is compiled same away =
    subst (IsRunWhy text history) (sym is) (tree, compiled, subst (λ (n : List Site). RunsAwayAt n history at) same away)
not_opened text history tree nodes opening.NoMemory shown is compiled same away = subst (IsRunWhy text history) (sym is) tt
