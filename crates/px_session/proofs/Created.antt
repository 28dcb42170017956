-- A new session, from the calls that make it.
use Rattle.std.proofs.Common.{◌≡◌, inl, inr, ℕ, List, [], Some, refl, sym, ◌∙◌, ap, subst, arith, IsFalse}
use Rattle.std.specs.Prelude.{is_some}
use Rattle.std.specs.Option.{ForSome}
use Rattle.std.proofs.lemmas.Bool.{both_ways}
use Rattle.std.proofs.lemmas.List.{nil_from_length}
use Rattle.px_event.specs.declared.entry.Entry.{Entry}
use Rattle.px_event.specs.declared.named.NamedEntry.{NamedEntry}
use Rattle.px_event.specs.declared.names.ThreadName.{ThreadName}
use Rattle.px_exec.specs.Executive.{Opening, Executive}
use Rattle.px_exec.specs.Opening.{GivesNames, Opens}
use Rattle.px_journal.specs.Crash.{OldOrNew, LeavesOnly}
use Rattle.px_journal.specs.Goes.{RisesWhere, Goes}
use Rattle.px_journal.specs.Journal.{IsReady, IsUntouched}
use Rattle.px_journal.specs.Layout.{entries, is_nothing, StandsAs}
use Rattle.px_journal.specs.declared.fault.CreateFault.{CreateFault}
use Rattle.px_journal.specs.declared.fault.CreateWhy.{CreateWhy}
use Rattle.px_journal.specs.declared.fault.CreateWhy.TheVariants as whys
use Rattle.px_journal.specs.declared.journal.Journal.{Journal}
use Rattle.px_journal.specs.declared.version.Version.{Version}
use Rattle.px_ports.specs.Host.{Rose}
use Rattle.px_ports.specs.declared.disk.Disk
use Rattle.px_sem.specs.declared.stepper.Stepper
use Rattle.px_session.specs.Attaching.{IsAttached, IsNotAttached}
use Rattle.px_session.specs.Creating.{LeavesNew, Creates, IsCreateWhy, IsNotCreated, version_for}
use Rattle.px_journal.proofs.Going.{rises_told}
use Rattle.px_journal.proofs.Histories.{entries_count}
use Rattle.px_journal.proofs.Ready.{ready_stands, ready_synced}
use Rattle.px_session.specs.Session.{unposted, HasOneHistory, IsNothing}
use Rattle.px_session.proofs.Sessions.{untouched_at_once, untouched_on, new_read, new_on, one_history}

-- where no entry is named, there is none
pub none_named : (named : List NamedEntry) → entries named ≡ [] → named ≡ []
none_named named none = nil_from_length named (entries_count named [] none)

-- a new journal stands for the text and no entry in its version
new_stands : {D : Type 0} (members : Disk.Ghosts D) (journal : Journal D) (text : List ℕ) (version : Version) → IsReady members journal text [] → journal.version ≡ version
    → ForSome (members.content journal.disk) (λ told. StandsAs version told text [])
new_stands members journal text version ready is told here =
    subst (λ (v : Version). StandsAs v told text []) is
    (subst (StandsAs journal.version told text) (none_named ready.named ready.entries_are) (ready.ready.stands told here))

module _ {D : Type 0} (members : Disk.Ghosts D) (name text : List ℕ) (names : List ThreadName) (old mid : D) where
  pub unattached : IsNotAttached members name old mid → IsNotCreated members name text names old (record { disk = mid; why = whys.DiskFault })
  unattached failed = record {
    why = failed.rose;
    leaves = new_read members text old mid failed.untouched;
    tells = ap is_some (failed.untouched).content;
    untouched = λ told is whole. failed.untouched;
    bound = failed.bound;
    faults = record { later = failed.faults; rose = λ is. failed.rose; kept = λ other. absurd (other refl) };
  }

  module _ (was : IsAttached members name old mid) (new : D) {Failed : Type 0} (goes : Goes members Failed mid new)
      (each : ForSome (members.content mid)
      (λ _. LeavesOnly members.images (OldOrNew (members.images (members.moments mid)) text) (members.moments mid) (members.moments new))) where
    leaves : LeavesNew members text old new
    leaves = new_on members text old mid new was.untouched (record { grows = goes.grows; each = each })

    bound : members.bound_to new ≡ Some name
    bound = goes.stays.bound ∙ was.bound

    tells : is_some (members.content new) ≡ is_some (members.content old)
    tells = goes.tells ∙ ap is_some (was.untouched).content

    kept : ForSome (members.content mid) (λ told. IsFalse (is_nothing told) → IsUntouched members mid new)
        → ForSome (members.content old) (λ told. IsFalse (is_nothing told) → IsUntouched members old new)
    kept untouched told is whole = untouched_on members old mid new was.untouched (untouched told ((was.untouched).content ∙ is) whole)

    -- no journal was made
    pub uncreated : (why : CreateWhy) → IsCreateWhy members text names mid new why
        → ForSome (members.content mid) (λ told. IsFalse (is_nothing told) → IsUntouched members mid new)
        → RisesWhere (why ≡ whys.DiskFault) (members.faults mid) (members.faults new)
        → IsNotCreated members name text names old (record { disk = new; why = why })
    uncreated why cause untouched counts = record {
      why = by why cause;
      leaves = leaves;
      tells = tells;
      untouched = kept untouched;
      bound = inl bound;
      faults = subst (λ (n : ℕ). RisesWhere (why ≡ whys.DiskFault) n (members.faults new)) was.faults counts;
    }
      where
        by : (w : CreateWhy) → IsCreateWhy members text names mid new w → IsCreateWhy members text names old new w
        by whys.Exists whole = λ told is. whole told ((was.untouched).content ∙ is)
        by whys.DiskFault rose = omega (arith, was.faults, rose)
        by whys.NoMemory (inl still) = inl (untouched_on members old mid new was.untouched still)
        by whys.NoMemory (inr made) = inr (λ told is. made.0 told ((was.untouched).content ∙ is), made.1, made.2)

    -- one was made, and an executive opened over it
    pub created : {S : Type 0} (runs : Stepper.Ghosts S) (stepper : S) (limit : ℕ) (journal : Journal D) (history : List Entry) (exec : Executive S D) → ¬ Failed → journal.disk ≡ new
        → IsReady members journal text [] → journal.version ≡ version_for names → GivesNames journal names
        → IsNothing members mid → history ≡ []
        → Opens runs (record { stepper = stepper; journal = journal; history = history; limit = limit }) exec → Creates members name text stepper limit names old exec
    created {S} runs stepper limit journal history exec right disk_is ready version gives nothing none opens = record {
      runs = ap (λ (o : Opening S D). o.stepper) opens.opening;
      opening = record {
        opened = refl;
        untouched = opens.journal ∙ sym (ap (λ (o : Opening S D). o.journal) opens.opening);
        first = ap (λ (o : Opening S D). o.history) opens.opening ∙ none;
        now = opens.history ∙ none;
        most = ap (λ (o : Opening S D). o.limit) opens.opening;
        log = opens.log;
        failed = opens.failed;
      };
      stands = subst (λ (o : Opening S D). IsReady members o.journal text o.history) (sym opens.opening)
          (subst (IsReady members journal text) (sym none) ready);
      version = ap (λ (o : Opening S D). o.journal.version) opens.opening ∙ version;
      gives = subst (λ (o : Opening S D). GivesNames o.journal names) (sym opens.opening) gives;
      was_nothing = λ told is. nothing told ((was.untouched).content ∙ is);
      leaves = subst (LeavesNew members text old) (sym here) leaves;
      tells = ap (λ (d : D). is_some (members.content d)) here ∙ tells;
      bound = ap members.bound_to here ∙ bound;
      faults = ap members.faults here ∙ goes.faults.kept right ∙ was.faults;
    }
      where
        here : exec.opening.journal.disk ≡ new
        here = ap (λ (o : Opening S D). o.journal.disk) opens.opening ∙ disk_is

    -- the reason that the making of the journal gave
    pub why_refused : (fault : CreateFault D) → fault.disk ≡ new
        → (fault.why ≡ whys.Exists → ForSome (members.content mid) (λ told. IsFalse (is_nothing told)))
        → (fault.why ≡ whys.NoMemory → fault.disk ≡ mid) → (fault.why ≡ whys.DiskFault → Rose (members.faults mid) (members.faults fault.disk))
        → IsCreateWhy members text names mid new fault.why
    why_refused fault here exists none cause = by fault.why refl
      where
        by : (w : CreateWhy) → fault.why ≡ w → IsCreateWhy members text names mid new w
        by whys.Exists is = exists is
        by whys.DiskFault is = subst (λ (d : D). Rose (members.faults mid) (members.faults d)) here (cause is)
        by whys.NoMemory is = inl (subst (IsUntouched members mid) (sym (none is) ∙ here) (untouched_at_once members mid))

    -- the journal was made, and memory ran out behind it
    pub made_in_vain : (journal : Journal D) → ¬ Failed → journal.disk ≡ new → IsReady members journal text [] → journal.version ≡ version_for names
        → IsNothing members mid → IsNotCreated members name text names old (record { disk = new; why = whys.NoMemory })
    made_in_vain journal right here ready version nothing = record {
      why = inr (
        λ told is. nothing told ((was.untouched).content ∙ is),
        subst (HasOneHistory members (unposted text [])) here (one_history members journal.disk text [] (ready_synced _ _ _ _ ready) (ready_stands _ _ _ _ ready)),
        subst (λ (d : D). ForSome (members.content d) (λ told. StandsAs (version_for names) told text [])) here (new_stands members journal text (version_for names) ready version),
      );
      leaves = leaves;
      tells = tells;
      untouched = λ told is whole. absurd (both_ways (is_nothing told) whole (nothing told ((was.untouched).content ∙ is)));
      bound = inl bound;
      faults = subst (λ (n : ℕ). RisesWhere (whys.NoMemory ≡ whys.DiskFault) n (members.faults new)) was.faults
          (rises_told goes.faults (λ failed. absurd (right failed)) (λ same. absurd (cc)));
    }
