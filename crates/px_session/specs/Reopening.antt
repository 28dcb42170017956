-- What takes a session up over a journal that stands, and why there is none.
use Rattle.std.specs.Prelude.{◌≡◌, ◌≢◌, ℕ, List, None, Some, IsSome, IsFalse, is_some}
use Rattle.std.specs.Option.{ForSome}
use Rattle.px_compile.specs.Compiled.{IsCompiled, IsRefused}
use Rattle.px_core.specs.Fit.{IsFit}
use Rattle.px_core.specs.Plan.{Tree, tree_of, sites}
use Rattle.px_event.specs.declared.entry.Entry.{Entry}
use Rattle.px_event.specs.declared.named.NamedEntry.{NamedEntry}
use Rattle.px_exec.specs.Executive.{plan_of, IsTextOf, WasNamed}
use Rattle.px_exec.specs.Opening.{RunsAwayAt}
use Rattle.px_journal.specs.Damage.{Damaged}
use Rattle.px_journal.specs.Goes.{RisesWhere}
use Rattle.px_journal.specs.Journal.{IsSynced, IsUnwritten, IsUntouched}
use Rattle.px_journal.specs.Layout.{is_nothing, StandsAs}
use Rattle.px_ports.specs.Host.{Rose}
use Rattle.px_ports.specs.declared.disk.Disk
use Rattle.px_sem.specs.Log.{events_of}
use Rattle.px_sem.specs.Run.{run, started}
use Rattle.px_sem.specs.declared.stepper.Stepper
use Rattle.px_session.specs.declared.fault.ReopenFault.{ReopenFault}
use Rattle.px_session.specs.declared.fault.ReopenWhy.{ReopenWhy}
use Rattle.px_session.specs.declared.fault.ReopenWhy.TheVariants as reopening
use Rattle.px_session.specs.declared.reopening.Reopened.{Reopened}
use Rattle.px_syntax.specs.declared.fault.PlanFault.{PlanFault}
use Rattle.px_syntax.specs.declared.fault.PlanFault.TheVariants.{NoMemory as PlanOutOfMemory}
use Rattle.px_session.specs.Session.{IsBoundAtMost, IsNothing, IsOpening, StandsFor}

-- why a journal's text and history can't be run: the text is no plan, its start runs away, or this event is the first that
-- does
abbrev pub IsRunWhy : List ℕ → List Entry → ReopenWhy → Type 0
IsRunWhy text history reopening.PlanRefused = (fault : PlanFault) × (fault ≢ PlanOutOfMemory) × IsRefused text fault
IsRunWhy text history reopening.RunawayAtStart = (tree : Tree) × IsCompiled text tree × (started (sites tree) ≡ None)
IsRunWhy text history (reopening.Runaway at) = (tree : Tree) × IsCompiled text tree × RunsAwayAt (sites tree) history at
IsRunWhy text history reopening.NoMemory = Unit {0}
IsRunWhy text history why = ⊥

module _ {D : Type 0} (members : Disk.Ghosts D) where
  -- A SESSION THAT GOES ON: the disk stands for a text, which is a plan's, and for a history, which the executive has run.
  -- Nothing was written.
  pub record Reopens {S : Type 0} (runs : Stepper.Ghosts S) (name : List ℕ) (limit : ℕ) (old : D) (reopened : Reopened S D) : Type 0 where
    pub text : List ℕ
    pub ready : IsTextOf members reopened.exec text
    pub stands : StandsFor members old text reopened.exec.opening.history
    -- the journal is of the version that the disk has, with the entries found under the names that they have there
    pub found : List NamedEntry
    pub named : WasNamed members reopened.exec text found
    pub stands_named : ForSome (members.content old)
        (λ told. StandsAs reopened.exec.opening.journal.version told text found)
    pub compiled : IsCompiled text (tree_of reopened.plan)
    pub fit : IsFit (tree_of reopened.plan)
    pub nodes : plan_of runs reopened.exec ≡ sites (tree_of reopened.plan)
    pub settles : IsSome (run (sites (tree_of reopened.plan)) (events_of reopened.exec.opening.history))
    pub opening : IsOpening reopened.exec.opening.journal reopened.exec.opening.history limit reopened.exec
    pub untouched : IsUntouched members old reopened.exec.opening.journal.disk
    pub bound : members.bound_to reopened.exec.opening.journal.disk ≡ Some name
    pub faults : members.faults reopened.exec.opening.journal.disk ≡ members.faults old

  -- why no session goes on
  abbrev pub IsReopenWhy : D → D → ReopenWhy → Type 0
  IsReopenWhy old new reopening.NoJournal = IsNothing members old
  IsReopenWhy old new (reopening.Damaged at) =
      ForSome (members.content old) (λ told. IsFalse (is_nothing told) × Damaged told at)
  IsReopenWhy old new reopening.DiskFault = Rose (members.faults old) (members.faults new)
  IsReopenWhy old new reopening.NoMemory = Unit {0}
  IsReopenWhy old new why = (text : List ℕ) × (history : List Entry)
      × StandsFor members old text history × IsRunWhy text history why

  pub record IsNotReopened (name : List ℕ) (old : D) (fault : ReopenFault D) : Type 0 where
    pub why : IsReopenWhy old fault.disk fault.why
    -- nothing was written; but behind a failed call a read may give something else, and a crash leave more than one image
    pub unwritten : IsUnwritten members old fault.disk
    pub same : fault.why ≢ reopening.DiskFault → members.content fault.disk ≡ members.content old
    pub synced : fault.why ≢ reopening.DiskFault → IsSynced members fault.disk
    pub tells : is_some (members.content fault.disk) ≡ is_some (members.content old)
    pub bound : IsBoundAtMost members name fault.disk
    pub faults : RisesWhere (fault.why ≡ reopening.DiskFault) (members.faults old) (members.faults fault.disk)
