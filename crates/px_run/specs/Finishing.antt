-- What the commands with a journal have come to, and how the session of one ends.
use Rattle.std.specs.Prelude.{◌≡◌, ℕ, List, IsErrOf, is_some}
use Rattle.px_event.specs.declared.named.NamedEntry.{NamedEntry}
use Rattle.px_exec.specs.Executive.{Executive, plan_of, TellsBytes, WasNamed}
use Rattle.px_journal.specs.Goes.{Goes}
use Rattle.px_output.specs.View.{View}
use Rattle.px_ports.specs.declared.disk.Disk
use Rattle.px_script.specs.declared.todo.Todo.{Todo}
use Rattle.px_sem.specs.declared.stepper.Stepper
use Rattle.px_session.specs.Posting.{LeavesSession, LeavesNames as PostsLeaveNames}
use Rattle.px_session.specs.Session.{Session, IsBoundAtMost}
use Rattle.px_run.specs.Course.{Course, Due, Leaves}
use Rattle.px_run.specs.Journaled.{IsSession, DueBehind}
use Rattle.px_run.specs.Naming.{others_of}
use Rattle.px_run.specs.Stops.{Performs}
use Rattle.px_ending.specs.declared.refusal.Refusal.TheVariants as refusals
use Rattle.px_run.specs.declared.stop.Stop.TheVariants as stops
use Rattle.px_run.specs.declared.finishing.Carried.{Carried}
use Rattle.px_run.specs.declared.finishing.Telling.{Telling}

-- the command is refused because a call of the disk failed
abbrev pub IsDiskFault : {D : Type 0} → Carried D → Type 0
IsDiskFault carried = IsErrOf carried.result (stops.Refused refusals.DiskFault)

module _ {D : Type 0} (members : Disk.Ghosts D) where
  -- how a disk comes back: it tells its bytes as before, and its count of faults is as it was but behind such a refusal
  pub record ComesBack (old : D) (carried : Carried D) : Type 0 where
    pub tells : is_some (members.content carried.disk) ≡ is_some (members.content old)
    pub kept : ¬ IsDiskFault carried → members.faults carried.disk ≡ members.faults old

  -- A COMMAND WITH A JOURNAL has a course and performs what is due then; it leaves of the disk what that course does.
  pub record Carries (name : List ℕ) (Calls : D → Course → Due → Type 0) (before now : View) (old : D) (carried : Carried D) : Type 0 where
    pub course : Course
    pub performs : Performs before now (Calls carried.disk course) carried.result
    pub leaves : TellsBytes members old → Leaves members old carried.disk course
    pub bound : IsBoundAtMost members name carried.disk
    pub back : ComesBack old carried

  -- THE END OF A SESSION over this text, with these threads left: what is due behind it is performed
  pub record Finishes {S : Type 0} (runs : Stepper.Ghosts S) (telling : Telling) (text : List ℕ) (exec : Executive S D) (left : List Todo) (before now : View)
      (carried : Carried D) : Type 0 where
    pub session : Session
    pub is_session : IsSession (plan_of runs exec) text exec.opening.history exec.opening.limit left session
    pub performs : Performs before now (DueBehind members telling (plan_of runs exec) left session exec.opening.journal.disk carried.disk) carried.result
    pub leaves : TellsBytes members exec.opening.journal.disk → LeavesSession members session exec.opening.journal.disk carried.disk
    pub names : TellsBytes members exec.opening.journal.disk → (found : List NamedEntry) → WasNamed members exec text found
        → PostsLeaveNames members text found (others_of session) exec.opening.journal carried.disk
    pub goes : Goes members (IsDiskFault carried) exec.opening.journal.disk carried.disk
