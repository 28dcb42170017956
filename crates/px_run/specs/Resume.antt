-- What `resume` has come to: a session goes on with what the journal has left of the script.
use Rattle.std.specs.Prelude.{◌≡◌, ℕ, List}
use Rattle.px_core.specs.Plan.{Site}
use Rattle.px_event.specs.declared.entry.Entry.{Entry}
use Rattle.px_output.specs.View.{View}
use Rattle.px_ports.specs.declared.disk.Disk
use Rattle.px_script.specs.Fit.{IsFitScript}
use Rattle.px_script.specs.Remainder.{rest}
use Rattle.px_script.specs.declared.script.Script.{Script}
use Rattle.px_run.specs.Reading.{Reads}
use Rattle.px_run.specs.Journaled.{ResumeCalls}
use Rattle.px_run.specs.Kinds.{script_file}
use Rattle.px_run.specs.declared.finishing.Carried.{Carried}
use Rattle.px_run.specs.Finishing.{Carries}

-- what the script in a file has left behind a history
pub record IsLeft (plan : List Site) (name : List ℕ) (history : List Entry) (before now : View) (left : Script) : Type 0 where
  pub spelled : Script
  pub read : Reads (script_file plan) before now name spelled
  pub behind : left.threads ≡ rest spelled.threads history
  pub names : left.names ≡ spelled.names
  pub fit : IsFitScript left

module _ {D : Type 0} (members : Disk.Ghosts D) where
  abbrev pub ResumeCarries : List ℕ → List ℕ → ℕ → View → View → D → Carried D → Type 0
  ResumeCarries script journal limit before now old carried =
      Carries members journal (λ new. ResumeCalls members script limit before now old new) before now old carried
