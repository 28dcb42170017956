-- NO LINE TWICE OVER STOPS: what the images of a disk stand for, whatever sessions there were and wherever they stopped.
use Rattle.std.specs.Prelude.{◌≡◌, ◌⊎◌, ℕ, List, length, Some, IsTrue}
use Rattle.px_core.specs.Plan.{Site}
use Rattle.px_event.specs.declared.entry.Entry.{Entry}
use Rattle.px_exec.specs.Executive.{TellsBytes}
use Rattle.px_journal.specs.Layout.{is_nothing, Stands}
use Rattle.px_output.specs.View.{View}
use Rattle.px_ports.specs.Moment.{LeftSince}
use Rattle.px_ports.specs.declared.disk.Disk
use Rattle.px_script.specs.Soak.{soak_threads}
use Rattle.px_script.specs.Sound.{IsSoundFor}
use Rattle.px_script.specs.declared.script.Script.{Script}
use Rattle.px_script.specs.declared.todo.Todo.{Todo}
use Rattle.px_words.specs.Words.{Soak, command}
use Rattle.px_run.specs.Causes.{HasScript}
use Rattle.px_run.specs.Reading.{Reads}
use Rattle.px_run.specs.Headline.{Headline}
use Rattle.px_run.specs.Kinds.{script_file}

-- an image is nothing, or it stands for a text and a history that is sound for the script
abbrev pub IsSoundImage : List Todo → List ℕ → Type 0
IsSoundImage threads image =
    IsTrue (is_nothing image)
    ⊎ ((text : List ℕ) × (history : List Entry) × Stands image text history × IsSoundFor threads history)

-- wherever the call reads the script, it is this one; and so is that of a soak
abbrev pub ReadsOnly : List (List ℕ) → View → View → List Todo → Type 0
ReadsOnly words before now threads =
    ((name : List ℕ) → HasScript words name → (plan : List Site) (read : Script)
    → Reads (script_file plan) before now name read → read.threads ≡ threads)
    × ((count seed : ℕ) (journal : List ℕ) → command words ≡ Some (Soak count seed journal) → soak_threads count seed ≡ threads)

module _ {D : Type 0} (members : Disk.Ghosts D) where
  -- each image that a crash now may leave is sound
  abbrev pub AreSoundNow : List Todo → D → Type 0
  AreSoundNow threads disk = (image : List ℕ) → members.images (members.moments disk) image → IsSoundImage threads image

  -- each that a crash at a moment since may have left
  abbrev pub AreSoundSince : List Todo → D → D → Type 0
  AreSoundSince threads old new =
      (image : List ℕ) → LeftSince members.images (members.moments new) (length (members.moments old)) image
      → IsSoundImage threads image

  -- CALLS OVER ONE DISK, one after another, with one script: at first each image is nothing, and each call begins on a disk
  -- whose images the one before has left, at its end or where it was stopped
  pub data AfterCalls (threads : List Todo) : D → Type 0 where
    none :
        (disk : D) → ((image : List ℕ) → members.images (members.moments disk) image → IsTrue (is_nothing image))
        → AfterCalls threads disk
    one_more :
        (words : List (List ℕ)) (before now : View) (old new next : D) (status : ℕ) → AfterCalls threads old
        → TellsBytes members old → ReadsOnly words before now threads → Headline members words before now old new status
        → ((image : List ℕ) → members.images (members.moments next) image
        → LeftSince members.images (members.moments new) (length (members.moments old)) image)
        → AfterCalls threads next
