-- What a text is on its way: some of it emitted, and the rest in the buffer.
use Rattle.std.specs.Prelude.{◌≡◌, ◌<◌, ℕ, List, ◌++◌, length, Result, Ok, Err, OnOk}
use Rattle.px_core.specs.Plan.{Site}
use Rattle.px_ports.specs.Host.{Emits}
use Rattle.px_ports.specs.declared.host.Host
use Rattle.px_sem.specs.World.{World}
use Rattle.px_sem.specs.Run.{steps_until_quiet}
use Rattle.px_sem.specs.Text.{steps_text}
use Rattle.px_output.specs.declared.printer.PrintFault.{PrintFault}
use Rattle.px_output.specs.declared.printer.PrintFault.TheVariants.{SinkFailed, NoMemory}
use Rattle.px_output.specs.View.{View, view, Faulted, OnlyPrints}

-- Of what the buffer held and of the text behind it a front was emitted, and this rest is still to come.
abbrev pub Buffers : View → List ℕ → View → List ℕ → List ℕ → Type 0
Buffers old buffer new rest text =
    (front : List ℕ) × (buffer ++ text ≡ front ++ rest) × Emits old.emitted new.emitted front

-- The text is printed, and the buffer holds what of it is still to come. Else a front of it was emitted, because the sink
-- failed or memory was wanting.
abbrev pub Prints : {T : Type 0} → View → List ℕ → View → List ℕ → List ℕ → Result T PrintFault → Type 0
Prints old buffer new rest text (Ok answer) = Buffers old buffer new rest text
Prints old buffer new rest text (Err SinkFailed) = ((left : List ℕ) × Buffers old buffer new left text) × Faulted old new
Prints old buffer new rest text (Err NoMemory) = (left : List ℕ) × Buffers old buffer new left text

-- A CALL OF A PRINTER prints a text behind what it held, and holds less than a piece then. Where all of it stays below a piece
-- it is gathered: no call of the host is made, so that only memory can be wanting.
pub record Gathers {H : Type 0} (members : Host.Ghosts H) (old : H) (held : List ℕ) (new : H) (holds text : List ℕ)
    (result : Result Unit PrintFault) : Type 0 where
  pub prints : Prints (view members old) held (view members new) holds text result
  pub short : OnOk result (length holds < 65536)
  pub only : OnlyPrints (view members old) (view members new)
  pub waits : length (held ++ text) < 65536 → (new ≡ old) × OnOk result (holds ≡ held ++ text)

-- the text of the micro steps until the world is quiet
abbrev pub run_text : List Site → World → List ℕ
run_text plan world = steps_text plan world (steps_until_quiet plan world)
