-- What `names` has come to.
use Rattle.std.specs.Prelude.{ℕ, List}
use Rattle.px_output.specs.View.{View}
use Rattle.px_ports.specs.declared.disk.Disk
use Rattle.px_run.specs.Journaled.{NamesCalls}
use Rattle.px_run.specs.declared.finishing.Carried.{Carried}
use Rattle.px_run.specs.Finishing.{Carries}

module _ {D : Type 0} (members : Disk.Ghosts D) where
  abbrev pub NamesCarries : List ℕ → View → View → D → Carried D → Type 0
  NamesCarries journal before now old carried = Carries members journal (λ new. NamesCalls members old new) before now old carried
