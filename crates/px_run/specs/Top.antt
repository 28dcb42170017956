-- What a command has come to, whatever it is.
use Rattle.std.specs.Prelude.{Option}
use Rattle.px_exec.specs.Executive.{TellsBytes}
use Rattle.px_output.specs.View.{View}
use Rattle.px_ports.specs.declared.disk.Disk
use Rattle.px_run.specs.Course.{Course, Leaves}
use Rattle.px_words.specs.Words.{Command}
use Rattle.px_run.specs.Headline.{CommandCallsFor, IsBoundFor}
use Rattle.px_run.specs.Stops.{Performs}
use Rattle.px_run.specs.declared.finishing.Carried.{Carried}
use Rattle.px_run.specs.Finishing.{ComesBack}

module _ {D : Type 0} (members : Disk.Ghosts D) where
  pub record Performed (asked : Option Command) (before now : View) (old : D) (carried : Carried D) : Type 0 where
    pub course : Course
    pub performs : Performs before now (CommandCallsFor members asked before now old carried.disk course) carried.result
    pub leaves : TellsBytes members old → Leaves members old carried.disk course
    pub bound : IsBoundFor members asked carried.disk
    pub back : ComesBack members old carried
