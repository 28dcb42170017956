-- What the answers of the crates below mean for a session.
use Rattle.px_exec.specs.declared.fault.OpenWhy.{OpenWhy}
use Rattle.px_exec.specs.declared.fault.OpenWhy.TheVariants as opening
use Rattle.px_journal.specs.declared.fault.RecoverWhy.{RecoverWhy}
use Rattle.px_journal.specs.declared.fault.RecoverWhy.TheVariants as recovering
use Rattle.px_sem.specs.declared.settling.StepFault.{StepFault}
use Rattle.px_sem.specs.declared.settling.StepFault.TheVariants as steps
use Rattle.px_session.specs.declared.fault.ReopenWhy.{ReopenWhy}
use Rattle.px_session.specs.declared.fault.ReopenWhy.TheVariants as reopening
use Rattle.px_syntax.specs.declared.fault.PlanFault.{PlanFault}
use Rattle.px_syntax.specs.declared.fault.PlanFault.TheVariants as plans

abbrev pub of_recover : RecoverWhy → ReopenWhy
of_recover recovering.NoJournal = reopening.NoJournal
of_recover (recovering.Damaged at) = reopening.Damaged at
of_recover recovering.DiskFault = reopening.DiskFault
of_recover recovering.NoMemory = reopening.NoMemory

abbrev pub of_plan : PlanFault → ReopenWhy
of_plan plans.NoMemory = reopening.NoMemory
of_plan fault = reopening.PlanRefused

abbrev pub of_start : StepFault → ReopenWhy
of_start steps.Runaway = reopening.RunawayAtStart
of_start steps.NoMemory = reopening.NoMemory

abbrev pub of_open : OpenWhy → ReopenWhy
of_open (opening.Runaway at) = reopening.Runaway at
of_open opening.NoMemory = reopening.NoMemory
