use Rattle.px_run.proofs.OverStops.{once, once_after}
use Rattle.px_run.proofs.laws.once_over_stops.Goals as goal

pub returns-clause-one_call : goal.returns-clause-one_call
returns-clause-one_call g c = λ words before now old new status script fit only headline tells was.
    once g.D.Disk g.met.D.Disk.reads_are_left script fit old new tells was words before now only status headline

pub returns-clause-calls : goal.returns-clause-calls
returns-clause-calls g c = λ script fit disk. once_after g.D.Disk g.met.D.Disk.reads_are_left script fit disk
