use Rattle.std.proofs.Common.{length}
use Rattle.px_core.proofs.defaults.+each_finished.Given as goal

abbrev pub decreases-each_finished : goal.decreases-each_finished
decreases-each_finished l = length l.paths.now
