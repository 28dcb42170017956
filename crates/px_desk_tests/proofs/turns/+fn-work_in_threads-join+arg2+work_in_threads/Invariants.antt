use Rattle.std.proofs.Common.{◌+◌, ◌*◌}
use Rattle.px_desk_tests.proofs.turns.+fn-work_in_threads-join+arg2+work_in_threads.Given as goal

abbrev pub decreases-join+arg2 : goal.decreases-join+arg2
decreases-join+arg2 g l = 2 * l.others

abbrev pub decreases-work_in_threads : goal.decreases-work_in_threads
decreases-work_in_threads g l = 2 * l.others + 1
