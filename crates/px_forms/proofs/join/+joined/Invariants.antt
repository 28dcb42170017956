use Rattle.std.proofs.Common.{length}
use Rattle.px_forms.proofs.join.+joined.Given as goal

abbrev pub decreases-joined : goal.decreases-joined
decreases-joined l = length l.paths.now
