use Rattle.px_core.proofs.SitePaths.{paths_differ}
use Rattle.px_core.proofs.laws.paths.Goals as goal

pub returns : goal.returns
returns c = λ tree siblings named. paths_differ tree siblings named
