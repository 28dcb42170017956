use Rattle.px_typed.proofs.Runs.{run_typed}
use Rattle.px_typed.proofs.typing.runs.Goals as goal

pub returns : goal.returns
returns c = run_typed
