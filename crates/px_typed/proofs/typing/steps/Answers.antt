use Rattle.px_typed.proofs.Steps.{step_typed}
use Rattle.px_typed.proofs.typing.steps.Goals as goal

pub returns : goal.returns
returns c = step_typed
