use Rattle.px_typed.proofs.Events.{event_typed}
use Rattle.px_typed.proofs.typing.events.Goals as goal

pub returns : goal.returns
returns c = event_typed
