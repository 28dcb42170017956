use Rattle.px_event.proofs.Equality.{event_eq-decides}
use Rattle.px_event.proofs.laws.event_equality.Goals as goal

pub returns : goal.returns
returns c = event_eq-decides c.args.a.now c.args.b.now
