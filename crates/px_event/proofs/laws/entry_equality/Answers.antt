use Rattle.px_event.proofs.Equality.{entry_eq-decides}
use Rattle.px_event.proofs.laws.entry_equality.Goals as goal

pub returns : goal.returns
returns c = entry_eq-decides c.args.a.now c.args.b.now
