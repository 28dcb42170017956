use Rattle.std.proofs.Common.{ap}
use Rattle.px_sem.specs.Stepper.{State}
use Rattle.px_sem.proofs.Settles.{settled_quiet}
use Rattle.px_sem.proofs.offering.offer.Goals as goal

pub returns-in-Ok-clause-settled : goal.returns-in-Ok-clause-settled
returns-in-Ok-clause-settled g c =
    settled_quiet _ _ (g.S.Stepper.state c.advance.new.self) _ (ap (λ (s : State). s.nodes) c.in-Ok.ensures.pending) c.in-Ok.ensures.settled
