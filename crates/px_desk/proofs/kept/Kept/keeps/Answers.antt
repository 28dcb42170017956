use Rattle.px_desk.proofs.Lists.{legal_listing}
use Rattle.px_desk.proofs.kept.Kept.keeps.Goals as goal

pub returns-clause-legal : goal.returns-clause-legal
returns-clause-legal g c =
    rw (← c.self.view_is, ← c.deref.ensures) (legal_listing g.S.Stepper g.D.Disk c.deref.result.now c.keeps.ensures)
