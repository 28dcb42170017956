use Rattle.std.proofs.Common.{◌∙◌, ap}
use Rattle.px_session.proofs.Closed.{closes}
use Rattle.px_session.proofs.posting.close.Goals as goal

pub returns : goal.returns
returns g c = λ opened threads same ends.
    closes g.S.Stepper g.D.Disk opened c.args.exec g.met.D.Disk.reads_are_left c.keeps.ensures same threads _ ends
    (c.into_disk.ensures ∙ ap (λ j. j.disk) c.into_parts-stepper.ensures.journal)
    c.into_parts-stepper.ensures.stepper c.into_parts-stepper.ensures.history c.into_parts-stepper.ensures.log
