-- What is begun, with the settled world before it.
use Rattle.px_sem.specs.Stepper as stepper
use Rattle.px_sem.specs.World.{World}
use Rattle.px_naive.specs.declared.begun.Begun.{Begun}
use Rattle.px_naive.specs.declared.begun.Begun.TheVariants as begun

abbrev pub begun_in : Begun → World → stepper.Pending
begun_in begun.Nothing settled = stepper.Nothing
begun_in begun.Start settled = stepper.Start
begun_in begun.Event settled = stepper.Event settled
