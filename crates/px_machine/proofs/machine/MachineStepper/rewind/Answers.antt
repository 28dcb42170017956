use Rattle.std.proofs.Common.{refl}
use Rattle.px_parts.specs.declared.parts.Parts.{Parts}
use Rattle.px_machine.specs.declared.begun.Begun.TheVariants as begun
use Rattle.px_machine.specs.Begun.{IsMarkedFor}
use Rattle.px_machine.specs.Stepping.{IsReady}
use Rattle.px_machine.proofs.Readying.{marked_nothing, ready_anew, relatched, with_conditions}
use Rattle.px_machine.proofs.machine.MachineStepper.rewind.Goals as goal

pub invariant_of-self-2 : goal.invariant_of-self-2
invariant_of-self-2 c =
    let machine = c.args.self.now in
    let back = c.rewind.ensures in
    record {
      ready =
          relatched (λ (parts : Parts). IsReady parts (with_conditions machine.kept c.touch_reports.new.self)) c.rewind.new.self _
          (ready_anew machine.parts c.rewind.new.self machine.kept c.touch_reports.new.self machine.ready back.plan back.seen back.stand
          c.touch_reports.ensures);
      marked = relatched (IsMarkedFor begun.Start) c.rewind.new.self _ (marked_nothing begun.Start c.rewind.new.self refl back.unmarked);
    }
