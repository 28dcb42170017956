use Rattle.std.proofs.Common.{refl, sym, subst}
use Rattle.std.proofs.lemmas.Option.{IfSome_then}
use Rattle.px_parts.specs.Marks.{marked_world}
use Rattle.px_machine.specs.declared.begun.Begun.TheVariants as begun
use Rattle.px_machine.specs.Begun.{IsUnderWay}
use Rattle.px_machine.proofs.Readying.{back_heard, heard_back, marked_nothing, ready_heard, some_event}
use Rattle.px_machine.proofs.machine.MachineStepper.give_up.Goals as goal

pub invariant_of-self : goal.invariant_of-self
invariant_of-self c =
    let machine = c.args.self.now in
    let back = c.rollback.ensures in
    let under_way : IsUnderWay machine.parts c.heard.result =
    subst (IsUnderWay machine.parts) (sym c.heard.ensures)
    (machine.marked.under_way (some_event machine.begun (marked_world machine.parts) c.requires.event)) in
    record {
      ready =
          ready_heard machine.parts c.rollback.new.self machine.kept c.hear.new.conditions c.heard.result machine.ready back.plan back.seen
          back.stand
          (IfSome_then c.heard.result c.hear.ensures.heard (λ lookup.
          heard_back machine.parts c.rollback.new.self machine.kept.conditions c.hear.new.conditions lookup back.world))
          c.hear.ensures.none
          (back_heard machine.parts c.rollback.new.self c.heard.result under_way back.world);
      marked = marked_nothing begun.Nothing c.rollback.new.self refl back.unmarked;
    }
