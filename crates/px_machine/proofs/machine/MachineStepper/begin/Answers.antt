use Rattle.std.proofs.Common.{List, ap, sym, ◌∙◌}
use Rattle.std.proofs.lemmas.Bool.{false≢true}
use Rattle.std.proofs.lemmas.Option.{IfSome_then}
use Rattle.px_core.specs.Plan.{Site}
use Rattle.px_sem.specs.World.{World}
use Rattle.px_parts.specs.Marks.{marked_world}
use Rattle.px_parts.specs.declared.parts.Parts.{Parts}
use Rattle.px_machine.specs.declared.begun.Begun.TheVariants as begun
use Rattle.px_machine.specs.Begun.{IsMarkedFor}
use Rattle.px_machine.specs.Hearing.{heard_by}
use Rattle.px_machine.specs.Stepping.{IsReady}
use Rattle.px_machine.proofs.Readying.{heard_now, marked_nothing, marked_reports, no_event, only_heard, ready_heard, ready_still, relatched, seen_both, under_way, with_conditions}
use Rattle.px_machine.proofs.machine.MachineStepper.begin.Goals as goal

-- taken back
pub invariant_of-self : goal.invariant_of-self
invariant_of-self c =
    let machine = c.args.self.now in
    let middle = c.mark.new.self in
    let taken = c.take.new.self in
    let new = c.rollback.new.self in
    let back = c.rollback.ensures in
    let one = c.take.ensures.one_plan in
    record {
      ready =
          ready_still machine.parts new machine.kept machine.ready (back.plan ∙ one.plan ∙ c.mark.ensures.plan)
          (seen_both machine.parts taken new (seen_both machine.parts middle taken c.mark.ensures.seen c.take.ensures.seen) back.seen)
          back.stand (
          ap (λ (world : World). world.reports) back.world
          ∙ marked_reports machine.parts middle taken c.args.event.now c.mark.ensures.are_marked c.mark.ensures.marked
          c.mark.ensures.plan c.mark.ensures.world one
          );
      marked = marked_nothing machine.begun new (no_event machine.begun (marked_world machine.parts) c.requires.nothing) back.unmarked;
    }

-- begun
pub invariant_of-self-3 : goal.invariant_of-self-3
invariant_of-self-3 c =
    let machine = c.args.self.now in
    let middle = c.mark.new.self in
    let taken = c.take.new.self in
    let event = c.args.event.now in
    let mark = c.mark.ensures in
    let one = c.take.ensures.one_plan in
    let heard = c.heard_by-heard.ensures in
    record {
      ready =
          relatched (λ (parts : Parts). IsReady parts (with_conditions machine.kept c.hear.new.conditions)) taken _
          (ready_heard machine.parts taken machine.kept c.hear.new.conditions c.heard_by-heard.result machine.ready (one.plan ∙ mark.plan)
          (seen_both machine.parts middle taken mark.seen c.take.ensures.seen) c.in_default.ensures.stand
          (IfSome_then c.heard_by-heard.result c.hear.ensures.heard
          (heard_now machine.parts middle taken event mark.are_marked mark.marked mark.plan mark.world one _ machine.kept.conditions
          c.hear.new.conditions))
          c.hear.ensures.none (λ number tolerance within other.
          only_heard machine.parts middle taken event mark.are_marked mark.marked mark.plan mark.world one c.in_default.ensures.world number
          tolerance within
          (λ same. other (heard.heard ∙ ap (λ (sites : List Site). heard_by sites event) (one.plan ∙ mark.plan) ∙ same))));
      marked = relatched (IsMarkedFor (begun.Event c.heard_by-heard.result)) taken _ (record {
        unmarked = λ none. absurd (false≢true (sym none));
        under_way = λ _.
            under_way machine.parts middle taken event mark.are_marked mark.marked mark.plan mark.world one c.in_default.ensures.world
            c.heard_by-heard.result heard.heard heard.within;
      });
    }
