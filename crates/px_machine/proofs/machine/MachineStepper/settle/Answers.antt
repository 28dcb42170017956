use Rattle.std.proofs.Common.{◌≡◌, false, refl, sym, subst, ap}
use Rattle.px_parts.specs.declared.parts.Parts.{Parts}
use Rattle.px_sem.specs.World.{World}
use Rattle.px_machine.specs.declared.begun.Begun.{Begun}
use Rattle.px_machine.specs.declared.begun.Begun.TheVariants as begun
use Rattle.px_machine.specs.Begun.{IsMarkedFor, is_event}
use Rattle.px_machine.specs.Stepping.{IsReady}
use Rattle.px_machine.proofs.Readying.{marked_nothing, ready_still}
use Rattle.px_machine.proofs.machine.MachineStepper.settle.Goals as goal
use Rattle.px_machine.proofs.machine.MachineStepper.settle.Goals.{in-Event, in_default}

none_begun : (now : Begun) → ((heard : _) → now ≡ begun.Event heard → ⊥) → is_event now ≡ false
none_begun begun.Nothing other = refl
none_begun begun.Start other = refl
none_begun (begun.Event heard) other = absurd (other heard refl)

pub invariant_of-self : goal.invariant_of-self
invariant_of-self c =
    let machine = c.args.self.now in
    elim c.match-self.branch [
      | in-Event w ↦
          let is : c.match-self.self.1.0 ≡ w.commit.new.self = ap (λ self. self.1.0) w.self-is in
          let kept = w.commit.ensures in
          record {
            ready = subst (λ (parts : Parts). IsReady parts machine.kept) (sym is)
                (ready_still machine.parts w.commit.new.self machine.kept machine.ready kept.plan kept.seen kept.stand
                (ap (λ (world : World). world.reports) kept.world));
            marked = subst (IsMarkedFor begun.Nothing) (sym is) (marked_nothing begun.Nothing w.commit.new.self refl kept.unmarked);
          }
      | in_default w ↦
          let is : c.match-self.self.1.0 ≡ machine.parts = ap (λ self. self.1.0) w.self-is in
          record {
            ready = subst (λ (parts : Parts). IsReady parts machine.kept) (sym is) machine.ready;
            marked = subst (IsMarkedFor begun.Nothing) (sym is)
                (marked_nothing begun.Nothing machine.parts refl
                (machine.marked.unmarked (none_begun machine.begun w.in_default.not-Event)));
          }
    ]
