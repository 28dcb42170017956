use Rattle.px_sem.specs.Text.{steps_text}
use Rattle.px_sem.proofs.Settles.{IsUnderway}
use Rattle.px_output.specs.Drafts.{Keeps}
use Rattle.px_output.proofs.drafting.step_until_quiet.Given as goal

abbrev pub invariant-loop-taken : goal.invariant-loop-taken
invariant-loop-taken g l = record {
  underway : IsUnderway (g.S.Stepper.state l.fn.stepper) (g.S.Stepper.state l.stepper) l.taken;
  keeps : Keeps l.fn.draft l.draft (steps_text (g.S.Stepper.state l.fn.stepper).nodes (g.S.Stepper.state l.fn.stepper).world l.taken);
}
