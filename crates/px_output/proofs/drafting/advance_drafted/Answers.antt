use Rattle.std.proofs.Common.{[], subst}
use Rattle.px_sem.specs.Stepper.{State}
use Rattle.px_sem.specs.Text.{settled_text}
use Rattle.px_output.specs.Drafts.{Keeps}
use Rattle.px_output.proofs.Drafted.{keeps_none}
use Rattle.px_output.proofs.drafting.advance_drafted.Goals as goal

pub returns-in_err-begin-clause-behind : goal.returns-in_err-begin-clause-behind
returns-in_err-begin-clause-behind g c = ([], keeps_none c.args.draft.now)

pub returns-in-Ok-clause-keeps : goal.returns-in-Ok-clause-keeps
returns-in-Ok-clause-keeps g c =
    subst (λ (s : State). Keeps c.args.draft.now c.step_until_quiet.new.draft (settled_text s.nodes s.world)) c.in_ok-begin.ensures.ok
    c.in-Ok.ensures.keeps
