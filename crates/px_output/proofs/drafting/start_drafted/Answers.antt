use Rattle.std.proofs.Common.{sym, subst}
use Rattle.px_core.specs.Plan.{tree_of, sites}
use Rattle.px_sem.specs.Stepper.{State}
use Rattle.px_sem.specs.Text.{start_text, settled_text}
use Rattle.px_sem.specs.World.{initial_world}
use Rattle.px_output.specs.Drafts.{Keeps}
use Rattle.px_output.proofs.Drafted.{keeps_more, trace_of_start}
use Rattle.px_output.proofs.drafting.start_drafted.Goals as goal

pub returns-clause-keeps : goal.returns-clause-keeps
returns-clause-keeps g c =
    let plan = sites (tree_of c.args.plan.now) in
    subst (Keeps c.args.draft.now c.step_until_quiet.new.draft) (sym (trace_of_start plan))
    (keeps_more c.args.draft.now c.start.new.self c.step_until_quiet.new.draft start_text (settled_text plan (initial_world plan))
    c.start.ensures
    (subst (λ (s : State). Keeps c.start.new.self c.step_until_quiet.new.draft (settled_text s.nodes s.world)) c.in_ok-stepper.ensures.fresh
    c.in_ok-step_until_quiet.ensures.keeps))
