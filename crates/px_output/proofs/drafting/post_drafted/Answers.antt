use Rattle.std.proofs.Common.{◌+◌, List, ℕ, [], ◌++◌, ap, sym, subst}
use Rattle.px_sem.specs.Stepper.{State}
use Rattle.px_sem.specs.Text.{heading_text}
use Rattle.px_sem.proofs.Settles.{settled_quiet}
use Rattle.px_output.specs.Drafts.{Keeps}
use Rattle.px_output.proofs.Drafted.{keeps_more, taken_back}
use Rattle.px_output.proofs.drafting.post_drafted.Goals as goal

pub settle-requires-clause-quiet : goal.settle-requires-clause-quiet
settle-requires-clause-quiet g c =
    settled_quiet _ _ (g.S.Stepper.state c.advance_drafted.new.stepper) _ (ap (λ (s : State). s.nodes) c.in-Ok.ensures.pending) c.in-Ok.ensures.settled.1

pub returns-in-Ok-clause-keeps : goal.returns-in-Ok-clause-keeps
returns-in-Ok-clause-keeps g c =
    keeps_more c.args.draft.now c.heading.new.self c.advance_drafted.new.draft _ _ c.heading.ensures c.in-Ok.ensures.keeps

pub returns-in-Runaway-clause-keeps : goal.returns-in-Runaway-clause-keeps
returns-in-Runaway-clause-keeps g c =
    let behind = c.advance_drafted.ensures.behind in
    let heading : List ℕ = heading_text (c.args.count + 1) c.args.entry.now in
    subst (λ draft. Keeps c.args.draft.now draft []) (sym c.truncate.ensures)
    (taken_back c.args.draft.now c.advance_drafted.new.draft (heading ++ behind.0) c.len-len.result c.len-len.ensures
    (keeps_more c.args.draft.now c.heading.new.self c.advance_drafted.new.draft heading behind.0 c.heading.ensures behind.1))
