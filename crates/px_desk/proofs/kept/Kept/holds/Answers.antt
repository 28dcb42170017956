use Rattle.std.proofs.Common.{List, sym, subst}
use Rattle.px_event.specs.declared.entry.Entry.{Entry}
use Rattle.px_exec.specs.Executive.{plan_of, world_of}
use Rattle.px_sem.specs.Asking.{IsMetBehind, IsUnmetBehind}
use Rattle.px_desk.proofs.Lists.{history_of_listing}
use Rattle.px_desk.proofs.kept.Kept.holds.Goals as goal

pub returns-clause-met : goal.returns-clause-met
returns-clause-met g c holds =
    let exec = c.as_ref-exec.result.now in
    rw (← c.self.view_is, ← c.as_ref-exec.ensures)
    (subst (λ (history : List Entry). IsMetBehind (plan_of g.S.Stepper exec) history c.args.cond.now)
    (sym (history_of_listing g.S.Stepper g.D.Disk exec c.keeps.ensures))
    (world_of g.S.Stepper exec, c.keeps.ensures.runs_to, c.holds.ensures.held holds))

pub returns-clause-unmet : goal.returns-clause-unmet
returns-clause-unmet g c isnt =
    let exec = c.as_ref-exec.result.now in
    rw (← c.self.view_is, ← c.as_ref-exec.ensures)
    (subst (λ (history : List Entry). IsUnmetBehind (plan_of g.S.Stepper exec) history c.args.cond.now)
    (sym (history_of_listing g.S.Stepper g.D.Disk exec c.keeps.ensures))
    (world_of g.S.Stepper exec, c.keeps.ensures.runs_to, c.holds.ensures.missed isnt))
