use Rattle.std.proofs.Common.{List, subst, inr}
use Rattle.px_event.specs.declared.entry.Entry.{Entry}
use Rattle.px_exec.specs.Executive.{plan_of, world_of}
use Rattle.px_sem.specs.Asking.{IsMetBehind, IsUnmetBehind}
use Rattle.px_crew.proofs.Gathering.{wait_line, post_line}
use Rattle.px_crew.proofs.together.is_over.Goals as goal

pub returns-in-Wait-clause-over : goal.returns-in-Wait-clause-over
returns-in-Wait-clause-over g c holds =
    let exec = c.args.exec.now in
    let there = c.in-Some.ensures.lookup.3 in (
      c.in-Wait.cond,
      wait_line c.args.todo.now c.as_slice.result.now c.args.at c.in-Some.line.now c.in-Wait.cond c.as_slice.ensures there.0 (there.1 c.in-Some.line.now) c.in-Wait.is,
      subst (λ (history : List Entry). IsMetBehind (plan_of g.S.Stepper exec) history c.in-Wait.cond) c.keeps.ensures.grown
          (world_of g.S.Stepper exec, c.keeps.ensures.runs_to, c.holds.ensures.held holds),
    )

pub returns-in-Wait-clause-held : goal.returns-in-Wait-clause-held
returns-in-Wait-clause-held g c isnt waiting =
    let exec = c.args.exec.now in
    let there = c.in-Some.ensures.lookup.3 in
    inr (
      c.in-Wait.cond,
      wait_line c.args.todo.now c.as_slice.result.now c.args.at c.in-Some.line.now c.in-Wait.cond c.as_slice.ensures there.0 (there.1 c.in-Some.line.now) c.in-Wait.is,
      subst (λ (history : List Entry). IsUnmetBehind (plan_of g.S.Stepper exec) history c.in-Wait.cond) c.keeps.ensures.grown
          (world_of g.S.Stepper exec, c.keeps.ensures.runs_to, c.holds.ensures.missed isnt),
    )

pub returns-in-Post-clause-held : goal.returns-in-Post-clause-held
returns-in-Post-clause-held g c isnt waiting =
    let there = c.in-Some.ensures.lookup.3 in
    let exec = c.args.exec.now in
    post_line (plan_of g.S.Stepper exec) exec.opening.history exec.log c.args.todo.now c.as_slice.result.now c.args.at c.in-Some.line.now _ c.as_slice.ensures there.0 (there.1 c.in-Some.line.now) c.in-Post.is waiting
