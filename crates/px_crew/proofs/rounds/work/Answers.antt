use Rattle.std.proofs.Common.{List, length, ◌∙◌, ◌<◌, ◌^◌, sym, subst, arith}
use Rattle.std.specs.List.{sum_by}
use Rattle.px_script.specs.declared.todo.Todo.{Todo}
use Rattle.px_crew.specs.Standstill.{IsStandstill}
use Rattle.px_crew.specs.Work.{places_of}
use Rattle.px_script.proofs.Scripts.{few_threads, counts_fit}
use Rattle.px_crew.proofs.Working.{none_come, are_ready, have_worked, have_come, places_rise, are_held, comes_still}
use Rattle.px_crew.proofs.rounds.work.Goals as goal

pub line_count-lines-requires : goal.line_count-lines-requires
line_count-lines-requires g c =
    subst (λ (threads : List Todo). sum_by (λ (todo : Todo). length todo.lines) threads < 2 ^ 64) (sym c.as_slice.ensures) (counts_fit c.args.script.now c.requires.fit)

pub loop-workers-init : goal.loop-workers-init
loop-workers-init g c = none_come _ _ _ c.args.script.now.threads c.args.workers.now c.requires.ready

pub passed-before-requires : goal.passed-before-requires
passed-before-requires g c = omega (arith, c.loop-workers.invariant.same, c.requires.ready.same, few_threads c.args.script.now c.requires.fit)

pub passed-now-requires : goal.passed-now-requires
passed-now-requires g c = omega (arith, c.round.ensures.same, c.loop-workers.invariant.same, c.requires.ready.same, few_threads c.args.script.now c.requires.fit)

pub round-requires-clause-ready : goal.round-requires-clause-ready
round-requires-clause-ready g c κs within = are_ready _ _ _ c.args.script.now.threads c.args.workers.now c.loop-workers.workers c.requires.ready.same c.loop-workers.invariant

pub returns-in-Disk-clause-worked : goal.returns-in-Disk-clause-worked
returns-in-Disk-clause-worked g c = have_worked _ _ _ c.args.script.now.threads c.args.workers.now c.loop-workers.workers c.round.new.workers c.loop-workers.invariant c.round.ensures

pub returns-in-NoMemory-clause-worked : goal.returns-in-NoMemory-clause-worked
returns-in-NoMemory-clause-worked g c = have_worked _ _ _ c.args.script.now.threads c.args.workers.now c.loop-workers.workers c.round.new.workers c.loop-workers.invariant c.round.ensures

pub returns-then-now-before-clause-worked : goal.returns-then-now-before-clause-worked
returns-then-now-before-clause-worked g c = have_worked _ _ _ c.args.script.now.threads c.args.workers.now c.loop-workers.workers c.round.new.workers c.loop-workers.invariant c.round.ensures

pub returns-then-now-before-clause-comes : goal.returns-then-now-before-clause-comes
returns-then-now-before-clause-comes g c =
    let threads = c.args.script.now.threads in
    let all = have_worked _ _ _ threads c.args.workers.now c.loop-workers.workers c.round.new.workers c.loop-workers.invariant c.round.ensures in
    comes_still (g.K.Desk.start c.args.desk.now) (g.K.Desk.fits c.args.desk.now) g.K.Desk.seating threads c.round.new.workers c.standstill.result (all.same ∙ c.requires.ready.same) c.in-Going.ensures
    (are_held (g.K.Desk.start c.args.desk.now) (g.K.Desk.fits c.args.desk.now) g.K.Desk.seating threads c.args.workers.now c.round.new.workers c.requires.ready.same all c.in-Going.ensures)
    (subst (λ (threads : List Todo). IsStandstill threads (places_of c.round.new.workers) c.standstill.result) c.as_slice-then-now-before.ensures c.standstill.ensures)

pub loop-workers-smaller : goal.loop-workers-smaller
loop-workers-smaller g c =
    omega (
      arith,
      c.if-now-before.false,
      c.passed-before.ensures,
      c.passed-now.ensures,
      c.passed-now.type_inv,
      places_rise _ _ _ c.args.script.now.threads c.loop-workers.workers c.round.new.workers (c.loop-workers.invariant.same ∙ c.requires.ready.same) c.round.ensures,
    )

pub loop-workers-preserved : goal.loop-workers-preserved
loop-workers-preserved g c =
    have_come _ _ _ c.args.script.now.threads c.args.workers.now c.round.new.workers c.requires.ready.same
    (have_worked _ _ _ c.args.script.now.threads c.args.workers.now c.loop-workers.workers c.round.new.workers c.loop-workers.invariant c.round.ensures) c.in-Going.ensures
