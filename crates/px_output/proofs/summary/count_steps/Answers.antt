use Rattle.std.proofs.Common.{◌+◌, sym, subst, IsSome}
use Rattle.px_value.proofs.General.{cut_at}
use Rattle.px_event.specs.declared.entry.Entry.{Entry}
use Rattle.px_sem.specs.Log.{events_of}
use Rattle.px_sem.specs.Run.{settled}
use Rattle.px_sem.specs.Stepper.{State}
use Rattle.px_output.proofs.Counting.{IsCounted, counted_at_start, counted_more, counted_to_end}
use Rattle.px_output.proofs.Telling.{IsNext, run_starts, left_settles}
use Rattle.px_output.proofs.summary.count_steps.Goals as goal

pub settle-requires-clause-settles : goal.settle-requires-clause-settles
settle-requires-clause-settles g c =
    let from : State = g.S.Stepper.state c.args.stepper.now in
    subst (λ (x : State). IsSome (settled x.nodes x.world)) (sym c.rewind.ensures.fresh)
    (run_starts from.nodes (events_of c.args.history.now) c.requires.runs)

pub loop-entry-init : goal.loop-entry-init
loop-entry-init g c =
    let from : State = g.S.Stepper.state c.args.stepper.now in
    let now : State = g.S.Stepper.state c.settle.new.stepper in
    subst (IsCounted from.nodes c.args.history.now 0 now) (sym c.from-steps.ensures)
    (counted_at_start from.nodes c.args.history.now (g.S.Stepper.state c.rewind.new.self) now c.in_ok-settle.field-0 c.rewind.ensures.fresh
    c.in_ok-settle.ensures.settled c.in_ok-settle.ensures.rest c.in_ok-settle.ensures.few c.requires.runs)

pub settle-requires-in-loop-entry-clause-settles : goal.settle-requires-in-loop-entry-clause-settles
settle-requires-in-loop-entry-clause-settles g c =
    let plan = (g.S.Stepper.state c.args.stepper.now).nodes in
    let history = c.args.history.now in
    let index = c.loop-entry.entry-index in
    let entry : Entry = c.entry-item.result in
    let now : State = g.S.Stepper.state c.loop-entry.stepper in
    let begun : State = g.S.Stepper.state c.begin.new.self in
    let next : IsNext plan history index now begun entry = record {
      behind = cut_at history index entry c.loop-entry-test.true c.entry-item.is;
      rest = c.loop-entry.invariant.rest;
      begins = c.in_ok-begin.ensures.ok;
    } in
    left_settles plan history index now begun entry next c.loop-entry.invariant.runs

pub loop-entry-preserved : goal.loop-entry-preserved
loop-entry-preserved g c =
    let plan = (g.S.Stepper.state c.args.stepper.now).nodes in
    let history = c.args.history.now in
    let index = c.loop-entry.entry-index in
    let entry : Entry = c.entry-item.result in
    let now : State = g.S.Stepper.state c.loop-entry.stepper in
    let begun : State = g.S.Stepper.state c.begin.new.self in
    let next : IsNext plan history index now begun entry = record {
      behind = cut_at history index entry c.loop-entry-test.true c.entry-item.is;
      rest = c.loop-entry.invariant.rest;
      begins = c.in_ok-begin.ensures.ok;
    } in
    let after : State = g.S.Stepper.state c.settle-in-loop-entry.new.stepper in
    subst (λ count. IsCounted plan history (index + 1) after (c.loop-entry.steps + count)) (sym c.from.ensures)
    (counted_more plan history index now begun entry c.loop-entry.steps c.loop-entry.invariant next after c.in_ok-settle-2.field-0
    c.in_ok-settle-2.ensures.settled c.in_ok-settle-2.ensures.rest c.in_ok-settle-2.ensures.few)

pub returns : goal.returns
returns g c =
    counted_to_end (g.S.Stepper.state c.args.stepper.now).nodes c.args.history.now c.loop-entry.entry-index (g.S.Stepper.state c.loop-entry.stepper)
    c.loop-entry.steps c.loop-entry.invariant c.loop-entry-test.false
