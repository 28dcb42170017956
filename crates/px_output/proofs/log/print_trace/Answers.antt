use Rattle.std.proofs.Common.{◌≡◌, ◌+◌, ◌++◌, ◌∙◌, drop, ap, sym, subst, refl, IsSome, Err, append_assoc}
use Rattle.px_value.proofs.General.{cut_at}
use Rattle.px_event.specs.declared.entry.Entry.{Entry}
use Rattle.px_sem.specs.Log.{events_of}
use Rattle.px_sem.specs.Run.{settled, started, posted, settled_world}
use Rattle.px_sem.specs.Stepper.{State, with_event}
use Rattle.px_sem.specs.Text.{start_text, heading_text, settled_text, events_trace}
use Rattle.px_sem.specs.World.{initial_world}
use Rattle.px_output.specs.Printing.{Buffers, Prints}
use Rattle.px_output.specs.View.{view}
use Rattle.px_output.proofs.Printed.{goes_on, only_more, wants_memory, fails, fails_first}
use Rattle.px_output.proofs.Telling.{IsNext, run_starts, start_is, told_at_start, next_settles, event_left, told_more, told_to_end}
use Rattle.px_output.proofs.log.print_trace.Goals as goal

pub returns-in_err-start-clause-prints : goal.returns-in_err-start-clause-prints
returns-in_err-start-clause-prints g c =
    let plan = (g.S.Stepper.state c.args.stepper.now).nodes in
    fails_first Unit (view g.H.Host c.args.host.now) (view g.H.Host c.start.new.host) c.args.printer.now c.start.new.self _ start_text
    (settled_text plan (initial_world plan) ++ events_trace plan 1 (settled_world (started plan)) c.args.history.now) _ _ _ c.from_residual.ensures.1
    c.in_err-start.ensures.prints (start_is plan c.args.history.now)

pub print_settling-requires-clause-settles : goal.print_settling-requires-clause-settles
print_settling-requires-clause-settles g c =
    let from : State = g.S.Stepper.state c.args.stepper.now in
    subst (λ (x : State). IsSome (settled x.nodes x.world)) (sym c.requires.fresh)
    (run_starts from.nodes (events_of c.args.history.now) c.requires.runs)

pub returns-in_err-print_settling-clause-prints : goal.returns-in_err-print_settling-clause-prints
returns-in_err-print_settling-clause-prints g c =
    let from : State = g.S.Stepper.state c.args.stepper.now in
    let world : from.world ≡ initial_world from.nodes = ap (λ (x : State). x.world) c.requires.fresh in
    fails Unit (view g.H.Host c.args.host.now) (view g.H.Host c.start.new.host) (view g.H.Host c.print_settling.new.host) c.args.printer.now
    c.start.new.self c.print_settling.new.printer _ start_text (settled_text from.nodes from.world)
    (events_trace from.nodes 1 (settled_world (started from.nodes)) c.args.history.now) _ _ _ c.from_residual-in_err-print_settling.ensures.1
    c.in_ok-start.ensures.prints c.in_ok-start.ensures.only c.in_err-print_settling.ensures.prints
    (start_is from.nodes c.args.history.now
    ∙ ap (λ w. start_text ++ (settled_text from.nodes w ++ events_trace from.nodes 1 (settled_world (started from.nodes)) c.args.history.now)) (sym world))

pub loop-entry-init : goal.loop-entry-init
loop-entry-init g c =
    let from : State = g.S.Stepper.state c.args.stepper.now in record {
      told = told_at_start from.nodes c.args.history.now from (g.S.Stepper.state c.print_settling.new.stepper) (view g.H.Host c.args.host.now)
          (view g.H.Host c.start.new.host) (view g.H.Host c.print_settling.new.host) c.args.printer.now c.start.new.self c.print_settling.new.printer
          c.requires.fresh c.in_ok-start.ensures.prints c.in_ok-start.ensures.only
          (c.in_ok-print_settling.ensures.settled, c.in_ok-print_settling.ensures.rest)
          c.in_ok-print_settling.ensures.prints c.in_ok-print_settling.ensures.only;
      counted = refl;
    }

pub returns-in_err-heading-clause-prints : goal.returns-in_err-heading-clause-prints
returns-in_err-heading-clause-prints g c =
    let plan = (g.S.Stepper.state c.args.stepper.now).nodes in
    let history = c.args.history.now in
    let index = c.loop-entry.entry-index in
    let entry : Entry = c.entry-item.result in
    let now : State = g.S.Stepper.state c.loop-entry.stepper in
    let told = c.loop-entry.invariant.told in
    let begun : State = with_event now entry.event in
    let next : IsNext plan history index now begun entry = record {
      behind = cut_at history index entry c.loop-entry-test.true c.entry-item.is;
      rest = told.rest;
      begins = refl;
    } in
    fails Unit (view g.H.Host c.args.host.now) (view g.H.Host c.loop-entry.host) (view g.H.Host c.heading.new.host) c.args.printer.now
    c.loop-entry.printer c.heading.new.self _ told.told (heading_text (index + 1) entry)
    (settled_text begun.nodes begun.world ++ events_trace plan (index + 1 + 1) (settled_world (posted plan now.world entry.event)) (drop (index + 1) history))
    _ _ _ c.from_residual-in_err-heading.ensures.1 told.buffers told.only
    (subst (λ k. Prints {T = Unit} (view g.H.Host c.loop-entry.host) c.loop-entry.printer (view g.H.Host c.heading.new.host) c.heading.new.self
    (heading_text (k + 1) entry) (Err c.in_err-heading.field-0.0)) c.loop-entry.invariant.counted c.in_err-heading.ensures.prints)
    (event_left plan history index now begun (view g.H.Host c.args.host.now) (view g.H.Host c.loop-entry.host) c.args.printer.now
    c.loop-entry.printer entry told next)

pub returns-in_err-begin-clause-prints : goal.returns-in_err-begin-clause-prints
returns-in_err-begin-clause-prints g c =
    let plan = (g.S.Stepper.state c.args.stepper.now).nodes in
    let history = c.args.history.now in
    let index = c.loop-entry.entry-index in
    let entry : Entry = c.entry-item.result in
    let now : State = g.S.Stepper.state c.loop-entry.stepper in
    let told = c.loop-entry.invariant.told in
    let begun : State = with_event now entry.event in
    let next : IsNext plan history index now begun entry = record {
      behind = cut_at history index entry c.loop-entry-test.true c.entry-item.is;
      rest = told.rest;
      begins = refl;
    } in
    let later = settled_text begun.nodes begun.world ++ events_trace plan (index + 1 + 1) (settled_world (posted plan now.world entry.event)) (drop (index + 1) history) in
    let heading = heading_text (index + 1) entry in
    wants_memory (view g.H.Host c.args.host.now) (view g.H.Host c.heading.new.host) c.args.printer.now c.heading.new.self _
    (told.told ++ heading) later _ _ c.from_residual-in_err-begin.ensures.1
    (goes_on (view g.H.Host c.args.host.now) (view g.H.Host c.loop-entry.host) (view g.H.Host c.heading.new.host) c.args.printer.now
    c.loop-entry.printer c.heading.new.self told.told heading told.buffers (subst (λ k. Buffers (view g.H.Host c.loop-entry.host) c.loop-entry.printer (view g.H.Host c.heading.new.host) c.heading.new.self
    (heading_text (k + 1) entry)) c.loop-entry.invariant.counted c.in_ok-heading.ensures.prints))
    (event_left plan history index now begun (view g.H.Host c.args.host.now) (view g.H.Host c.loop-entry.host) c.args.printer.now
    c.loop-entry.printer entry told next ∙ sym (append_assoc told.told heading later))

pub print_settling-requires-in-loop-entry-clause-settles : goal.print_settling-requires-in-loop-entry-clause-settles
print_settling-requires-in-loop-entry-clause-settles g c =
    let plan = (g.S.Stepper.state c.args.stepper.now).nodes in
    let history = c.args.history.now in
    let index = c.loop-entry.entry-index in
    let entry : Entry = c.entry-item.result in
    let now : State = g.S.Stepper.state c.loop-entry.stepper in
    let told = c.loop-entry.invariant.told in
    let begun : State = g.S.Stepper.state c.begin.new.self in
    let next : IsNext plan history index now begun entry = record {
      behind = cut_at history index entry c.loop-entry-test.true c.entry-item.is;
      rest = told.rest;
      begins = c.in_ok-begin.ensures.ok;
    } in
    next_settles plan history index now begun (view g.H.Host c.args.host.now) (view g.H.Host c.loop-entry.host) c.args.printer.now
    c.loop-entry.printer entry told next c.requires.runs

pub returns-in_err-print_settling-2-clause-prints : goal.returns-in_err-print_settling-2-clause-prints
returns-in_err-print_settling-2-clause-prints g c =
    let plan = (g.S.Stepper.state c.args.stepper.now).nodes in
    let history = c.args.history.now in
    let index = c.loop-entry.entry-index in
    let entry : Entry = c.entry-item.result in
    let now : State = g.S.Stepper.state c.loop-entry.stepper in
    let told = c.loop-entry.invariant.told in
    let begun : State = g.S.Stepper.state c.begin.new.self in
    let next : IsNext plan history index now begun entry = record {
      behind = cut_at history index entry c.loop-entry-test.true c.entry-item.is;
      rest = told.rest;
      begins = c.in_ok-begin.ensures.ok;
    } in
    let heading = heading_text (index + 1) entry in
    let steps = settled_text begun.nodes begun.world in
    let later = events_trace plan (index + 1 + 1) (settled_world (posted plan now.world entry.event)) (drop (index + 1) history) in
    fails Unit (view g.H.Host c.args.host.now) (view g.H.Host c.heading.new.host) (view g.H.Host c.print_settling-in-loop-entry.new.host)
    c.args.printer.now c.heading.new.self c.print_settling-in-loop-entry.new.printer _ (told.told ++ heading) steps later _ _ _
    c.from_residual-in_err-print_settling-2.ensures.1
    (goes_on (view g.H.Host c.args.host.now) (view g.H.Host c.loop-entry.host) (view g.H.Host c.heading.new.host) c.args.printer.now
    c.loop-entry.printer c.heading.new.self told.told heading told.buffers (subst (λ k. Buffers (view g.H.Host c.loop-entry.host) c.loop-entry.printer (view g.H.Host c.heading.new.host) c.heading.new.self
    (heading_text (k + 1) entry)) c.loop-entry.invariant.counted c.in_ok-heading.ensures.prints))
    (only_more (view g.H.Host c.args.host.now) (view g.H.Host c.loop-entry.host) (view g.H.Host c.heading.new.host) told.only c.in_ok-heading.ensures.only)
    c.in_err-print_settling-2.ensures.prints
    (event_left plan history index now begun (view g.H.Host c.args.host.now) (view g.H.Host c.loop-entry.host) c.args.printer.now
    c.loop-entry.printer entry told next ∙ sym (append_assoc told.told heading (steps ++ later)))

pub loop-entry-preserved : goal.loop-entry-preserved
loop-entry-preserved g c =
    let plan = (g.S.Stepper.state c.args.stepper.now).nodes in
    let history = c.args.history.now in
    let index = c.loop-entry.entry-index in
    let entry : Entry = c.entry-item.result in
    let now : State = g.S.Stepper.state c.loop-entry.stepper in
    let told = c.loop-entry.invariant.told in
    let begun : State = g.S.Stepper.state c.begin.new.self in
    let next : IsNext plan history index now begun entry = record {
      behind = cut_at history index entry c.loop-entry-test.true c.entry-item.is;
      rest = told.rest;
      begins = c.in_ok-begin.ensures.ok;
    } in
    record {
      told = told_more plan history index now begun (g.S.Stepper.state c.print_settling-in-loop-entry.new.stepper) (view g.H.Host c.args.host.now)
          (view g.H.Host c.loop-entry.host) (view g.H.Host c.heading.new.host) (view g.H.Host c.print_settling-in-loop-entry.new.host)
          c.args.printer.now c.loop-entry.printer c.heading.new.self c.print_settling-in-loop-entry.new.printer entry told next
          (subst (λ k. Buffers (view g.H.Host c.loop-entry.host) c.loop-entry.printer (view g.H.Host c.heading.new.host) c.heading.new.self
          (heading_text (k + 1) entry)) c.loop-entry.invariant.counted c.in_ok-heading.ensures.prints) c.in_ok-heading.ensures.only
          (c.in_ok-print_settling-2.ensures.settled, c.in_ok-print_settling-2.ensures.rest)
          c.in_ok-print_settling-2.ensures.prints c.in_ok-print_settling-2.ensures.only;
      counted = ap (λ n. n + 1) c.loop-entry.invariant.counted;
    }

pub returns-clause-runs : goal.returns-clause-runs
returns-clause-runs g c = (
  (told_to_end (g.S.Stepper.state c.args.stepper.now).nodes c.args.history.now c.loop-entry.entry-index (g.S.Stepper.state c.loop-entry.stepper)
      (view g.H.Host c.args.host.now) (view g.H.Host c.loop-entry.host) c.args.printer.now c.loop-entry.printer c.loop-entry.invariant.told
      c.loop-entry-test.false).0,
  c.loop-entry.invariant.told.rest,
)

pub returns-clause-prints : goal.returns-clause-prints
returns-clause-prints g c =
    (told_to_end (g.S.Stepper.state c.args.stepper.now).nodes c.args.history.now c.loop-entry.entry-index (g.S.Stepper.state c.loop-entry.stepper)
    (view g.H.Host c.args.host.now) (view g.H.Host c.loop-entry.host) c.args.printer.now c.loop-entry.printer c.loop-entry.invariant.told
    c.loop-entry-test.false).1
