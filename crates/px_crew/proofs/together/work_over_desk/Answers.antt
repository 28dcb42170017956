use Rattle.std.proofs.Common.{◌≡◌, None, ap, sym, ◌∙◌, length, drop, subst, arith}
use Rattle.std.proofs.Crossing.{crosses}
use denote.Param.Send.{sendable}
use Rattle.std.proofs.lemmas.List.{take_at}
use Rattle.atomic_table.proofs.shared.Seat.TheSendSync as seats
use Rattle.px_exec.specs.Executive.{Executive, plan_of}
use Rattle.px_script.specs.Follows.{Follows}
use Rattle.px_script.proofs.Scripts.{few_threads, threads_differ}
use Rattle.px_desk.specs.EventDesk.{seating, opened_with, count_of, IsSeatOf}
use Rattle.px_crew.specs.Crew.{failed_entry}
use Rattle.px_crew.specs.Seat.{entry_in}
use Rattle.px_crew.proofs.Closing.{workers_count, ready_opened, own_closed, all_closed, rises, comes_closed}
use Rattle.px_crew.proofs.Gathering.{follows_of}
use Rattle.px_crew.proofs.Sending.{kept_send, desk_sync}
use Rattle.px_crew.proofs.together.work_over_desk.Goals as goal

pub returns-in_default-clause-comes : goal.returns-in_default-clause-comes
returns-in_default-clause-comes g c = (ap entry_in c.requires.open, follows_of _ _ _ c.args.script.now.threads c.args.places.now c.requires.at)

pub returns-in_default-with_capacity-clause-comes : goal.returns-in_default-with_capacity-clause-comes
returns-in_default-with_capacity-clause-comes g c = (ap entry_in c.requires.open, follows_of _ _ _ c.args.script.now.threads c.args.places.now c.requires.at)

pub returns-in-Err-clause-comes : goal.returns-in-Err-clause-comes
returns-in-Err-clause-comes g c =
    subst (λ (e : Executive g.row.S.Denot g.row.D.Denot). (failed_entry e ≡ None) × Follows (plan_of g.S.Stepper e) e.opening.history e.log c.args.script.now.threads)
    (sym c.in-Err.ensures.refused) (ap entry_in c.requires.open, follows_of _ _ _ c.args.script.now.threads c.args.places.now c.requires.at)

pub overflow_cast-count : goal.overflow_cast-count
overflow_cast-count g c = omega (arith, c.requires.at.same, few_threads c.args.script.now c.requires.fit)

pub open-requires-clause-most : goal.open-requires-clause-most
open-requires-clause-most g c = omega (arith, c.requires.at.same, few_threads c.args.script.now c.requires.fit)

pub work-end-requires-send-K-Seat : goal.work-end-requires-send-K-Seat
work-end-requires-send-K-Seat g c κs within = search (sendable, crosses, seats.the_send, kept_send) depth 20

pub work-end-requires-sync-K : goal.work-end-requires-sync-K
work-end-requires-sync-K g c κs within = search (sendable, crosses, desk_sync) depth 20

pub work-end-requires-clause-ready : goal.work-end-requires-clause-ready
work-end-requires-clause-ready g c κs within =
    let told = c.in-Ok-open.ensures in
    ready_opened g.S.Stepper c.args.exec (opened_with c.in-Ok-open.desk) told.desk.0 c.requires.open (IsSeatOf c.in-Ok-open.desk) seating c.args.script.now.threads
    c.in-Ok-open.seats.items c.args.places.now told.seats c.requires.at
    c.as_mut_slice.result.now (c.as_mut_slice.ensures.value ∙ c.engage-workers.ensures) told.own

pub release-seats-requires-clause-room : goal.release-seats-requires-clause-room
release-seats-requires-clause-room g c =
    let told = c.in-Ok-open.ensures in
    let count = workers_count g.S.Stepper c.args.exec (opened_with c.in-Ok-open.desk) told.desk.0 c.requires.open (IsSeatOf c.in-Ok-open.desk) seating c.args.script.now.threads
    c.in-Ok-open.seats.items c.args.places.now told.seats c.requires.at in
    omega (arith, count, c.requires.at.same, ap length c.engage-workers.ensures, c.engage-workers.result.ok.0, c.in-Ok-with_capacity.ensures.capacity)

pub release-seats-requires-clause-same : goal.release-seats-requires-clause-same
release-seats-requires-clause-same g c =
    let told = c.in-Ok-open.ensures in
    let count = workers_count g.S.Stepper c.args.exec (opened_with c.in-Ok-open.desk) told.desk.0 c.requires.open (IsSeatOf c.in-Ok-open.desk) seating c.args.script.now.threads
    c.in-Ok-open.seats.items c.args.places.now told.seats c.requires.at in
    omega (arith, count, c.requires.at.same, ap length c.engage-workers.ensures, c.engage-workers.result.ok.0)

pub close-requires-clause-own : goal.close-requires-clause-own
close-requires-clause-own g c =
    let told = c.in-Ok-open.ensures in
    let news = c.work-end.new.workers in
    let long : length news ≡ c.engage-workers.result.len = omega (arith, c.work-end.ensures.worked.same, ap length c.as_mut_slice.ensures.value, c.engage-workers.result.ok.0) in
    let gathered = take_at news (drop (length news) c.engage-workers.result.items) c.engage-workers.result.len long in
    own_closed g.S.Stepper c.args.exec (opened_with c.in-Ok-open.desk) told.desk.0 c.requires.open (IsSeatOf c.in-Ok-open.desk) seating c.args.script.now.threads
    c.in-Ok-open.seats.items c.args.places.now told.seats c.requires.at
    c.as_mut_slice.result.now (c.as_mut_slice.ensures.value ∙ c.engage-workers.ensures)
    news c.work-end.ensures.worked _ gathered c.release-seats.result.items c.release-seats.ensures.seats

pub close-requires-clause-all : goal.close-requires-clause-all
close-requires-clause-all g c =
    let told = c.in-Ok-open.ensures in
    let news = c.work-end.new.workers in
    let long : length news ≡ c.engage-workers.result.len = omega (arith, c.work-end.ensures.worked.same, ap length c.as_mut_slice.ensures.value, c.engage-workers.result.ok.0) in
    let gathered = take_at news (drop (length news) c.engage-workers.result.items) c.engage-workers.result.len long in
    all_closed g.S.Stepper c.args.exec (opened_with c.in-Ok-open.desk) told.desk.0 c.requires.open (IsSeatOf c.in-Ok-open.desk) seating c.args.script.now.threads
    c.in-Ok-open.seats.items c.args.places.now told.seats c.requires.at
    c.as_mut_slice.result.now (c.as_mut_slice.ensures.value ∙ c.engage-workers.ensures)
    news c.work-end.ensures.worked _ gathered c.release-seats.result.items c.release-seats.ensures.seats (count_of c.in-Ok-open.desk) told.all

pub returns-in-Ok-open-clause-rise : goal.returns-in-Ok-open-clause-rise
returns-in-Ok-open-clause-rise g c =
    let told = c.in-Ok-open.ensures in
    let news = c.work-end.new.workers in
    let long : length news ≡ c.engage-workers.result.len = omega (arith, c.work-end.ensures.worked.same, ap length c.as_mut_slice.ensures.value, c.engage-workers.result.ok.0) in
    let gathered = take_at news (drop (length news) c.engage-workers.result.items) c.engage-workers.result.len long in
    rises g.S.Stepper c.args.exec (opened_with c.in-Ok-open.desk) told.desk.0 c.requires.open (IsSeatOf c.in-Ok-open.desk) seating c.args.script.now.threads
    c.in-Ok-open.seats.items c.args.places.now told.seats c.requires.at
    c.as_mut_slice.result.now (c.as_mut_slice.ensures.value ∙ c.engage-workers.ensures)
    news c.work-end.ensures.worked _ gathered c.release-seats.result.items c.release-seats.ensures.seats
    c.release-seats.new.places c.release-seats.ensures.places

pub returns-in-Ok-open-clause-comes : goal.returns-in-Ok-open-clause-comes
returns-in-Ok-open-clause-comes g c =
    let told = c.in-Ok-open.ensures in
    let news = c.work-end.new.workers in
    let long : length news ≡ c.engage-workers.result.len = omega (arith, c.work-end.ensures.worked.same, ap length c.as_mut_slice.ensures.value, c.engage-workers.result.ok.0) in
    let gathered = take_at news (drop (length news) c.engage-workers.result.items) c.engage-workers.result.len long in
    comes_closed g.S.Stepper c.args.exec (opened_with c.in-Ok-open.desk) told.desk.0 c.requires.open (IsSeatOf c.in-Ok-open.desk) seating c.args.script.now.threads
    c.in-Ok-open.seats.items c.args.places.now told.seats c.requires.at
    c.as_mut_slice.result.now (c.as_mut_slice.ensures.value ∙ c.engage-workers.ensures)
    news c.work-end.ensures.worked _ gathered c.release-seats.result.items c.release-seats.ensures.seats
    c.release-seats.new.places c.release-seats.ensures.places c.close.result c.close.ensures.opening
    (λ i j d in_i in_j other. threads_differ c.args.script.now i j d d c.requires.fit in_i in_j other) c.close.ensures.whole c.work-end.result c.work-end.ensures.comes
