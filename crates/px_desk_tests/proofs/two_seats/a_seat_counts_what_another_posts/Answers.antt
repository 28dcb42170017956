use Rattle.std.proofs.Common.{map, ap, sym, subst, ◌∙◌, arith}
use Rattle.std.specs.Prelude.{slice_set}
use Rattle.px_sem.proofs.Logs.{run_started}
use Rattle.px_exec.specs.Answers.{entry_of}
use Rattle.px_naive.specs.contracts.naive.NaiveStepper.TheImpl as naive
use Rattle.px_turn.specs.Histories.{items}
use Rattle.px_desk.specs.EventDesk.{seating, opened_with, IsSeatOf}
use Rattle.px_desk.specs.Listing.{start_of}
use Rattle.px_desk.specs.Seating.{AreAll}
use Rattle.px_desk.proofs.Dealing.{seats_count}
use Rattle.px_desk_tests.proofs.Seats.{posted, both, all}
use Rattle.px_desk_tests.proofs.two_seats.a_seat_counts_what_another_posts.Goals as goal

pub create-requires-clause-started : goal.create-requires-clause-started
create-requires-clause-started g c = run_started _ _ c.in-Ok-start.ensures.settled c.in-Ok-start.ensures.rest

pub post-receipt-requires-clause-own : goal.post-receipt-requires-clause-own
post-receipt-requires-clause-own g c =
    subst (IsSeatOf c.in-Ok-open.desk) (sym c.index_mut.ensures.value)
    (c.in-Ok-open.ensures.own 0 c.index_mut.result.now (omega (arith, seats_count seating _ c.in-Ok-open.seats.items 2 c.in-Ok-open.ensures.seats)))

pub index_mut-requires-2 : goal.index_mut-requires-2
index_mut-requires-2 g c = omega (arith, seats_count seating _ c.in-Ok-open.seats.items 2 c.in-Ok-open.ensures.seats, c.in-Ok-open.seats.ok.0)

pub close-exec-requires-clause-own : goal.close-exec-requires-clause-own
close-exec-requires-clause-own g c =
    both (IsSeatOf c.in-Ok-open.desk) c.in-Ok-open.seats.items c.post-receipt.new.seat c.count.new.seat
    (seats_count seating _ c.in-Ok-open.seats.items 2 c.in-Ok-open.ensures.seats) c.post-receipt.ensures.own c.count.ensures.own

pub close-exec-requires-clause-all : goal.close-exec-requires-clause-all
close-exec-requires-clause-all g c =
    subst (λ count. AreAll count (map (λ seat. (seating seat).number)
    (slice_set (slice_set c.in-Ok-open.seats.items 0 c.post-receipt.new.seat) 1 c.count.new.seat)))
    (sym c.in-Ok-open.ensures.desk.1)
    (all seating _ c.in-Ok-open.seats.items c.in-Ok-open.ensures.seats c.post-receipt.new.seat c.count.new.seat
    c.index_mut.result.now c.index_mut-2.result.now
    (posted (start_of naive.ghosts (opened_with c.in-Ok-open.desk).opening) (seating c.index_mut.result.now) (seating c.post-receipt.new.seat)
    (items (seating c.post-receipt.new.seat).seen) (entry_of 1 1 c.in_ok-event.event) c.post-receipt.result c.post-receipt.ensures.answers
    ∙ ap (λ seat. (seating seat).number) c.index_mut.ensures.value)
    (ap (λ s. s.number) c.count.ensures.counts.same ∙ ap (λ seat. (seating seat).number) c.index_mut-2.ensures.value))
