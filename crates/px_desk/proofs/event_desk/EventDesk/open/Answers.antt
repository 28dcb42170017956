use Rattle.std.proofs.Common.{◌≡◌, map, ap, ◌∙◌}
use Rattle.px_turn.specs.Seats.{view}
use Rattle.px_turn.specs.Views.{newcomer}
use Rattle.px_desk.specs.Listing.{listing}
use Rattle.px_desk.specs.Seats.{views_of}
use Rattle.px_desk.proofs.Whole.{seats_fit, seatings_dealt, numbers_dealt}
use Rattle.px_desk.proofs.event_desk.EventDesk.open.Goals as goal

pub returns-in-Ok-new-clause-own : goal.returns-in-Ok-new-clause-own
returns-in-Ok-new-clause-own g c =
    let views : map view c.deal-list.result.items ≡ views_of (newcomer listing c.args.exec) c.args.seats
    = c.deal-list.ensures.views ∙ ap (λ v. views_of v c.args.seats) (c.in-Ok-new.ensures.ok.2 ∙ ap (newcomer listing) c.in_ok-kept.ensures.ok) in
    seats_fit c.args.exec c.args.seats c.requires.least _ views _ (c.of-opened.ensures ∙ c.in_ok-kept.ensures.ok) c.of.ensures c.deal-list.ensures.own

pub returns-in-Ok-new-clause-seats : goal.returns-in-Ok-new-clause-seats
returns-in-Ok-new-clause-seats g c =
    let views : map view c.deal-list.result.items ≡ views_of (newcomer listing c.args.exec) c.args.seats
    = c.deal-list.ensures.views ∙ ap (λ v. views_of v c.args.seats) (c.in-Ok-new.ensures.ok.2 ∙ ap (newcomer listing) c.in_ok-kept.ensures.ok) in
    seatings_dealt c.args.exec c.args.seats c.requires.least _ views

pub returns-in-Ok-new-clause-all : goal.returns-in-Ok-new-clause-all
returns-in-Ok-new-clause-all g c =
    let views : map view c.deal-list.result.items ≡ views_of (newcomer listing c.args.exec) c.args.seats
    = c.deal-list.ensures.views ∙ ap (λ v. views_of v c.args.seats) (c.in-Ok-new.ensures.ok.2 ∙ ap (newcomer listing) c.in_ok-kept.ensures.ok) in
    numbers_dealt c.args.exec c.args.seats c.requires.least _ views _ c.of.ensures
