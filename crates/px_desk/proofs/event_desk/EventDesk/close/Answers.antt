use Rattle.px_turn.specs.Seats.{view}
use Rattle.px_desk.proofs.Whole.{in_two, some_seat, others_later, has_all, one_history}
use Rattle.px_desk.proofs.event_desk.EventDesk.close.Goals as goal

pub gather-first-requires-clause-later : goal.gather-first-requires-clause-later
gather-first-requires-clause-later g c =
    let two = in_two c.args.seats.items c.remove-first.new.self.items c.remove-first.result (some_seat _ _ _ c.requires.all)
    c.remove-first.ensures.value c.remove-first.ensures.items in
    others_later c.args.self c.args.seats.items c.remove-first.new.self.items c.remove-first.result two c.requires.own c.requires.all

pub close-requires-clause-all : goal.close-requires-clause-all
close-requires-clause-all g c =
    let two = in_two c.args.seats.items c.remove-first.new.self.items c.remove-first.result (some_seat _ _ _ c.requires.all)
    c.remove-first.ensures.value c.remove-first.ensures.items in
    has_all c.args.self c.args.seats.items c.remove-first.new.self.items c.remove-first.result two c.requires.own c.requires.all
    (view c.gather-first.result) c.gather-first.ensures.taken

pub returns-clause-whole : goal.returns-clause-whole
returns-clause-whole g c =
    let two = in_two c.args.seats.items c.remove-first.new.self.items c.remove-first.result (some_seat _ _ _ c.requires.all)
    c.remove-first.ensures.value c.remove-first.ensures.items in
    rw c.into_exec.ensures
    (one_history c.args.self c.args.seats.items c.remove-first.new.self.items c.remove-first.result two c.requires.own c.requires.all
    (view c.gather-first.result) c.gather-first.ensures.taken c.close.result c.gather-first.ensures.own.0.1 c.close.ensures)
