use Rattle.std.proofs.Common.{sym, ◌∙◌}
use Rattle.px_exec.specs.Answers.{entry_of}
use Rattle.px_turn.specs.Seats.{view}
use Rattle.px_desk.specs.EventDesk.{opened_with, count_of}
use Rattle.px_desk.specs.Listing.{listing, start_of}
use Rattle.px_desk.proofs.Lists.{none_more}
use Rattle.px_desk.proofs.Shown.{same_start, seen_back, legal_seen, made_added, told_added}
use Rattle.px_desk.proofs.event_desk.EventDeskDesk.post.Goals as goal

pub returns-then-not-is_listed-clause-legal : goal.returns-then-not-is_listed-clause-legal
returns-then-not-is_listed-clause-legal g c =
    let old = view c.args.seat.now in
    let found = c.enter-kept.result in
    let value = c.post-answer.new.self in
    let shown = c.enter-kept.ensures.value in
    legal_seen (start_of g.S.Stepper value.opening) _ (listing value) _
    (same_start g.S.Stepper old _ found value (opened_with c.args.self.now) (count_of c.args.self.now) c.requires.own.seated shown c.post-answer.ensures.opening)
    (none_more (start_of g.S.Stepper value.opening) (entry_of c.args.thread c.args.line c.args.event.now) (listing found) (listing value) (listing value)
    c.post-answer.result (sym c.is_listed.ensures ∙ c.if-not-is_listed.true) c.post-answer.ensures.answers
    ∙ sym (seen_back old (view c.enter-kept.new.seat) (view c.leave.new.seat) found c.leave.ensures.left shown))
    c.keeps.ensures.legal

pub returns-clause-answers : goal.returns-clause-answers
returns-clause-answers g c =
    let old = view c.args.seat.now in
    let found = c.enter-kept.result in
    let value = c.post-answer.new.self in
    let shown = c.enter-kept.ensures.value in
    let marked = c.leave_marked.ensures.marked in
    told_added old (view c.enter-kept.new.seat) (view c.leave_marked.new.seat) marked.0 c.enter-kept.ensures.turn marked.2 found shown
    (start_of g.S.Stepper value.opening) (start_of g.S.Stepper (opened_with c.args.self.now).opening)
    (same_start g.S.Stepper old _ found value (opened_with c.args.self.now) (count_of c.args.self.now) c.requires.own.seated shown c.post-answer.ensures.opening)
    (entry_of c.args.thread c.args.line c.args.event.now) c.post-answer.result (sym c.is_listed.ensures ∙ c.if-not-is_listed.false)
    value marked.1 c.post-answer.ensures.answers

pub returns-clause-made : goal.returns-clause-made
returns-clause-made g c =
    let marked = c.leave_marked.ensures.marked in
    made_added (view c.args.seat.now) (view c.enter-kept.new.seat) (view c.leave_marked.new.seat) marked.0 c.enter-kept.ensures.turn marked.2
    c.enter-kept.result c.enter-kept.ensures.value
