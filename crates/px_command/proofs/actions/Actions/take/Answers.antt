use Rattle.std.proofs.Common.{OnOk, ap, sym, ◌∙◌, subst}
use Rattle.px_event.specs.declared.event.Event.{Event}
use Rattle.px_event.specs.declared.event.Event.TheVariants as events
use Rattle.px_flat.specs.Flat.{plan_of}
use Rattle.px_command.specs.Taking.{IsTaken, path_of}
use Rattle.px_command.proofs.Told.{untold, told_event}
use Rattle.px_command.proofs.actions.Actions.take.Goals as goal

pub returns-in_default-clause-ok : goal.returns-in_default-clause-ok
returns-in_default-clause-ok c =
    untold c.args.flat.now c.args.event.now c.args.cells.now.contents c.args.self.now.contents c.requires
    (sym c.told_of.ensures.node ∙ c.in_default.is)

pub returns-in-Handle-clause-ok : goal.returns-in-Handle-clause-ok
returns-in-Handle-clause-ok c =
    subst (λ (event : Event). OnOk c.take_handle.result (IsTaken (plan_of c.args.flat.now) event c.args.cells.now.contents
    c.args.self.now.contents c.take_handle.new.cells.contents c.args.self.now.contents))
    (ap (λ path. events.Handle path c.in-Handle.handle)
    (told_event _ c.args.event.now c.in-Handle.node _ _ c.told_of.ensures.node c.in-Some.is (ap path_of c.in-Handle.is))
    ∙ sym c.in-Handle.is)
    c.take_handle.ensures.ok

pub returns-in-Return-clause-ok : goal.returns-in-Return-clause-ok
returns-in-Return-clause-ok c =
    subst (λ (event : Event). OnOk c.take_return.result (IsTaken (plan_of c.args.flat.now) event c.args.cells.now.contents
    c.args.self.now.contents c.take_return.new.cells.contents c.args.self.now.contents))
    (ap (λ path. events.Return path c.in-Return.value)
    (told_event _ c.args.event.now c.in-Return.node _ _ c.told_of.ensures.node c.in-Some.is (ap path_of c.in-Return.is))
    ∙ sym c.in-Return.is)
    c.take_return.ensures.ok

pub returns-in-AbortDone-clause-ok : goal.returns-in-AbortDone-clause-ok
returns-in-AbortDone-clause-ok c =
    subst (λ (event : Event). OnOk c.take_abort_done.result (IsTaken (plan_of c.args.flat.now) event
    c.args.cells.now.contents c.args.self.now.contents c.args.cells.now.contents c.take_abort_done.new.self.contents))
    (ap events.AbortDone
    (told_event _ c.args.event.now c.in-AbortDone.node _ _ c.told_of.ensures.node c.in-Some.is (ap path_of c.in-AbortDone.is))
    ∙ sym c.in-AbortDone.is)
    c.take_abort_done.ensures.ok

pub returns-in-Acknowledged-clause-ok : goal.returns-in-Acknowledged-clause-ok
returns-in-Acknowledged-clause-ok c =
    subst (λ (event : Event). OnOk c.take_acknowledgement.result (IsTaken (plan_of c.args.flat.now) event
    c.args.cells.now.contents c.args.self.now.contents c.take_acknowledgement.new.cells.contents
    c.take_acknowledgement.new.self.contents))
    (ap events.Acknowledged
    (told_event _ c.args.event.now c.in-Acknowledged.node _ _ c.told_of.ensures.node c.in-Some.is (ap path_of c.in-Acknowledged.is))
    ∙ sym c.in-Acknowledged.is)
    c.take_acknowledgement.ensures.ok
