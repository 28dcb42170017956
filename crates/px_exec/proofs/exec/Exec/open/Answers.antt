use Rattle.std.proofs.Common.{◌≡◌, ◌≤◌, List, Some, IsTrue, length, refl, sym, ◌∙◌, ap, subst}
use Rattle.std.specs.List.{list_all}
use Rattle.px_event.specs.Fit.{is_fit_entry}
use Rattle.px_event.specs.declared.entry.Entry.{Entry}
use Rattle.px_sem.specs.Log.{events_of}
use Rattle.px_sem.specs.Run.{run}
use Rattle.px_sem.specs.Stepper.{settled_state}
use Rattle.px_journal.proofs.Ready.{ready_few, ready_fit}
use Rattle.px_exec.specs.Opening.{IsWhy}
use Rattle.px_exec.proofs.Keeping.{keeps_at_once, opening_of}
use Rattle.px_exec.proofs.exec.Exec.open.Goals as goal

pub run_history-requires-clause-nothing : goal.run_history-requires-clause-nothing
run_history-requires-clause-nothing g c = c.requires.nothing

pub run_history-requires-clause-started : goal.run_history-requires-clause-started
run_history-requires-clause-started g c = c.requires.started

pub run_history-requires-clause-fit : goal.run_history-requires-clause-fit
run_history-requires-clause-fit g c =
    subst (λ (h : List Entry). IsTrue (list_all is_fit_entry h)) (sym c.deref.ensures.value) (ready_fit _ _ _ _ (c.requires.ready.1))

pub run_history-requires-clause-few : goal.run_history-requires-clause-few
run_history-requires-clause-few g c =
    subst (λ (h : List Entry). length h ≤ 100000) (sym c.deref.ensures.value) (ready_few _ _ _ _ (c.requires.ready.1))

pub invariant_of-result : goal.invariant_of-result
invariant_of-result g c = keeps_at_once g.S.Stepper g.D.Disk c.run_history.new.stepper c.args.stepper c.args.journal c.args.history.items c.args.limit
    c.of.result.value c.of-2.result.value c.of-3.result.value.items c.new.result.items c.of.ensures c.of-2.ensures (ap (λ v. v.items) c.of-3.ensures) c.new.ensures.items
    c.requires.ready c.requires.least c.requires.most c.in-Ok.ensures.rest
    (subst (λ (h : List Entry). run (g.S.Stepper.state c.args.stepper).nodes (events_of h) ≡ Some (g.S.Stepper.state c.run_history.new.stepper).world) c.deref.ensures.value c.in-Ok.ensures.runs)

pub returns-in-Ok-clause-opens : goal.returns-in-Ok-clause-opens
returns-in-Ok-clause-opens g c =
    let plan_is = ap (λ s. (g.S.Stepper.state s).nodes) c.of.ensures in
    record {
      opening = opening_of c.args.limit c.of.ensures c.of-2.ensures (ap (λ v. v.items) c.of-3.ensures);
      journal = refl;
      history = refl;
      log = c.new.ensures.items;
      failed = refl;
      settled = c.in-Ok.ensures.rest ∙ ap (λ nodes. settled_state nodes (g.S.Stepper.state c.run_history.new.stepper).world) (sym plan_is);
      runs_to = ap (λ nodes. run nodes (events_of c.args.history.items)) plan_is
          ∙ subst (λ (h : List Entry). run (g.S.Stepper.state c.args.stepper).nodes (events_of h) ≡ Some (g.S.Stepper.state c.run_history.new.stepper).world) c.deref.ensures.value c.in-Ok.ensures.runs;
    }

pub returns-in-Err-clause-refused : goal.returns-in-Err-clause-refused
returns-in-Err-clause-refused g c = record {
  handed_back = refl;
  why = subst (λ (h : List Entry). IsWhy (g.S.Stepper.state c.args.stepper).nodes h c.in-Err.why) c.deref.ensures.value c.in-Err.ensures.why;
}
