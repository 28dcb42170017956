use Rattle.std.proofs.Common.{◌≡◌, ℕ, ◌+◌, List, [], length, get_or, set, drop, Some, None, ap, sym, ◌∙◌, subst, arith}
use Rattle.std.specs.List.{sum_by}
use Rattle.std.proofs.lemmas.Grind.{get_or_default_zero}
use Rattle.std.proofs.lemmas.List.{take_at}
use Rattle.std.proofs.lemmas.List.Sums.{sum_by-set}
use Rattle.px_exec.specs.Executive.{plan_of}
use Rattle.px_script.specs.declared.todo.Todo.{Todo}
use Rattle.px_script.proofs.Scripts.{few_lines}
use Rattle.px_crew.specs.Crew.{failed_entry, AreAt, Comes, Wakes}
use Rattle.px_crew.specs.Seat.{entry_in}
use Rattle.px_crew.proofs.Gathering.{follows_nothing, stalled, goes_on, over_within, unfailed, places_within}
use Rattle.px_crew.proofs.together.work_together.Goals as goal

pub returns-in_default-clause-ends : goal.returns-in_default-clause-ends
returns-in_default-clause-ends g c = (
  ap entry_in c.requires.open,
  follows_nothing (plan_of g.S.Stepper c.args.exec) c.args.exec.opening.history c.args.exec.log c.args.script.now.threads c.requires.fresh,
)

pub returns-in-None-clause-ends : goal.returns-in-None-clause-ends
returns-in-None-clause-ends g c =
    let script = c.args.script.now in
    let exec = c.work_over_desk-after.result.exec in
    let plan = plan_of g.S.Stepper exec in
    let first = exec.opening.history in
    let news = c.work_over_desk-after.new.places in
    let comes = subst (Comes plan first exec.log script.threads news (failed_entry exec)) c.in-Stalled.is c.work_over_desk-after.ensures.comes in
    let long : length news ≡ c.loop-waits.places.len = omega (arith, comes.1.same, c.loop-waits.invariant.at.same, c.loop-waits.places.ok.0) in
    let back = take_at news (drop (length news) c.loop-waits.places.items) c.loop-waits.places.len long in
    let held = subst (λ (places : List ℕ). Wakes plan first exec.log script.threads places None) (c.deref.ensures.value ∙ back)
    (subst (λ (threads : List Todo). Wakes plan first exec.log threads c.deref.result.now None) c.as_slice-threads.ensures c.in-None.ensures) in
    (comes.0, stalled plan first exec.log script.threads news c.in-Stalled.waits.items comes.1 (held comes.2) comes.3 comes.4)

pub overflow_add-index_mut : goal.overflow_add-index_mut
overflow_add-index_mut g c =
    let script = c.args.script.now in
    let exec = c.work_over_desk-after.result.exec in
    let plan = plan_of g.S.Stepper exec in
    let first = exec.opening.history in
    let news = c.work_over_desk-after.new.places in
    let comes = subst (Comes plan first exec.log script.threads news (failed_entry exec)) c.in-Stalled.is c.work_over_desk-after.ensures.comes in
    let long : length news ≡ c.loop-waits.places.len = omega (arith, comes.1.same, c.loop-waits.invariant.at.same, c.loop-waits.places.ok.0) in
    let back = take_at news (drop (length news) c.loop-waits.places.items) c.loop-waits.places.len long in
    let i = c.in-Some.i in
    let woken = subst (λ (places : List ℕ). Wakes plan first exec.log script.threads places (Some i)) (c.deref.ensures.value ∙ back)
    (subst (λ (threads : List Todo). Wakes plan first exec.log threads c.deref.result.now (Some i)) c.as_slice-threads.ensures c.in-Some.ensures) in
    let d : Todo = record { thread = 0; lines = [] } in
    let place = c.index_mut.result.now in
    let there : place ≡ get_or news i 0
    = c.index_mut.ensures.value ∙ ap (λ (l : List ℕ). get_or l i place) back ∙ get_or_default_zero news i place (omega (arith, woken.0, comes.1.same)) in
    omega (arith, there, over_within plan first exec.log (get_or script.threads i d) (get_or news i 0) (woken.1 d), few_lines script i d c.requires.fit woken.0)

pub loop-waits-preserved : goal.loop-waits-preserved
loop-waits-preserved g c =
    let script = c.args.script.now in
    let exec = c.work_over_desk-after.result.exec in
    let plan = plan_of g.S.Stepper exec in
    let first = exec.opening.history in
    let news = c.work_over_desk-after.new.places in
    let comes = subst (Comes plan first exec.log script.threads news (failed_entry exec)) c.in-Stalled.is c.work_over_desk-after.ensures.comes in
    let long : length news ≡ c.loop-waits.places.len = omega (arith, comes.1.same, c.loop-waits.invariant.at.same, c.loop-waits.places.ok.0) in
    let back = take_at news (drop (length news) c.loop-waits.places.items) c.loop-waits.places.len long in
    let i = c.in-Some.i in
    let woken = subst (λ (places : List ℕ). Wakes plan first exec.log script.threads places (Some i)) (c.deref.ensures.value ∙ back)
    (subst (λ (threads : List Todo). Wakes plan first exec.log threads c.deref.result.now (Some i)) c.as_slice-threads.ensures c.in-Some.ensures) in
    let d : Todo = record { thread = 0; lines = [] } in
    let place = c.index_mut.result.now in
    let there : place ≡ get_or news i 0
    = c.index_mut.ensures.value ∙ ap (λ (l : List ℕ). get_or l i place) back ∙ get_or_default_zero news i place (omega (arith, woken.0, comes.1.same)) in
    record {
      at = subst (AreAt plan first exec.log script.threads) (sym (ap (λ (l : List ℕ). set l i (place + 1)) back ∙ ap (λ (k : ℕ). set news i (k + 1)) there))
          (goes_on plan first exec.log script.threads news i comes.1 woken.0 woken.1);
      is_open = unfailed exec.failed comes.0;
      opening = c.work_over_desk-after.ensures.opening ∙ c.loop-waits.invariant.opening;
    }

pub loop-waits-smaller : goal.loop-waits-smaller
loop-waits-smaller g c =
    let script = c.args.script.now in
    let exec = c.work_over_desk-after.result.exec in
    let plan = plan_of g.S.Stepper exec in
    let first = exec.opening.history in
    let news = c.work_over_desk-after.new.places in
    let comes = subst (Comes plan first exec.log script.threads news (failed_entry exec)) c.in-Stalled.is c.work_over_desk-after.ensures.comes in
    let long : length news ≡ c.loop-waits.places.len = omega (arith, comes.1.same, c.loop-waits.invariant.at.same, c.loop-waits.places.ok.0) in
    let back = take_at news (drop (length news) c.loop-waits.places.items) c.loop-waits.places.len long in
    let i = c.in-Some.i in
    let woken = subst (λ (places : List ℕ). Wakes plan first exec.log script.threads places (Some i)) (c.deref.ensures.value ∙ back)
    (subst (λ (threads : List Todo). Wakes plan first exec.log threads c.deref.result.now (Some i)) c.as_slice-threads.ensures c.in-Some.ensures) in
    let d : Todo = record { thread = 0; lines = [] } in
    let place = c.index_mut.result.now in
    let there : place ≡ get_or news i 0
    = c.index_mut.ensures.value ∙ ap (λ (l : List ℕ). get_or l i place) back ∙ get_or_default_zero news i place (omega (arith, woken.0, comes.1.same)) in
    let on = goes_on plan first exec.log script.threads news i comes.1 woken.0 woken.1 in
    omega (
      arith,
      ap (λ (l : List ℕ). sum_by (λ (place : ℕ). place) l) (ap (λ (l : List ℕ). set l i (place + 1)) back ∙ ap (λ (k : ℕ). set news i (k + 1)) there),
      sum_by-set (λ (place : ℕ). place) news i (get_or news i 0 + 1) 0 (omega (arith, woken.0, comes.1.same)),
      ap (λ (l : List ℕ). sum_by (λ (place : ℕ). place) l) c.deref_mut.ensures.value,
      c.work_over_desk-after.ensures.rise,
      places_within plan first exec.log script (set news i (get_or news i 0 + 1)) c.requires.fit on,
    )
