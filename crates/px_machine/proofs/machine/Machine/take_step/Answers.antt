use Rattle.std.proofs.Common.{◌≡◌, [], true, false, length, refl, ap, sym, ◌∙◌, subst, arith}
use Rattle.std.proofs.lemmas.Bool.{eqb-true}
use Rattle.std.proofs.lemmas.List.{nil_from_length}
use Rattle.px_parts.specs.Parts.{plan_in, world_in}
use Rattle.px_sem.specs.World.{World}
use Rattle.px_micro.proofs.Quiet.{quiet}
use Rattle.px_machine.specs.Queue.{HaveGone}
use Rattle.px_machine.specs.Stepping.{HasChosen}
use Rattle.px_machine.proofs.Readying.{marked_still, moves_behind, one_both, ready_gone, ready_still, same_is_one, same_quiet, same_state, stepped_state}
use Rattle.px_machine.proofs.Waiting.{none_gone}
use Rattle.px_machine.proofs.machine.Machine.take_step.Goals as goal

-- none goes
pub invariant_of-self-then-is_empty-2 : goal.invariant_of-self-then-is_empty-2
invariant_of-self-then-is_empty-2 c =
    let machine = c.args.self.now in
    let middle = c.goers.new.parts in
    let going = c.goers.new.going in
    let same = c.goers.ensures.same in
    let none : going.items ≡ [] =
    nil_from_length going.items (omega (arith, eqb-true going.len 0 (sym c.is_empty.ensures ∙ c.if-is_empty.true), going.ok.0)) in
    record {
      ready =
          ready_gone middle _ c.goers.new.kept c.rest.new.queue [] c.goers.ensures.ready
          (subst (HasChosen middle c.goers.new.kept) none c.in_ok-goers.ensures.chosen)
          (none_gone c.goers.new.kept.queue c.rest.new.queue c.rest.ensures c.in_ok-goers.ensures.chosen.nobody
          c.goers.ensures.ready.right.of_plan.lists) refl (record { cells = refl; actions = refl }) c.goers.ensures.ready.stand refl;
      marked = marked_still machine.begun machine.parts _ machine.marked
          (same_is_one machine.parts _ (record { plan = same.plan; cells = same.cells; reports = same.reports; actions = same.actions }))
          (λ i. (same.reports i).reports);
    }

pub returns-then-is_empty-clause-ok : goal.returns-then-is_empty-clause-ok
returns-then-is_empty-clause-ok c =
    let machine = c.args.self.now in
    let middle = c.goers.new.parts in
    let going = c.goers.new.going in
    let none : length going.items ≡ 0 =
    omega (arith, eqb-true going.len 0 (sym c.is_empty.ensures ∙ c.if-is_empty.true), going.ok.0) in (
      same_quiet machine.begun machine.parts middle true c.goers.ensures.same
          (quiet (plan_in middle) (world_in middle) going.items c.in_ok-goers.ensures.chosen.all none),
      same_state machine.begun machine.parts middle c.goers.ensures.same,
      c.clear.ensures.items,
    )

-- some go, and there is no memory
pub invariant_of-self-in-Break-branch-2 : goal.invariant_of-self-in-Break-branch-2
invariant_of-self-in-Break-branch-2 c =
    let machine = c.args.self.now in
    let middle = c.goers.new.parts in
    let new = c.act.new.parts in
    let same = c.in_err-act.ensures.left.same in
    record {
      ready =
          ready_still middle new c.goers.new.kept c.goers.ensures.ready same.plan c.act.ensures.seen c.act.ensures.stand
          (λ i. (same.reports i).reports);
      marked = marked_still machine.begun machine.parts new machine.marked
          (one_both machine.parts middle new (same_is_one machine.parts middle c.goers.ensures.same) (same_is_one middle new same))
          ((λ i. (same.reports i).reports) ∙ (λ i. (c.goers.ensures.same.reports i).reports));
    }

-- they have gone
pub invariant_of-self-2 : goal.invariant_of-self-2
invariant_of-self-2 c =
    let machine = c.args.self.now in
    let middle = c.goers.new.parts in
    let new = c.act.new.parts in
    let moved = c.in_ok-act.ensures.moved in
    let reports : new.reports.reports ≡ middle.reports.reports = ap (λ (world : World). world.reports) moved.world in
    record {
      ready =
          ready_gone middle new c.goers.new.kept c.have_gone.new.queue c.goers.new.going.items c.goers.ensures.ready
          c.in_ok-goers.ensures.chosen
          (subst (HaveGone c.goers.new.kept.queue c.have_gone.new.queue) c.deref-2.ensures.value c.have_gone.ensures) moved.one_plan.plan
          c.act.ensures.seen c.act.ensures.stand reports;
      marked = marked_still machine.begun machine.parts new machine.marked
          (one_both machine.parts middle new (same_is_one machine.parts middle c.goers.ensures.same) moved.one_plan)
          (reports ∙ (λ i. (c.goers.ensures.same.reports i).reports));
    }

pub returns-clause-ok : goal.returns-clause-ok
returns-clause-ok c =
    let machine = c.args.self.now in
    let middle = c.goers.new.parts in
    let new = c.act.new.parts in
    let same = c.goers.ensures.same in
    let moved = c.in_ok-act.ensures.moved in (
      same_quiet machine.begun machine.parts middle false same moved.loud,
      stepped_state machine.begun machine.parts middle new same moved.one_plan moved.world,
      moves_behind c.args.tells machine.begun machine.parts middle new same c.goers.ensures.moves c.in_ok-act.ensures.moves,
    )
