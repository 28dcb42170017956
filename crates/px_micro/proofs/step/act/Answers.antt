use Rattle.std.proofs.Common.{◌≡◌, ◌≢◌, length, map, ap, sym, ◌∙◌, subst, arith}
use Rattle.px_sem.specs.Step.{micro}
use Rattle.px_flat.specs.Parts.{world_of}
use Rattle.px_micro.specs.declared.turns.Turn.{Turn}
use Rattle.px_parts.specs.Parts.{plan_in, world_in}
use Rattle.px_micro.specs.Turns.{AreTurns}
use Rattle.px_micro.proofs.Quiet.{loud}
use Rattle.px_micro.proofs.Room.{turns_small}
use Rattle.px_micro.proofs.Telling.{told_moved, told_moves, told_seen, told_stand}
use Rattle.px_micro.proofs.Turning.{turns_stay}
use Rattle.px_micro.proofs.step.act.Goals as goal

pub cells-requires : goal.cells-requires
cells-requires c =
    turns_small c.args.parts.now c.args.going.now c.gather.new.turns c.requires.going c.in_ok-gather.ensures.turns

pub apply-requires-clause-turns : goal.apply-requires-clause-turns
apply-requires-clause-turns c =
    let parts = c.args.parts.now in
    let made = c.gather.new.turns in
    turns_stay parts _ c.reserve.new.self c.reserve-2.new.self (map (λ (turn : Turn). turn.going) made.turns.items) made
    c.reserve.ensures.contents c.reserve-2.ensures.contents
    (subst (λ ones. AreTurns parts ones made) (sym c.in_ok-gather.ensures.turns.goers) c.in_ok-gather.ensures.turns)

-- the two calls of `reserve` and `apply` leave what was seen, and so does `tell`
pub returns-clause-seen : goal.returns-clause-seen
returns-clause-seen c = told_seen _ _ c.args.parts.now c.apply.new.parts c.tell.new.parts c.tell.ensures (record {
  cells = c.apply.ensures.seen.cells ∙ c.reserve.ensures.news.0;
  actions = c.apply.ensures.seen.actions ∙ c.reserve-2.ensures.news.0;
})

pub returns-clause-stand : goal.returns-clause-stand
returns-clause-stand c = told_stand _ _ c.apply.new.parts c.tell.new.parts c.tell.ensures c.apply.ensures.stand

pub returns-clause-moves : goal.returns-clause-moves
returns-clause-moves c =
    told_moves c.args.tells c.args.parts.now c.args.going.now _ _ _ c.requires.going
    (c.apply.ensures.told ∙ c.in_ok-gather.ensures.moves) c.apply.ensures.moves c.tell.ensures.moves

pub returns-clause-moved : goal.returns-clause-moved
returns-clause-moved c =
    let parts = c.args.parts.now in
    let plan = plan_in parts in
    let some : length c.args.going.now ≢ 0 = λ none. absurd (omega (arith, c.requires.some, none)) in
    let cells = c.reserve.ensures.contents in
    let acts = c.reserve-2.ensures.contents in
    let now : world_of plan c.reserve.new.self.contents.values parts.reports.reports c.reserve-2.new.self.contents.values
    ≡ world_in parts = λ i. world_of plan (cells i).values parts.reports.reports (acts i).values in
    told_moved _ _ parts c.apply.new.parts c.tell.new.parts c.tell.ensures (record {
      one_plan = record {
        plan = c.apply.ensures.one_plan.plan;
        cells = c.apply.ensures.one_plan.cells ∙ (λ i. (cells i).marked);
        reports = c.apply.ensures.one_plan.reports;
        actions = c.apply.ensures.one_plan.actions ∙ (λ i. (acts i).marked);
      };
      loud = loud plan (world_in parts) c.args.going.now c.requires.going some;
      world = c.apply.ensures.world ∙ ap (micro plan) now;
    })
