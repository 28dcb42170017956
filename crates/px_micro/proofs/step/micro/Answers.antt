use Rattle.std.proofs.Common.{◌≡◌, length, refl, sym, ◌∙◌, arith}
use Rattle.std.proofs.lemmas.Bool.{eqb-true}
use Rattle.px_parts.specs.Parts.{plan_in, world_in}
use Rattle.px_micro.proofs.Quiet.{quiet}
use Rattle.px_micro.proofs.step.micro.Goals as goal

pub returns-then-is_empty-clause-stepped : goal.returns-then-is_empty-clause-stepped
returns-then-is_empty-clause-stepped c =
    let parts = c.args.parts.now in
    let going = c.in_ok-going.going in
    let none : length going.items ≡ 0 =
    omega (arith, eqb-true going.len 0 (sym c.is_empty.ensures ∙ c.if-is_empty.true), going.ok.0) in
    record {
      same = record { plan = refl; cells = refl; reports = refl; actions = refl };
      quiet = quiet (plan_in parts) (world_in parts) going.items c.in_ok-going.ensures none;
      moves = c.clear.ensures.items;
    }

pub returns-clause-stepped : goal.returns-clause-stepped
returns-clause-stepped c =
    let moved = c.in_ok-act.ensures.moved in
    record {
      one_plan = moved.one_plan;
      loud = moved.loud;
      world = moved.world;
      moves = c.in_ok-act.ensures.moves;
    }
