use Rattle.std.proofs.Common.{arith}
use Rattle.px_cells.proofs.Flagging.{all_below}
use Rattle.px_cells.proofs.news.unflag.Goals as goal

pub bounds-is_noted-at : goal.bounds-is_noted-at
bounds-is_noted-at c =
    omega (
      arith,
      c.loop-at.auto.is_noted,
      all_below c.args.is_noted.now c.args.numbers.now c.requires c.loop-at.at-index 0 c.loop-at-test.true,
    )
