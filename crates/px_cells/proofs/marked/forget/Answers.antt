use Rattle.std.proofs.Common.{arith, length, refl}
use Rattle.px_cells.proofs.Noting.{changed_within, offset_fits}
use Rattle.px_cells.proofs.marked.forget.Goals as goal

pub bounds-olds-at : goal.bounds-olds-at
bounds-olds-at g c =
    omega (
      arith,
      c.loop-at.auto.olds,
      changed_within c.args.olds.now c.args.changed.now c.loop-at.at-index 0 c.requires.noted c.loop-at-test.true,
    )

pub offset_bounds-olds-at : goal.offset_bounds-olds-at
offset_bounds-olds-at g c = offset_fits c.args.olds.now c.args.changed.now c.loop-at.at-index _ c.requires.noted c.loop-at-test.true
    (length c.args.olds.now) refl c.well_formed.0.1
