use Rattle.std.proofs.Common.{◌+◌, ◌<◌, List, length, sym, ◌∙◌, subst, arith}
use Rattle.px_core.specs.Plan.{Site}
use Rattle.px_flat.specs.Rows.{sites_of}
use Rattle.px_flat.proofs.Extending.{AreExtended, extended_more, extended_all, cells_at, cells_fit}
use Rattle.px_flat.proofs.Sites.{length-sites_of}
use Rattle.px_flat.proofs.extents.extents.Goals as goal

pub cells_of-cells-requires : goal.cells_of-cells-requires
cells_of-cells-requires c =
    omega (
      arith,
      cells_fit c.args.rows.now c.requires.laid c.loop-i.i c.loop-i.first_cell c.index-rows-i.result
          c.deref.result.now c.loop-i-test.true c.deref.ensures.value c.requires.cells c.loop-i.invariant.next,
    )

pub overflow_add-first_cell : goal.overflow_add-first_cell
overflow_add-first_cell c =
    omega (
      arith,
      c.cells_of-cells.ensures,
      cells_fit c.args.rows.now c.requires.laid c.loop-i.i c.loop-i.first_cell c.index-rows-i.result
          c.deref.result.now c.loop-i-test.true c.deref.ensures.value c.requires.cells c.loop-i.invariant.next,
    )

pub loop-i-preserved : goal.loop-i-preserved
loop-i-preserved c =
    let plan : List Site = sites_of c.args.rows.now in
    let within : c.loop-i.i < length plan = omega (arith, length-sites_of c.args.rows.now, c.loop-i-test.true) in
    subst (λ extents. AreExtended plan extents (c.loop-i.first_cell + c.cells_of-cells.result) (c.loop-i.i + 1))
    (sym c.in_ok-push.ensures.items)
    (extended_more plan c.loop-i.extents.items c.loop-i.first_cell c.loop-i.i c.cells_of-cells.result _ within
    (c.cells_of-cells.ensures
    ∙ cells_at c.args.rows.now c.requires.laid c.loop-i.i c.index-rows-i.result c.deref.result.now c.loop-i-test.true
    c.deref.ensures.value)
    (c.requires.ends c.loop-i.i c.loop-i-test.true) c.loop-i.invariant)

pub returns : goal.returns
returns c =
    extended_all (sites_of c.args.rows.now) c.loop-i.extents.items c.loop-i.first_cell c.loop-i.i
    (omega (arith, length-sites_of c.args.rows.now, c.loop-i-test.false, c.loop-i.auto.i-end)) c.loop-i.invariant
