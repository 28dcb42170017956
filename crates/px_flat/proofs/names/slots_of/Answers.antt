use Rattle.std.proofs.Common.{◌≡◌, ◌+◌, ◌<◌, List, length, map, sym, ◌∙◌, subst, arith, true}
use Rattle.px_core.specs.Fit.{all_differ}
use Rattle.px_core.specs.Plan.{Site}
use Rattle.px_flat.specs.Rows.{sites_of}
use Rattle.px_flat.specs.Slots.{slots_from}
use Rattle.px_flat.proofs.Extending.{cells_fit}
use Rattle.px_flat.proofs.Known.{few_cells}
use Rattle.px_flat.proofs.Sites.{length-sites_of}
use Rattle.px_flat.proofs.Slotted.{AreSlotted, slotted_more, first_at, variables_at, names_differ}
use Rattle.px_flat.proofs.names.slots_of.Goals as goal

pub bounds-extents-i : goal.bounds-extents-i
bounds-extents-i c =
    omega (arith, c.requires.extended.long, length-sites_of c.args.rows.now, c.loop-i-test.true)

pub of-requires-clause-differ : goal.of-requires-clause-differ
of-requires-clause-differ c =
    let rows = c.args.rows.now in
    let within : c.loop-i.i < length (sites_of rows) = omega (arith, length-sites_of rows, c.loop-i-test.true) in
    subst (λ variables. all_differ (map (λ variable. variable.name) variables) ≡ true)
    (sym (variables_at rows c.requires.laid c.loop-i.i c.index-rows-i.result c.deref.result.now c.loop-i-test.true c.deref.ensures.value))
    (names_differ (sites_of rows) c.requires.fit c.loop-i.i within)

pub of-requires-clause-few : goal.of-requires-clause-few
of-requires-clause-few c =
    let rows = c.args.rows.now in
    let within : c.loop-i.i < length (sites_of rows) = omega (arith, length-sites_of rows, c.loop-i-test.true) in
    cells_fit rows c.requires.laid c.loop-i.i _ c.index-rows-i.result c.deref.result.now c.loop-i-test.true c.deref.ensures.value
    (few_cells (sites_of rows) c.requires.fit) (first_at (sites_of rows) c.args.extents.now c.loop-i.i _ c.requires.extended within)

pub loop-i-preserved : goal.loop-i-preserved
loop-i-preserved c =
    let rows = c.args.rows.now in
    let plan : List Site = sites_of rows in
    let within : c.loop-i.i < length plan = omega (arith, length-sites_of rows, c.loop-i-test.true) in
    subst (λ slots. AreSlotted plan slots (c.loop-i.i + 1)) (sym c.in_ok-push.ensures.items)
    (slotted_more plan c.loop-i.slots.items c.in_ok-of.field-0 c.loop-i.i c.loop-i.invariant
    (c.in_ok-of.ensures
    ∙ (λ j. slots_from (first_at plan c.args.extents.now c.loop-i.i (record { first_cell = 0; cells = 0; end = 0 }) c.requires.extended within j)
    (variables_at rows c.requires.laid c.loop-i.i c.index-rows-i.result c.deref.result.now c.loop-i-test.true c.deref.ensures.value j))))

pub returns : goal.returns
returns c =
    let all : c.loop-i.i ≡ length (sites_of c.args.rows.now) =
    omega (arith, length-sites_of c.args.rows.now, c.loop-i-test.false, c.loop-i.auto.i-end) in
    record {
      long = c.loop-i.invariant.long ∙ all;
      each = λ node d within. c.loop-i.invariant.each node d (omega (arith, c.loop-i.invariant.long));
    }
