use Rattle.std.proofs.Common.{◌≡◌, ◌<◌, length, get_or, Some, None, arith, rules, refl, sym, ◌∙◌}
use Rattle.std.proofs.lemmas.List.{get_or_read}
use Rattle.px_value.proofs.General.{none_from}
use Rattle.px_cells.proofs.Noting.{changed_within, offset_fits, back_to_old, back_to_none, left_none}
use Rattle.px_cells.proofs.Marking.{at_mark-none}
use Rattle.px_cells.proofs.marked.put_back.Goals as goal
use Rattle.px_cells.proofs.marked.put_back.Goals.{in-Some, in_default}

pub bounds-olds-at : goal.bounds-olds-at
bounds-olds-at g c =
    omega (
      arith,
      c.loop-at.auto.olds,
      changed_within c.args.olds.now c.args.changed.now c.loop-at.at-index 0 c.requires.noted c.loop-at-test.true,
    )

pub offset_bounds-olds-at : goal.offset_bounds-olds-at
offset_bounds-olds-at g c = offset_fits c.args.olds.now c.args.changed.now c.loop-at.at-index _ c.requires.noted c.loop-at-test.true
    (length c.args.olds.now) refl c.well_formed.1.0.1

pub bounds-values-at : goal.bounds-values-at
bounds-values-at g c =
    omega (
      arith,
      c.loop-at.auto.values,
      c.requires.sized,
      changed_within c.args.olds.now c.args.changed.now c.loop-at.at-index 0 c.requires.noted c.loop-at-test.true,
    )

pub offset_bounds-values-at : goal.offset_bounds-values-at
offset_bounds-values-at g c = offset_fits c.args.olds.now c.args.changed.now c.loop-at.at-index _ c.requires.noted c.loop-at-test.true
    (length c.args.values.now) c.requires.sized c.well_formed.0.1

pub loop-at-preserved : goal.loop-at-preserved
loop-at-preserved g c =
    let changed = c.args.changed.now in
    let i = c.loop-at.at-index in
    let olds = c.loop-at.olds in
    let within : get_or changed i 0 < length olds =
    omega (arith, c.loop-at.auto.olds, changed_within c.args.olds.now changed i 0 c.requires.noted c.loop-at-test.true) in
    let read : c.index-olds-at.result ≡ get_or olds (get_or changed i 0) None =
    get_or_read olds (get_or changed i 0) c.index-olds-at.result within c.index-olds-at.is None in
    let gone : c.take.new.self ≡ None = search rules in
    rw gone (elim c.match-take.branch [
      | in-Some w ↦
          let is : get_or olds (get_or changed i 0) None ≡ Some w.in-Some.old = search rules in
          rw w.values-is (back_to_old c.args.olds.now c.args.values.now changed i 0 olds c.loop-at.values w.in-Some.old
          c.loop-at.invariant c.loop-at-test.true within is)
      | in_default w ↦
          let is : get_or olds (get_or changed i 0) None ≡ None =
          sym read ∙ c.index-olds-at.is ∙ sym c.take.ensures.value ∙ none_from c.take.result w.in_default.not-Some in
          rw w.values-is (back_to_none c.args.olds.now c.args.values.now changed i 0 olds c.loop-at.values
          c.loop-at.invariant c.loop-at-test.true within is)
    ])

pub returns-clause-values : goal.returns-clause-values
returns-clause-values g c =
    sym (at_mark-none c.loop-at.olds c.loop-at.values c.loop-at.invariant.sized
    (left_none c.loop-at.olds c.args.changed.now c.loop-at.at-index c.loop-at-test.false c.loop-at.invariant.left))
    ∙ c.loop-at.invariant.same
