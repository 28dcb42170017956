use Rattle.std.proofs.Common.{◌≡◌, length, refl, ap, ◌∙◌, arith}
use Rattle.px_sem.specs.Tolerances.{tolerances}
use Rattle.px_flat.specs.Flat.{plan_of}
use Rattle.px_flat.specs.Lookups.{lookups_of}
use Rattle.px_cached.specs.Conditions.{place_among}
use Rattle.px_cached.proofs.Reported.{numbered_there, place_there}
use Rattle.px_cached.proofs.sources.report_source.Goals as goal

pub overflow_cast-place : goal.overflow_cast-place
overflow_cast-place c =
    let plan = plan_of c.args.flat.now in
    let place = c.place_among-place.result in
    let is : place ≡ place_among (tolerances plan) c.args.tolerance =
    c.place_among-place.ensures ∙ ap (λ tolerances. place_among tolerances c.args.tolerance) c.tolerances.ensures in
    omega (
      arith,
      c.requires.few,
      numbered_there plan c.args.lookup c.args.tolerance c.requires.lookup place (length (lookups_of plan)) is refl,
      place_there plan c.args.lookup c.args.tolerance c.requires.lookup place (length (lookups_of plan)) is refl,
    )

pub overflow_mul-result : goal.overflow_mul-result
overflow_mul-result c =
    let plan = plan_of c.args.flat.now in
    let place = c.place_among-place.result in
    let is : place ≡ place_among (tolerances plan) c.args.tolerance =
    c.place_among-place.ensures ∙ ap (λ tolerances. place_among tolerances c.args.tolerance) c.tolerances.ensures in
    let there = numbered_there plan c.args.lookup c.args.tolerance c.requires.lookup place c.lookups.result is c.lookups.ensures in
    omega (arith, c.requires.few, there, c.all_cells.ensures.cells)

pub overflow_add-result : goal.overflow_add-result
overflow_add-result c =
    let plan = plan_of c.args.flat.now in
    let place = c.place_among-place.result in
    let is : place ≡ place_among (tolerances plan) c.args.tolerance =
    c.place_among-place.ensures ∙ ap (λ tolerances. place_among tolerances c.args.tolerance) c.tolerances.ensures in
    let there = numbered_there plan c.args.lookup c.args.tolerance c.requires.lookup place c.lookups.result is c.lookups.ensures in
    omega (arith, c.requires.few, there, c.all_cells.ensures.cells)

pub overflow_add-result-2 : goal.overflow_add-result-2
overflow_add-result-2 c =
    let plan = plan_of c.args.flat.now in
    let place = c.place_among-place.result in
    let is : place ≡ place_among (tolerances plan) c.args.tolerance =
    c.place_among-place.ensures ∙ ap (λ tolerances. place_among tolerances c.args.tolerance) c.tolerances.ensures in
    let there = numbered_there plan c.args.lookup c.args.tolerance c.requires.lookup place c.lookups.result is c.lookups.ensures in
    omega (arith, c.requires.few, there, c.all_cells.ensures.cells)

pub returns-clause-within : goal.returns-clause-within
returns-clause-within c =
    let plan = plan_of c.args.flat.now in
    let place = c.place_among-place.result in
    let is : place ≡ place_among (tolerances plan) c.args.tolerance =
    c.place_among-place.ensures ∙ ap (λ tolerances. place_among tolerances c.args.tolerance) c.tolerances.ensures in
    let there = numbered_there plan c.args.lookup c.args.tolerance c.requires.lookup place c.lookups.result is c.lookups.ensures in
    omega (arith, c.requires.few, there, c.all_cells.ensures.cells)
