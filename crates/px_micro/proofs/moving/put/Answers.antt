use Rattle.std.proofs.Common.{◌≡◌, set, not, true, sym, ap, ◌∙◌}
use Rattle.std.proofs.lemmas.Bool.{not-false}
use Rattle.std.proofs.lemmas.List.{set-get_or}
use Rattle.std.proofs.lemmas.Option.{get_or_from_slice_get}
use Rattle.px_value.specs.declared.value.Value.TheVariants as values
use Rattle.px_event.specs.Values.{value_eq}
use Rattle.px_event.proofs.Equality.{value_eq-decides}
use Rattle.px_flat.specs.Numbered.{held}
use Rattle.px_micro.proofs.moving.put.Goals as goal

pub returns-then-ne-clause-same : goal.returns-then-ne-clause-same
returns-then-ne-clause-same c = λ same.
    let cells = c.args.cells.now.contents.values in
    let found : held cells c.args.at ≡ c.get.result.now =
    get_or_from_slice_get cells c.args.at c.get.result.now values.Unknown c.get.ensures in
    let equal : value_eq c.get.result.now c.args.value ≡ true =
    (value_eq-decides c.get.result.now c.args.value).1 (sym found ∙ same) in
    absurd (cc (sym c.if-ne.true ∙ c.ne.ensures ∙ ap not equal))

pub returns-else-ne-clause-values : goal.returns-else-ne-clause-values
returns-else-ne-clause-values c =
    let cells = c.args.cells.now.contents.values in
    let found : held cells c.args.at ≡ c.get.result.now =
    get_or_from_slice_get cells c.args.at c.get.result.now values.Unknown c.get.ensures in
    let equal : value_eq c.get.result.now c.args.value ≡ true =
    not-false (value_eq c.get.result.now c.args.value) (sym c.ne.ensures ∙ c.if-ne.false) in
    sym (ap (set cells c.args.at) (sym (found ∙ (value_eq-decides c.get.result.now c.args.value).0 equal))
    ∙ set-get_or cells c.args.at values.Unknown)
