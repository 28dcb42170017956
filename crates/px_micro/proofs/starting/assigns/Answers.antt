use Rattle.std.proofs.Common.{◌≡◌, ◌+◌, ◌<◌, ◌≤◌, Some, IfSome, ap, sym, ◌∙◌, subst, arith}
use Rattle.std.proofs.lemmas.Option.{get_or_from_slice_get}
use Rattle.px_value.specs.declared.value.Value.TheVariants as values
use Rattle.std.proofs.lemmas.Result.{IfOk-weaker}
use Rattle.px_core.specs.Plan as core
use Rattle.px_sem.specs.Effects.{as_kind, cell_of}
use Rattle.px_flat.specs.Layout.{variable_cells}
use Rattle.px_flat.specs.Numbered.{held}
use Rattle.px_flat.specs.NumberedData.{expr_data, target_data}
use Rattle.px_flat.proofs.Tables.{flat_sound}
use Rattle.px_micro.specs.declared.effects.UnderWay.TheVariants as under_way
use Rattle.px_micro.specs.Doing.{assigned, kept, writing}
use Rattle.px_parts.specs.Parts.{plan_in, value_in}
use Rattle.px_micro.specs.Places.{place_data, place_now}
use Rattle.px_micro.proofs.Meaning.{assigned_at}
use Rattle.px_micro.proofs.starting.assigns.Goals as goal

pub overflow_add-numbered : goal.overflow_add-numbered
overflow_add-numbered c =
    let inside : cell_of (place_data c.in-Some.place) < c.args.numbered.now.size =
    subst (λ place. IfSome place (λ place. cell_of (place_data place) < c.args.numbered.now.size)) c.in-Some.is
    c.in_ok-place.ensures.within in
    let few : variable_cells (plan_in c.args.parts.now) ≤ 131072 = (flat_sound c.args.parts.now.flat).cells in
    omega (arith, c.offset.ensures, inside, c.requires.target.place.within, few)

pub writing-requires : goal.writing-requires
writing-requires c =
    let inside : cell_of (place_data c.in-Some.place) < c.args.numbered.now.size =
    subst (λ place. IfSome place (λ place. cell_of (place_data place) < c.args.numbered.now.size)) c.in-Some.is
    c.in_ok-place.ensures.within in
    let few : variable_cells (plan_in c.args.parts.now) ≤ 131072 = (flat_sound c.args.parts.now.flat).cells in
    omega (arith, inside, c.requires.target.place.within, few)

pub returns : goal.returns
returns c =
    let parts = c.args.parts.now in
    let target = core.target_data c.args.target.now in
    let numbers = target_data c.args.numbered.now in
    let first = c.args.numbered.now.first in
    let all = parts.cells.contents.values in
    let place = c.in-Some.place in
    let given = value_in parts (expr_data c.args.right.now) in
    let value : c.in_ok-value.value ≡ as_kind c.args.numbered.now.kind given =
    c.in_ok-value.ensures ∙ ap (as_kind c.args.numbered.now.kind) c.in_ok-right.ensures.value in
    let old : c.in_ok-old.old ≡ held all (first + cell_of (place_data place)) =
    c.in_ok-old.ensures
    ∙ sym (get_or_from_slice_get all (first + c.offset.result) c.get.result.now values.Unknown c.get.ensures)
    ∙ ap (λ k. held all (first + k)) c.offset.ensures in
    let at : place_now parts numbers ≡ Some place = sym c.in_ok-place.ensures.place ∙ c.in-Some.is in
    IfOk-weaker c.writing.result
    (λ made. made ≡ writing target first place c.in_ok-value.value (under_way.Begun c.kept.result))
    (λ made. made ≡ assigned parts target numbers given)
    (λ made are. are
    ∙ (λ i. writing target first place (value i) (under_way.Begun ((c.kept.ensures ∙ ap (kept place) old) i)))
    ∙ sym (assigned_at parts target numbers given place at))
    c.writing.ensures
