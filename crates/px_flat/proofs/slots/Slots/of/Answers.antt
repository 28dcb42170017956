use Rattle.std.proofs.Common.{◌≡◌, ◌+◌, List, get_or, map, sum, take, ap, sym, ◌∙◌, arith}
use Rattle.std.proofs.lemmas.List.{length-map, take_all}
use Rattle.indexmap.specs.IndexMap.{insert_entry}
use Rattle.px_core.proofs.Cells.{cells_are}
use Rattle.px_core.specs.Fit.{cells_of}
use Rattle.px_core.specs.Plan.{VariableData, variable_data, is_same}
use Rattle.px_flat.specs.declared.slots.Slot.{Slot}
use Rattle.px_flat.specs.Slots.{slot_at, slots_from}
use Rattle.px_flat.proofs.Slotted.{slots_more, length-slots_from, next}
use Rattle.px_flat.proofs.Sums.{sum_front}
use Rattle.px_flat.proofs.slots.Slots.of.Goals as goal

pub overflow_add-cell : goal.overflow_add-cell
overflow_add-cell c =
    omega (
      arith,
      c.loop-variable.invariant.1,
      c.unwrap_or-size.ensures,
      (next _ c.loop-variable.variable-index c.variable-item.result c.loop-variable-test.true c.variable-item.is).cells,
      c.requires.few,
      sum_front cells_of (map variable_data c.args.variables.now) (c.loop-variable.variable-index + 1),
    )

pub loop-variable-preserved : goal.loop-variable-preserved
loop-variable-preserved c =
    let all : List VariableData = map variable_data c.args.variables.now in
    let i = c.loop-variable.variable-index in
    let here = variable_data c.variable-item.result in
    let following = next _ i c.variable-item.result c.loop-variable-test.true c.variable-item.is in
    let size : c.unwrap_or-size.result ≡ cells_of here = c.unwrap_or-size.ensures ∙ sym (cells_are here) in
    let slot : slot_at c.loop-variable.cell here ≡ slot_at (c.args.first + sum (map cells_of (take i all))) (get_or all i here) =
    λ j. slot_at (c.loop-variable.invariant.1 j) (sym following.is j) in
    let given : Slot = record { first = c.loop-variable.cell; size = c.unwrap_or-size.result; kind = here.kind } in
    let made : given ≡ slot_at c.loop-variable.cell here =
    λ j. record { first = c.loop-variable.cell; size = size j; kind = here.kind } in (
      c.in_ok-insert.ensures.entries
          ∙ (λ j. insert_entry is_same (c.loop-variable.invariant.0 j)
          ((c.in_ok-copy.ensures.copy ∙ ap (λ variable. variable.name) (sym following.is)) j) ((made ∙ slot) j))
          ∙ slots_more c.args.first i all here following.within c.requires.differ,
      omega (arith, c.loop-variable.invariant.1, c.unwrap_or-size.ensures, following.cells),
    )

pub returns : goal.returns
returns c =
    let all : List VariableData = map variable_data c.args.variables.now in
    c.loop-variable.invariant.0
    ∙ take_all c.loop-variable.variable-index (slots_from c.args.first all)
    (omega (
      arith,
      c.loop-variable-test.false,
      length-slots_from c.args.first all,
      length-map c.args.variables.now variable_data,
    ))
