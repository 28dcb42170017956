use Rattle.std.proofs.Common.{◌≡◌, ◌+◌, ◌<◌, ◌++◌, List, length, map, sum, take, get_or, replicate, ap, sym, ◌∙◌, arith}
use Rattle.std.proofs.lemmas.List.{append_assoc, get_or-map, length-append, length-map, take_all}
use Rattle.px_core.proofs.Cells.{cells_are}
use Rattle.px_core.specs.Fit.{cells_of}
use Rattle.px_core.specs.Plan.{VariableData, variable_data}
use Rattle.px_flat.proofs.Sums.{sum_front}
use Rattle.px_cached.specs.Firsts.{firsts_from}
use Rattle.px_cached.proofs.FirstCells.{length-firsts_from, more_variables}
use Rattle.px_cached.proofs.firsts.push_variables.Goals as goal
use Rattle.px_cached.proofs.firsts.push_variables.Goals.{In-loop-variable}

-- so many are there
long : (c : In-loop-variable) → length c.loop-variable.firsts.items ≡ length c.args.firsts.now.items
    + sum (map cells_of (take c.loop-variable.variable-index (map variable_data c.args.variables.now)))
long c =
    let start = c.args.firsts.now.items in
    let front = take c.loop-variable.variable-index (map variable_data c.args.variables.now) in
    omega (
      arith,
      ap length c.loop-variable.invariant,
      length-append start (firsts_from (length start) front),
      length-firsts_from (length start) front,
    )

pub push_cells-requires : goal.push_cells-requires
push_cells-requires c = omega (
  arith,
  long ((goal.at.push_cells-requires c).In-loop-variable),
  c.requires,
  sum_front cells_of (map variable_data c.args.variables.now) c.loop-variable.variable-index,
)

pub loop-variable-preserved : goal.loop-variable-preserved
loop-variable-preserved c =
    let variables = c.args.variables.now in
    let start = c.args.firsts.now.items in
    let all : List VariableData = map variable_data variables in
    let i = c.loop-variable.variable-index in
    let here = variable_data c.variable-item.result in
    let front = firsts_from (length start) (take i all) in
    let within : i < length all = omega (arith, length-map variables variable_data, c.loop-variable-test.true) in
    let is : get_or all i here ≡ here =
    get_or-map variable_data variables i c.variable-item.result here c.loop-variable-test.true
    ∙ ap variable_data (sym c.variable-item.is) in
    let size : c.unwrap_or.result ≡ cells_of (get_or all i here) = c.unwrap_or.ensures ∙ sym (cells_are here) ∙ ap cells_of (sym is) in
    let at = long ((goal.at.loop-variable-preserved c).In-loop-variable) in
    c.in_ok-push_cells.ensures
    ∙ (λ j. c.loop-variable.invariant j ++ replicate (size j) (at j))
    ∙ append_assoc start front (replicate (cells_of (get_or all i here)) (length start + sum (map cells_of (take i all))))
    ∙ ap (λ rest. start ++ rest) (sym (more_variables (length start) all i here within))

pub returns : goal.returns
returns c =
    let all : List VariableData = map variable_data c.args.variables.now in
    c.loop-variable.invariant
    ∙ ap (λ variables. c.args.firsts.now.items ++ firsts_from (length c.args.firsts.now.items) variables)
    (take_all c.loop-variable.variable-index all
    (omega (arith, c.loop-variable-test.false, length-map c.args.variables.now variable_data)))
