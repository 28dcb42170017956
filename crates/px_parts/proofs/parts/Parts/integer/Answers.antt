use Rattle.std.proofs.Common.{◌≡◌, ◌<◌, List, length, map, sum, ap, sym, ◌∙◌, arith, Some, None, rules}
use Rattle.std.proofs.lemmas.Option.{get_or_from_slice_get}
use Rattle.px_value.specs.declared.value.Value.TheVariants as values
use Rattle.px_core.specs.Fit.{cells_of}
use Rattle.px_core.specs.Plan.{VariableData, variable_data}
use Rattle.px_flat.specs.Layout.{first_cell}
use Rattle.px_flat.specs.Row.{site_in, number_at}
use Rattle.px_flat.proofs.Tables.{flat_sound}
use Rattle.px_flat.proofs.Variables.{cells_within}
use Rattle.px_parts.specs.Parts.{plan_in}
use Rattle.px_parts.specs.Readings.{integer_in}
use Rattle.px_parts.proofs.Integers.{IsSought, no_owner, sought_in, sought_read, sought_within}
use Rattle.px_parts.proofs.parts.Parts.integer.Goals as goal

pub returns-in_err-node : goal.returns-in_err-node
returns-in_err-node c =
    let none : number_at (plan_in c.args.self.now) c.args.owner.now ≡ None = search rules in
    let gives : c.from_residual.result ≡ None = search rules in
    gives ∙ no_owner c.args.self.now c.args.owner.now c.args.name.now none

pub scalar_from-requires : goal.scalar_from-requires
scalar_from-requires c =
    let plan = plan_in c.args.self.now in
    let node = c.in_ok-node.node in
    let within : node < length plan = search rules in
    let variables : map variable_data c.deref.result.now ≡ (site_in plan node).head.variables =
    ap (map variable_data) c.deref.ensures.value ∙ ap (λ head. head.variables) c.row.ensures.head in
    let first : c.extent.result.first_cell ≡ first_cell plan node = ap (λ extent. extent.first_cell) c.extent.ensures.extent in
    omega (
      arith,
      first,
      ap (λ (variables : List VariableData). sum (map cells_of variables)) variables,
      cells_within plan node within,
      (flat_sound c.args.self.now.flat).cells,
    )

pub returns-in_err-cell : goal.returns-in_err-cell
returns-in_err-cell c =
    let parts = c.args.self.now in
    let none : c.scalar_from.result ≡ None = search rules in
    let gives : c.from_residual-in_err-cell.result ≡ None = search rules in
    let sought : IsSought parts c.args.owner.now c.args.name.now c.in_ok-node.node None = record {
      within = search rules;
      number = search rules;
      found = sought_in parts c.in_ok-node.node c.extent.result c.row.result.now c.deref.result.now c.args.name.now
          c.extent.ensures.extent c.row.ensures.head c.deref.ensures.value ∙ sym c.scalar_from.ensures ∙ none;
      stand = c.requires;
    } in
    gives ∙ sought_read parts c.args.owner.now c.args.name.now c.in_ok-node.node None sought

pub get-requires : goal.get-requires
get-requires c =
    let parts = c.args.self.now in
    let some : c.scalar_from.result ≡ Some c.in_ok-cell.cell = search rules in
    let sought : IsSought parts c.args.owner.now c.args.name.now c.in_ok-node.node (Some c.in_ok-cell.cell) = record {
      within = search rules;
      number = search rules;
      found = sought_in parts c.in_ok-node.node c.extent.result c.row.result.now c.deref.result.now c.args.name.now
          c.extent.ensures.extent c.row.ensures.head c.deref.ensures.value ∙ sym c.scalar_from.ensures ∙ some;
      stand = c.requires;
    } in
    sought_within parts c.args.owner.now c.args.name.now c.in_ok-node.node c.in_ok-cell.cell sought

pub returns : goal.returns
returns c =
    let parts = c.args.self.now in
    let some : c.scalar_from.result ≡ Some c.in_ok-cell.cell = search rules in
    let sought : IsSought parts c.args.owner.now c.args.name.now c.in_ok-node.node (Some c.in_ok-cell.cell) = record {
      within = search rules;
      number = search rules;
      found = sought_in parts c.in_ok-node.node c.extent.result c.row.result.now c.deref.result.now c.args.name.now
          c.extent.ensures.extent c.row.ensures.head c.deref.ensures.value ∙ sym c.scalar_from.ensures ∙ some;
      stand = c.requires;
    } in
    c.integer_in.ensures
    ∙ ap integer_in (sym (get_or_from_slice_get parts.cells.contents.values c.in_ok-cell.cell c.get.result.now values.Unknown c.get.ensures))
    ∙ sought_read parts c.args.owner.now c.args.name.now c.in_ok-node.node (Some c.in_ok-cell.cell) sought
