use Rattle.std.proofs.Common.{◌+◌, ◌<◌, ◌^◌, ap, arith}
use Rattle.std.specs.Option.{option_map}
use Rattle.px_flat.specs.NumberedData.{target_data, expr_data}
use Rattle.px_command.proofs.Slots.{element_cell}
use Rattle.px_command.proofs.taking.cell_in.Goals as goal

pub overflow_add-result : goal.overflow_add-result
overflow_add-result c =
    let few : c.args.target.now.first + c.in-Some-taken.index < 2 ^ 32 =
    c.requires (c.args.target.now.first + c.in-Some-taken.index)
    (element_cell (target_data c.args.target.now) (expr_data c.in-Some.field-0) c.args.taken c.in-Some-taken.index
    (ap (option_map expr_data) c.in-Some.is) c.in-Some-taken.is) in
    omega (arith, few)
