use Rattle.std.proofs.Common.{arith}
use Rattle.px_flat.proofs.Tables.{flat_sound}
use Rattle.px_flat.proofs.flat.Flat.handle_cell.Goals as goal

pub overflow_add-result : goal.overflow_add-result
overflow_add-result c =
    let flat = c.args.self.now in
    omega (arith, c.requires, c.state_cell.ensures.cell, (flat_sound flat).few, (flat_sound flat).cells)
