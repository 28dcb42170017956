use Rattle.std.proofs.Common.{arith}
use Rattle.px_flat.proofs.Tables.{flat_sound}
use Rattle.px_flat.proofs.flat.Flat.state_cell.Goals as goal

pub overflow_mul-result : goal.overflow_mul-result
overflow_mul-result c = omega (arith, c.requires, (flat_sound c.args.self.now).few)

pub overflow_add-result : goal.overflow_add-result
overflow_add-result c =
    let flat = c.args.self.now in omega (arith, c.requires, (flat_sound flat).few, (flat_sound flat).cells, flat.cells)
