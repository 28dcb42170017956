use Rattle.std.proofs.Common.{arith}
use Rattle.px_flat.proofs.Tables.{flat_sound, flat_long}
use Rattle.px_flat.proofs.flat.Flat.nodes.Goals as goal

pub overflow_cast-result : goal.overflow_cast-result
overflow_cast-result c =
    let flat = c.args.self.now in
    omega (arith, c.len.ensures, flat.nodes.ok.0, flat_long flat, (flat_sound flat).few)

pub returns-clause-count : goal.returns-clause-count
returns-clause-count c =
    let flat = c.args.self.now in omega (arith, c.len.ensures, flat.nodes.ok.0, flat_long flat)

pub returns-clause-some : goal.returns-clause-some
returns-clause-some c =
    let flat = c.args.self.now in
    omega (arith, c.len.ensures, flat.nodes.ok.0, flat_long flat, (flat_sound flat).some)

pub returns-clause-few : goal.returns-clause-few
returns-clause-few c =
    let flat = c.args.self.now in
    omega (arith, c.len.ensures, flat.nodes.ok.0, flat_long flat, (flat_sound flat).few)
