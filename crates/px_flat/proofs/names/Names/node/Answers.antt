use Rattle.std.proofs.Common.{arith}
use Rattle.px_flat.proofs.Known.{names_sound, length-paths}
use Rattle.px_flat.proofs.names.Names.node.Goals as goal

pub overflow_cast-result : goal.overflow_cast-result
overflow_cast-result c =
    let names = c.args.self.now in omega (arith, c.in-Some.ensures.within, length-paths names, (names_sound names).few)
