use Rattle.std.proofs.Common.{arith}
use Rattle.px_event.proofs.Interfaces.{decodes, refuses}
use Rattle.px_event.proofs.bytes.named.decode_named.Goals as goal

pub returns-clause-named : goal.returns-clause-named
returns-clause-named c = decodes c.args.bytes.now c.read_whole.result (λ i. omega (arith, c.type_inv.bytes i)) c.read_whole.ensures

pub returns-clause-bad : goal.returns-clause-bad
returns-clause-bad c = refuses c.args.bytes.now c.read_whole.result c.read_whole.ensures
