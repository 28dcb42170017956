use Rattle.std.proofs.Common.{arith}
use Rattle.px_event.proofs.Entries.{decodes, refuses}
use Rattle.px_event.proofs.bytes.entries.decode.Goals as goal

pub returns-clause-entry : goal.returns-clause-entry
returns-clause-entry c = decodes c.args.bytes.now c.read_whole.result (λ i. omega (arith, c.type_inv.bytes i)) c.read_whole.ensures

pub returns-clause-bad : goal.returns-clause-bad
returns-clause-bad c = refuses c.args.bytes.now c.read_whole.result c.read_whole.ensures
