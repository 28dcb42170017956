use Rattle.std.proofs.lemmas.Grind.{common_steps}
use Rattle.std.proofs.Common.{arith}
use Rattle.px_ports.proofs.Elapsing.{syncs_ok}
use Rattle.px_ports.proofs.mem_disk.MemDiskDisk.sync.Goals as goal

pub returns-clause-syncs : goal.returns-clause-syncs
returns-clause-syncs c = syncs_ok c.args.self.now.contents.moments c.sync.new.self.moments (grind (arith, common_steps))
