use Rattle.std.proofs.Common.{arith}
use Rattle.std.proofs.lemmas.Grind.{common_steps}
use Rattle.px_ports.proofs.Elapsing.{writes_ok, writes_err}
use Rattle.px_ports.proofs.mem_disk.MemDiskDisk.write_at.Goals as goal

pub returns-in-Err-clause-writes : goal.returns-in-Err-clause-writes
returns-in-Err-clause-writes c =
    writes_err c.args.self.now.contents.moments c.fail_to_write.new.self.moments c.in-Err.fault c.args.at c.args.bytes.now
    c.args.self.now.contents.room (grind (arith, common_steps))

pub returns-then-is_err-clause-writes : goal.returns-then-is_err-clause-writes
returns-then-is_err-clause-writes c =
    writes_err c.args.self.now.contents.moments c.fail_to_write-then-is_err.new.self.moments c.fault.result c.args.at c.args.bytes.now
    c.args.self.now.contents.room (grind (arith, common_steps))

pub returns-clause-writes : goal.returns-clause-writes
returns-clause-writes c =
    writes_ok c.args.self.now.contents.moments c.write.new.self.moments c.args.at c.args.bytes.now (grind (arith, common_steps))
