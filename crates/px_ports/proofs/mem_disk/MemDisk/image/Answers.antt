use Rattle.px_ports.proofs.Elapsing.{picked-if_ok}
use Rattle.px_ports.proofs.mem_disk.MemDisk.image.Goals as goal

pub returns-clause-left : goal.returns-clause-left
returns-clause-left c =
    rw (← c.self.view_is) (picked-if_ok c.image.result c.args.pick c.self.inside.contents.moments c.image.ensures)
