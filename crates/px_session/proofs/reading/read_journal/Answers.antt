use Rattle.px_session.proofs.TakenUp.{not_attached, is_read, not_read}
use Rattle.px_session.proofs.reading.read_journal.Goals as goal

pub returns-in-Err-clause-refused : goal.returns-in-Err-clause-refused
returns-in-Err-clause-refused g c = not_attached g.D.Disk c.args.name.now c.args.disk c.in-Err.disk c.in-Err.ensures.failed

pub returns-in-Ok-clause-read : goal.returns-in-Ok-clause-read
returns-in-Ok-clause-read g c =
    let told = c.recover.ensures in
    is_read g.D.Disk c.args.name.now c.args.disk c.in-Ok.disk c.in-Ok.ensures.attached c.recover.result told.named told.same told.writes_nothing told.goes

pub returns-in-Ok-clause-refused : goal.returns-in-Ok-clause-refused
returns-in-Ok-clause-refused g c =
    let told = c.recover.ensures in
    not_read g.D.Disk c.args.name.now c.args.disk c.in-Ok.disk c.in-Ok.ensures.attached c.recover.result told.no_journal told.damaged told.same told.synced told.writes_nothing told.goes
