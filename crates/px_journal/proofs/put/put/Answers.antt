use Rattle.px_journal.proofs.Moments.{puts}
use Rattle.px_journal.proofs.put.put.Goals as goal

pub returns-clause-puts : goal.returns-clause-puts
returns-clause-puts g c = puts _ _ _ _ _ _ _ _ _ _ c.in_ok-write_at.ensures.writes c.sync.ensures.syncs
