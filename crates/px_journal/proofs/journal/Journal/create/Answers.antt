use Rattle.px_journal.proofs.Creating.{made_ready, made_leaves}
use Rattle.px_journal.proofs.journal.Journal.create.Goals as goal

pub returns-clause-made : goal.returns-clause-made
returns-clause-made g c = made_ready g.D.Disk c.args.plan_text.now c.create_as.result c.create_as.ensures.made

pub returns-clause-old_or_new : goal.returns-clause-old_or_new
returns-clause-old_or_new g c = made_leaves g.D.Disk c.args.plan_text.now _ c.args.disk _ c.create_as.ensures.old_or_new

pub returns-clause-old_or_new_as : goal.returns-clause-old_or_new_as
returns-clause-old_or_new_as g c = c.create_as.ensures.old_or_new

pub returns-clause-goes : goal.returns-clause-goes
returns-clause-goes g c = c.create_as.ensures.goes
