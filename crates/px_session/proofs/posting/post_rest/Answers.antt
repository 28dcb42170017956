use Rattle.px_session.proofs.posting.post_rest.Goals as goal

pub returns : goal.returns
returns g c =
    c.close.ensures c.args.exec c.args.script.now.threads c.work_together-exec.ensures.opening c.work_together-exec.ensures.ends
