use Rattle.px_output.specs.View.{view}
use Rattle.px_run.proofs.SeenFiles.{without_text}
use Rattle.px_run.proofs.check.fetch_nodes.Goals as goal

pub returns-clause-ok : goal.returns-clause-ok
returns-clause-ok g c =
    let (text, plan, reads, spelled, counted) = c.in_ok-made.ensures.ok in
    (plan, without_text (view g.H.Host c.args.host.now) (view g.H.Host c.fetch_tree.new.host) c.args.plan.now (text, plan) reads, counted)
