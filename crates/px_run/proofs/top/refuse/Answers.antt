use Rattle.std.proofs.Common.{◌∙◌}
use Rattle.px_ending.specs.Statuses.{ending_of}
use Rattle.px_output.specs.View.{view}
use Rattle.px_run.proofs.Delivering.{emits_none, emits_all, emits_till_fault}
use Rattle.px_run.proofs.top.refuse.Goals as goal

pub returns-in_default-clause-delivers : goal.returns-in_default-clause-delivers
returns-in_default-clause-delivers g c = emits_none (view g.H.Host c.args.host.now) (ending_of c.args.refusal)

pub returns-in-Ok-emit_all-clause-delivers : goal.returns-in-Ok-emit_all-clause-delivers
returns-in-Ok-emit_all-clause-delivers g c =
    emits_all (view g.H.Host c.args.host.now) (view g.H.Host c.emit_all.new.host) (ending_of c.args.refusal) c.as_bytes.result.now _
    (c.as_bytes.ensures.value ∙ c.in-Ok.ensures) c.status.ensures c.in-Ok-emit_all.ensures.prints

pub returns-clause-delivers : goal.returns-clause-delivers
returns-clause-delivers g c =
    emits_till_fault (view g.H.Host c.args.host.now) (view g.H.Host c.emit_all.new.host) (ending_of c.args.refusal) c.as_bytes.result.now
    (c.as_bytes.ensures.value ∙ c.in-Ok.ensures) (rw c.in-Err.ensures.of_the_sink at c.in-Err.ensures.prints)
