use Rattle.px_session.proofs.TakenUp.{not_run, not_taken_up, read_ready, taken_up}
use Rattle.px_session.proofs.reopening.reopen.Goals as goal

pub run_recovered-requires-clause-ready : goal.run_recovered-requires-clause-ready
run_recovered-requires-clause-ready g c = read_ready g.D.Disk c.args.name.now c.args.disk c.in-Ok.recovered c.in-Ok.ensures.read

pub returns-in-Err-clause-refused : goal.returns-in-Err-clause-refused
returns-in-Err-clause-refused g c =
    not_taken_up g.D.Disk c.args.name.now c.args.disk c.in-Err.field-0 c.into.result c.into.ensures c.in-Err.ensures.refused

pub returns-in-Ok-clause-refused : goal.returns-in-Ok-clause-refused
returns-in-Ok-clause-refused g c =
    not_run g.D.Disk c.args.name.now c.args.disk c.in-Ok.recovered c.in-Ok.ensures.read c.run_recovered.result
    c.run_recovered.ensures.handed_back c.run_recovered.ensures.why

pub returns-in-Ok-clause-reopened : goal.returns-in-Ok-clause-reopened
returns-in-Ok-clause-reopened g c =
    let run = c.run_recovered.ensures in
    taken_up g.D.Disk c.args.name.now c.args.disk c.in-Ok.recovered c.in-Ok.ensures.read g.S.Stepper c.args.limit c.run_recovered.result
    run.compiled run.fit run.nodes run.settles run.opening
