use Rattle.std.proofs.Common.{subst}
use Rattle.px_compile.specs.Compiled.{IsCompiled}
use Rattle.px_core.specs.Plan.{tree_of}
use Rattle.px_session.specs.Reopening.{IsRunWhy}
use Rattle.px_session.proofs.TakenUp.{not_opened}
use Rattle.px_session.proofs.reopening.run_recovered.Goals as goal

pub returns-in-Ok-open-clause-compiled : goal.returns-in-Ok-open-clause-compiled
returns-in-Ok-open-clause-compiled g c =
    subst (λ text. IsCompiled text (tree_of c.in-Ok.started.plan)) c.deref.ensures.value c.in-Ok.ensures.compiled

pub returns-in-Err-clause-why : goal.returns-in-Err-clause-why
returns-in-Err-clause-why g c =
    let history = c.args.recovered.history.items in
    subst (λ text. IsRunWhy text history c.in-Err.why) c.deref.ensures.value (c.in-Err.ensures.why history)

pub returns-clause-why : goal.returns-clause-why
returns-clause-why g c =
    let tree = tree_of c.in-Ok.started.plan in
    not_opened c.args.recovered.plan.items c.args.recovered.history.items tree (g.S.Stepper.state c.in-Ok.started.stepper).nodes c.in-Err-open.field-0.why
    c.into.result c.into.ensures (subst (λ text. IsCompiled text tree) c.deref.ensures.value c.in-Ok.ensures.compiled) c.in-Ok.ensures.nodes
    c.in-Err-open.ensures.refused.why
