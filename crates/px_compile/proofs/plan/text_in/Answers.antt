use Rattle.px_value.proofs.General.{not_utf8}
use Rattle.px_compile.proofs.plan.text_in.Goals as goal

pub returns-in-Err-clause-fault : goal.returns-in-Err-clause-fault
returns-in-Err-clause-fault c =
    (not_utf8 c.args.bytes.now c.in-Err.ensures.cases.0, rw c.valid_up_to.ensures c.in-Err.ensures.cases.1)
