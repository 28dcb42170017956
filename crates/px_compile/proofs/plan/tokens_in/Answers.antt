use Rattle.std.proofs.lemmas.Str.{is_utf8-from_IsUtf8}
use Rattle.px_compile.proofs.plan.tokens_in.Goals as goal

pub returns-in-Err-clause-fault : goal.returns-in-Err-clause-fault
returns-in-Err-clause-fault c =
    c.no_tokens.ensures c.args.text.now (is_utf8-from_IsUtf8 c.args.text.now c.utf8.text) c.in-Err.ensures.fault
