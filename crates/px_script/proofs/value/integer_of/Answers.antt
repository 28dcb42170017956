use Rattle.px_script.proofs.Integers.{no_integer}
use Rattle.px_script.proofs.value.integer_of.Goals as goal

pub returns-in-Err : goal.returns-in-Err
returns-in-Err c =
    no_integer c.args.spelling.now (rw (← c.as_bytes.ensures.value, ← c.is_number.ensures) c.if-not-is_number.false) c.in-Err.ensures.value.0
