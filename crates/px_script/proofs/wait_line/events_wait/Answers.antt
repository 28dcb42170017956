use Rattle.std.proofs.Common.{sym, ◌∙◌, arith}
use Rattle.px_script.proofs.Digits.{read_short}
use Rattle.px_script.proofs.wait_line.events_wait.Goals as goal

pub returns-in_err-least : goal.returns-in_err-least
returns-in_err-least c =
    absurd
    (read_short c.args.text.now c.parse.result (sym (rw c.as_bytes.ensures.value at c.if-not-are_digits.ensures)) (omega arith) c.parse.ensures.value.0
    (sym c.ok.ensures.value ∙ c.in_err-least.was))
