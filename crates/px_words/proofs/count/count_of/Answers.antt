use Rattle.std.proofs.Common.{sym, ◌∙◌}
use Rattle.px_words.proofs.Numbers.{no_count}
use Rattle.px_words.proofs.count.count_of.Goals as goal

pub returns-in_err-count : goal.returns-in_err-count
returns-in_err-count c =
    c.from_residual.ensures
    ∙ no_count c.args.word.now c.parse.result (sym (rw c.as_bytes.ensures.value at c.if-not-is_digits.ensures)) c.parse.ensures.value.0
    (sym c.ok.ensures.value ∙ c.in_err-count.was)
