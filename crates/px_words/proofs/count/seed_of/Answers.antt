use Rattle.std.proofs.Common.{sym, ◌∙◌}
use Rattle.px_words.proofs.Numbers.{seed_read}
use Rattle.px_words.proofs.count.seed_of.Goals as goal

pub returns : goal.returns
returns c =
    c.ok.ensures.value ∙ seed_read c.args.word.now c.parse.result (sym (rw c.as_bytes.ensures.value at c.if-not-is_digits.ensures)) c.parse.ensures.value.0
