use Rattle.std.proofs.Common.{sym}
use Rattle.px_script.specs.Kinds.{plan_of}
use Rattle.px_script.proofs.Saids.{return_row, wait_row}
use Rattle.px_script.proofs.parsed_line.said_in_text.Goals as goal

pub returns-then-is_word-3 : goal.returns-then-is_word-3
returns-then-is_word-3 c =
    rw (
      return_row (plan_of c.args.kinds.now) c.args.text.now (rw c.split_word.ensures.word at (sym c.if-is_word.ensures))
          (rw c.split_word.ensures.word at (sym c.if-is_word-2.ensures)) (rw c.split_word.ensures.word at (sym c.if-is_word-3.ensures)),
      ← c.split_word.ensures.behind,
    )
    c.return_line.ensures

pub returns-then-is_word-6 : goal.returns-then-is_word-6
returns-then-is_word-6 c =
    rw (
      wait_row (plan_of c.args.kinds.now) c.args.text.now (rw c.split_word.ensures.word at (sym c.if-is_word.ensures))
          (rw c.split_word.ensures.word at (sym c.if-is_word-2.ensures)) (rw c.split_word.ensures.word at (sym c.if-is_word-3.ensures))
          (rw c.split_word.ensures.word at (sym c.if-is_word-4.ensures)) (rw c.split_word.ensures.word at (sym c.if-is_word-5.ensures))
          (rw c.split_word.ensures.word at (sym c.if-is_word-6.ensures)),
      ← c.split_word.ensures.behind,
    )
    c.wait_line.ensures
