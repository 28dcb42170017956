use Rattle.std.proofs.Common.{refl, sym}
use Rattle.px_lex.proofs.Words.{word_of, long_word, real_word}
use Rattle.px_lex.proofs.word.word.Goals as goal

pub returns-then-word-gt-NAME_LIMIT-clause-fault : goal.returns-then-word-gt-NAME_LIMIT-clause-fault
returns-then-word-gt-NAME_LIMIT-clause-fault c = (
  refl,
  long_word c.args.text.now c.split_run.result.0.now c.split_run.result.1.now c.split_run.ensures.whole
      (word_of c.args.text.now c.split_run.result.0.now c.split_run.result.1.now c.requires c.split_run.ensures.whole c.split_run.ensures.run c.split_run.ensures.longest)
      c.if-word-gt-NAME_LIMIT.true,
)

pub returns-then-is_left_out-clause-fault : goal.returns-then-is_left_out-clause-fault
returns-then-is_left_out-clause-fault c = (
  refl,
  real_word c.args.text.now c.split_run.result.0.now c.split_run.result.1.now c.split_run.ensures.whole
      (word_of c.args.text.now c.split_run.result.0.now c.split_run.result.1.now c.requires c.split_run.ensures.whole c.split_run.ensures.run c.split_run.ensures.longest)
      c.if-word-gt-NAME_LIMIT.false (sym c.if-is_left_out.ensures),
)
