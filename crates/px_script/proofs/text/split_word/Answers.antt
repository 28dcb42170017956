use Rattle.px_script.proofs.Cuts.{cut_word}
use Rattle.px_script.proofs.text.split_word.Goals as goal

pub split_at-requires : goal.split_at-requires
split_at-requires c = rw (c.word_length.ensures.place, c.as_bytes.ensures.value) (cut_word c.args.text.now)
