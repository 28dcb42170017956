use Rattle.px_lex.proofs.Cuts.{cut_front}
use Rattle.px_script.specs.Text.{is_blank}
use Rattle.px_script.proofs.Cuts.{blank_ascii}
use Rattle.px_script.proofs.text.trim_start.Goals as goal

pub range_from-requires : goal.range_from-requires
range_from-requires c = λ _. rw (c.blanks_at_start.ensures.blanks, c.as_bytes.ensures.value) (cut_front is_blank blank_ascii c.args.text.now c.utf8.text)
